use Rattle.encoded_word.proofs.Shares.{Taking}
use Rattle.encoded_word_write.proofs.share.Given as goal

abbrev pub invariant-loop-i : goal.invariant-loop-i
invariant-loop-i l = Taking l.units l.i l.size l.before l.run
