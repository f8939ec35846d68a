use Rattle.jp2_tally.proofs.Counting.{Counted}
use Rattle.jp2_tally.proofs.tally.Given as goal

abbrev pub invariant-loop-i : goal.invariant-loop-i
invariant-loop-i l = Counted l.cells l.counts l.i
