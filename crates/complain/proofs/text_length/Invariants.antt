use Rattle.complain.proofs.Plain.{PlainTo}
use Rattle.complain.proofs.text_length.Given as goal

abbrev pub invariant-loop-i : goal.invariant-loop-i
invariant-loop-i l = PlainTo l.i l.text
