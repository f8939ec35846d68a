use Rattle.alphabet.specs.Letters.{set_b}
use Rattle.utf7_whole.specs.Quick.{Span}
use Rattle.utf7_whole.proofs.quick.letters_end.Given as goal

abbrev pub invariant-loop-at : goal.invariant-loop-at
invariant-loop-at l =
    Span (set_b l.last) l.text l.from l.at
