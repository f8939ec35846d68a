use Rattle.std.specs.Prelude.{eqb}
use Rattle.jp2.specs.Tally.{sets}
use Rattle.jp2.proofs.Search.{Passed}
use Rattle.jp2_tally.proofs.place_of.Given as goal

abbrev pub invariant-loop-k : goal.invariant-loop-k
invariant-loop-k l = Passed (λ s. eqb s l.number) sets l.k
