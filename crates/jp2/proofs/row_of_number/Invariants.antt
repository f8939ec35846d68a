use Rattle.std.specs.Prelude.{eqb}
use Rattle.jp2.specs.Table.{designations}
use Rattle.jp2.proofs.Search.{Passed}
use Rattle.jp2.proofs.row_of_number.Given as goal

abbrev pub invariant-loop-i : goal.invariant-loop-i
invariant-loop-i l = Passed (λ d. eqb d.number l.number) designations l.i
