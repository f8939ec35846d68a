use Rattle.std.specs.Prelude.{not}
use Rattle.jp2.specs.Writable.{writable}
use Rattle.jp2.proofs.Search.{Passed}
use Rattle.jp2.proofs.first_foreign.Given as goal

abbrev pub invariant-loop-i : goal.invariant-loop-i
invariant-loop-i l = Passed (λ v. not (writable v)) l.cells l.i
