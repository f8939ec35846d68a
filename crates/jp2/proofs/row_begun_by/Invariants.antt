use Rattle.jp2.specs.Table.{designations, sent, begins}
use Rattle.jp2.proofs.Search.{Passed}
use Rattle.jp2.proofs.row_begun_by.Given as goal

abbrev pub invariant-loop-i : goal.invariant-loop-i
invariant-loop-i l = Passed (λ d. begins l.bytes (sent d)) designations l.i
