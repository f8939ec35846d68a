use Rattle.jp2.specs.Table.{designations, sent, is_list}
use Rattle.jp2.proofs.Search.{Passed}
use Rattle.jp2.proofs.row_of_escape.Given as goal

abbrev pub invariant-loop-i : goal.invariant-loop-i
invariant-loop-i l = Passed (λ d. is_list l.bytes (sent d)) designations l.i
