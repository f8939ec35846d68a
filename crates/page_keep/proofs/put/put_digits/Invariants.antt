use Rattle.std.proofs.Common.{◌≡◌, ◌+◌, ◌-◌, ◌/◌, ◌^◌}
use Rattle.std.proofs.lemmas.List.Edits.{sets}
use Rattle.parsing.specs.Digits.{digits}
use Rattle.page_keep.proofs.put.put_digits.Given as goal

abbrev pub invariant-loop-k : goal.invariant-loop-k
invariant-loop-k g l =
    (l.out ≡ sets l.initial.out (l.at + l.k) (digits g.row.BASE (g.row.K - l.k) l.n))
    × (l.rest ≡ l.n / g.row.BASE ^ (g.row.K - l.k))
