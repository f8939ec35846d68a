use native.Mathlib.Omega.{arith}
use borrow.Author.Rules.{rules}
use Rattle.utf7_whole.proofs.Buffers.{one-made}
use Rattle.utf7_whole.proofs.quick.one_at.Statement.{statement}
use Rattle.utf7_whole.proofs.quick.one_at.Tie as tie

shared-slice-read-value : tie.Need-bounds-text-from
shared-slice-read-value c = search rules

value-requires : tie.Need-value-a-requires
value-requires c κs = search rules

add-value : tie.Need-overflow_add-from
add-value c = search rules

shared-slice-read-value-2 : tie.Need-bounds-text-from-2
shared-slice-read-value-2 c = search rules

value-requires-2 : tie.Need-value-b-requires
value-requires-2 c κs = search rules

add-value-2 : tie.Need-overflow_add-from-2
add-value-2 c = search rules

shared-slice-read-value-3 : tie.Need-bounds-text-from-3
shared-slice-read-value-3 c = search rules

value-requires-3 : tie.Need-value-c-requires
value-requires-3 c κs = search rules

add-is-one : tie.Need-overflow_add-from-3
add-is-one c = search rules

shared-slice-read-is-one : tie.Need-bounds-text-from-4
shared-slice-read-is-one c = search rules

is-one-requires : tie.Need-is_one-requires
is-one-requires c κs = search rules

wide-requires : tie.Need-wide-requires
wide-requires c κs = search rules

wide-requires-2 : tie.Need-wide-requires-then-is_one
wide-requires-2 c κs = search rules

wide-requires-3 : tie.Need-wide-requires-then-is_one-2
wide-requires-3 c κs = search rules

first-requires : tie.Need-first-requires
first-requires c κs = let o = c.is_one.ensures c.if-is_one.true in (rw c.wide.ensures o.0, rw c.wide-then-is_one.ensures o.1, rw c.wide-then-is_one-2.ensures o.2)

returns : tie.Need-returns-then-is_one
returns c = λ h.
    one-made c.value-a.ensures c.value-b.ensures c.value-c.ensures (c.is_one.ensures c.if-is_one.true)
    (rw (← c.wide.ensures, ← c.wide-then-is_one.ensures, ← c.wide-then-is_one-2.ensures) c.first.ensures)

returns-2 : tie.Need-returns
returns-2 c = λ h. absurd (omega arith)

pub one_at_spec : {M : Type 1} → statement M
one_at_spec =
    tie.close
    (tie.spec
    shared-slice-read-value
    value-requires
    add-value
    shared-slice-read-value-2
    value-requires-2
    add-value-2
    shared-slice-read-value-3
    value-requires-3
    add-is-one
    shared-slice-read-is-one
    is-one-requires
    wide-requires
    wide-requires-2
    wide-requires-3
    first-requires
    returns
    returns-2)
