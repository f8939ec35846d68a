use native.Mathlib.Omega.{arith}
use native.Mathlib.Nat.{add-zero}
use Rattle.utf7_write.proofs.Marks.{word-four}
use borrow.Author.Rules.{rules}
use Rattle.utf7_write.proofs.four_at.Statement.{statement}
use Rattle.utf7_write.proofs.four_at.Tie as tie

mark-at-requires : tie.Need-mark_at-a-requires
mark-at-requires c κs = let s = c.before in (omega (arith, s.requires.0), rw (add-zero s.args.j) at (s.requires.1 0 (omega arith)))

add-mark-at : tie.Need-overflow_add-j
add-mark-at c = search rules

mark-at-requires-2 : tie.Need-mark_at-b-requires
mark-at-requires-2 c κs = let s = c.before.before in (omega (arith, s.requires.0), s.requires.1 1 (omega arith))

add-mark-at-2 : tie.Need-overflow_add-j-2
add-mark-at-2 c = search rules

mark-at-requires-3 : tie.Need-mark_at-c-requires
mark-at-requires-3 c κs = let s = c.before.before.before in (omega (arith, s.requires.0), s.requires.1 2 (omega arith))

add-mark-at-3 : tie.Need-overflow_add-j-3
add-mark-at-3 c = search rules

mark-at-requires-4 : tie.Need-mark_at-d-requires
mark-at-requires-4 c κs = let s = c.before.before.before.before in (omega (arith, s.requires.0), s.requires.1 3 (omega arith))

mul-result : tie.Need-overflow_mul-result
mul-result c = search rules

add-result : tie.Need-overflow_add-result
add-result c = search rules

mul-result-2 : tie.Need-overflow_mul-result-2
mul-result-2 c = search rules

add-result-2 : tie.Need-overflow_add-result-2
add-result-2 c = search rules

mul-result-3 : tie.Need-overflow_mul-result-3
mul-result-3 c = search rules

add-result-3 : tie.Need-overflow_add-result-3
add-result-3 c = search rules

returns : tie.Need-returns
returns c =
    let s = c.before.before.before.before.before in
    let w = word-four s.args.marks.now s.args.j s.requires.0 in
    let a = c.mark_at-a.ensures in
    let b = c.mark_at-b.ensures in
    let d = c.mark_at-c.ensures in
    let e = c.mark_at-d.ensures in
    (omega (arith, w, a.0, b.0, d.0, e.0), omega (arith, a.1, b.1, d.1, e.1))

pub four_at_spec : {M : Type 1} → statement M
four_at_spec =
    tie.close
    (tie.spec
    mark-at-requires
    add-mark-at
    mark-at-requires-2
    add-mark-at-2
    mark-at-requires-3
    add-mark-at-3
    mark-at-requires-4
    mul-result
    add-result
    mul-result-2
    add-result-2
    mul-result-3
    add-result-3
    returns)
