use Prim.Native.Nat.{◌+◌, ◌-◌, ◌*◌, ◌≤◌}
use mathlib.Core.Path.{◌≡◌, refl, ap, ◌∙◌}
use mathlib.Core.List.{[], ◌∷◌}
use native.Mathlib.Omega.{arith}
use lib.Dec.{eqb}
use borrow.Author.Rules.{rules}
use Rattle.jp2.proofs.Table.{row-most}
use Rattle.jp2_read.specs.Escapes.{code_of, code_among}
use Rattle.jp2_read.proofs.Designating.{row_of, found-more}
use Rattle.jp2_read.proofs.escapes.found.Statement.{statement}
use Rattle.jp2_read.proofs.escapes.found.Tie as tie

abbrev invariant-loop : tie.invariant-loop-i
invariant-loop a b c long two table r₀ i₀ r i = (i ≤ 9) × ((two ≡ a * 256 + b) × ((long ≡ eqb b 40) × (r ≡ code_among i (27 ∷ a ∷ b ∷ c ∷ []))))

abbrev decreases-loop : tie.decreases-loop-i
decreases-loop a b c long two table r₀ i₀ r i = 9 - i

joined-requires : tie.Need-joined-two-requires invariant-loop decreases-loop
joined-requires c κs = search rules

loop-holds : tie.Need-loop-i-init invariant-loop decreases-loop
unfolding code_among
loop-holds c = (omega arith, (c.joined-two.ensures, (c.requires, refl)))

all-rows-requires : tie.Need-all_rows-table-requires invariant-loop decreases-loop
all-rows-requires c κs = search rules

mul-d : tie.Need-offset_bounds-table-i invariant-loop decreases-loop
mul-d c = search rules

array-copy-out-d : tie.Need-bounds-table-i invariant-loop decreases-loop
array-copy-out-d c = search rules

code-requires : tie.Need-code-v-requires invariant-loop decreases-loop
code-requires c κs = row-most c.loop-i-test.true (row_of _ c.all_rows-table.ensures c.loop-i-test.true)

is-sent-requires : tie.Need-is_sent-requires invariant-loop decreases-loop
is-sent-requires c κs = search rules

chosen-requires : tie.Need-chosen-r-requires invariant-loop decreases-loop
chosen-requires c κs = search rules

add-i : tie.Need-overflow_step-i invariant-loop decreases-loop
add-i c = search rules

loop-less : tie.Need-loop-i-smaller invariant-loop decreases-loop
loop-less c = search rules

loop-again : tie.Need-loop-i-preserved invariant-loop decreases-loop
loop-again c =
    let l = c in
    let j = l in
    let inv = l.loop-i.invariant in
    let k = l.loop-i-test.true in
    let r = row_of _ l.all_rows-table.ensures k in
    let a = j.args in (
      omega arith,
      (
        inv.1.0,
        (
          inv.1.1.0,
          found-more a.a a.b a.c k j.ranges.b.fits (c.code-v.ensures ∙ ap code_of r)
              (rw (r, inv.1.0, inv.1.1.0) at c.is_sent.ensures) inv.1.1.1 c.chosen-r.ensures,
        ),
      ),
    )

returns : tie.Need-returns invariant-loop decreases-loop
returns c =
    let n : c.loop-i.i ≡ 9 = omega (arith, c.loop-i.invariant.0, c.loop-i-test.false) in
    rw n at c.loop-i.invariant.1.1.1

pub found_spec : {M : Type 1} → statement M
found_spec =
    tie.close
    (tie.spec
    invariant-loop
    decreases-loop
    joined-requires
    all-rows-requires
    loop-holds
    mul-d
    array-copy-out-d
    code-requires
    is-sent-requires
    chosen-requires
    add-i
    loop-less
    loop-again
    returns)
