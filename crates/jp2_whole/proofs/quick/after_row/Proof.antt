use mathlib.Core.Path.{refl}
use native.Mathlib.Omega.{arith}
use borrow.Author.Rules.{rules}
use Rattle.reading.proofs.Strides.{stride-stay}
use Rattle.jp2_read.proofs.Designating.{Stands, code-length, row-stands}
use Rattle.jp2_whole.proofs.Tokens.{designation-stride}
use Rattle.jp2_whole.proofs.Laying.{goes_of}
use Rattle.jp2_whole.proofs.quick.after_row.Statement.{statement}
use Rattle.jp2_whole.proofs.quick.after_row.Tie as tie

row-at-requires : tie.Need-row_at-d-requires
row-at-requires c κs = search rules

returns : tie.Need-returns-then-d-eq0
returns c = (goes_of (stride-stay (omega (arith, c.requires.0))), refl)

row :
    (c : tie.Else-d-eq0) →
    let a = c.args in
    Stands a.text.now a.from.at c.row_at-d.result
row c = row-stands c.args.text.now c.args.from.at c.row_at-d.ensures c.if-d-eq0.false

cast-t6 : tie.Need-overflow_cast-result
cast-t6 c = search rules

add-t7 : tie.Need-overflow_add-result
add-t7 c =
    let r = row c.before in
    omega (arith, r.1.0, (code-length r.1.1).1, c.well_formed)

g0-after-requires : tie.Need-g0_after-requires
g0-after-requires c κs = search rules

g2-after-requires : tie.Need-g2_after-requires
g2-after-requires c κs = search rules

returns-2 : tie.Need-returns
returns-2 c =
    let r = row c.before.before.before in (
      rw (c.g0_after.ensures, c.g2_after.ensures) (goes_of (designation-stride _ _ r)),
      refl,
    )

pub after_row_spec : {M : Type 1} → statement M
after_row_spec =
    tie.close
    (tie.spec
    row-at-requires
    returns
    cast-t6
    add-t7
    g0-after-requires
    g2-after-requires
    returns-2)
