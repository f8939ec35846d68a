use mathlib.Core.Path.{◌≡◌, sym, ◌∙◌}
use mathlib.Core.Bool.{false}
use borrow.Author.Rules.{rules}
use borrow.Author.Tests.{eq-eqb, ne_eqb}
use Rattle.jp2.specs.Writable.{shift_set}
use Rattle.jp2_write.specs.Pieces.{body_size}
use Rattle.jp2_write.proofs.body_size.Statement.{statement}
use Rattle.jp2_write.proofs.body_size.Tie as tie

-- no set of G2
base : (c : tie.Else-is_shift_set) → shift_set c.args.n ≡ false
base c = sym c.is_shift_set.ensures ∙ c.if-is_shift_set.false

is-shift-set-requires : tie.Need-is_shift_set-requires
is-shift-set-requires c κs = search rules

pick-requires : tie.Need-pick-requires
pick-requires c κs = search rules

returns : tie.Need-returns-then-is_shift_set
unfolding body_size
returns c = rw (sym c.is_shift_set.ensures ∙ c.if-is_shift_set.true) c.pick.ensures

returns-2 : tie.Need-returns-then-n-g0
unfolding body_size
returns-2 c = rw (base c.before, ne_eqb _ _ c.if-n-g0.true)

is-pair-set-requires : tie.Need-is_pair_set-requires
is-pair-set-requires c κs = search rules

returns-3 : tie.Need-returns-then-is_pair_set
unfolding body_size
returns-3 c =
    let e = c.before.before in
    rw (base e.before, eq-eqb _ _ e.if-n-g0.false, sym c.is_pair_set.ensures ∙ c.if-is_pair_set.true)

returns-4 : tie.Need-returns
unfolding body_size
returns-4 c =
    let e = c.before.before in
    rw (base e.before, eq-eqb _ _ e.if-n-g0.false, sym c.is_pair_set.ensures ∙ c.if-is_pair_set.false)

pub body_size_spec : {M : Type 1} → statement M
body_size_spec =
    tie.close
    (tie.spec
    is-shift-set-requires
    pick-requires
    returns
    returns-2
    is-pair-set-requires
    returns-3
    returns-4)
