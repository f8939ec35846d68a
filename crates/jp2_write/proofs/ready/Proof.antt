use mathlib.Core.Path.{◌≡◌, sym, ◌∙◌}
use native.Mathlib.Omega.{arith}
use Rattle.jp2_write.proofs.Counting.{ready_size, ready_by}
use borrow.Author.Rules.{rules}
use Rattle.jp2_write.proofs.ready.Statement.{statement}
use Rattle.jp2_write.proofs.ready.Tie as tie

returns : tie.Need-returns-then-g0-ne6
returns c = λ h. absurd (omega arith)

is-shift-set-requires : tie.Need-is_shift_set-requires
is-shift-set-requires c κs = search rules

returns-2 : tie.Need-returns-then-not-is_shift_set
returns-2 c = λ h. absurd (omega arith)

cast-n : tie.Need-overflow_cast-n
cast-n c = search rules

pick-requires : tie.Need-pick-single-requires
pick-requires c κs = search rules

pick-requires-2 : tie.Need-pick-either-requires
pick-requires-2 c κs = search rules

pick-requires-3 : tie.Need-pick-above-requires
pick-requires-3 c κs = search rules

pick-requires-4 : tie.Need-pick-requires
pick-requires-4 c κs = search rules

returns-3 : tie.Need-returns
returns-3 c =
    let p3 = c.before in
    let p2 = p3.before in
    let p1 = p2.before in
    let e = p1.before in
    let a = e.args in
    let size : c.pick.result ≡ ready_size a.v a.g0 a.g2 =
    c.pick.ensures ∙ rw (p3.pick-above.ensures, p2.pick-either.ensures, p1.pick-single.ensures) in
    rw size
    (ready_by a.v a.g0 a.g2 e.if-g0-ne6.false (sym e.is_shift_set.ensures ∙ e.if-not-is_shift_set.false))

pub ready_spec : {M : Type 1} → statement M
ready_spec =
    tie.close
    (tie.spec
    returns
    is-shift-set-requires
    returns-2
    cast-n
    pick-requires
    pick-requires-2
    pick-requires-3
    pick-requires-4
    returns-3)
