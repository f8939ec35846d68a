use mathlib.Core.Path.{◌≡◌, sym, ap, ◌∙◌}
use mathlib.Core.Bool.{cond}
use native.Mathlib.Omega.{arith}
use lib.Dec.{ltb}
use borrow.Author.Rules.{rules}
use borrow.Author.Tests.{eq-eqb, ne_eqb, lt-ltb, le-ltb}
use Rattle.reading.specs.Reading.{go, bad}
use Rattle.jp2.specs.Rule as rule
use Rattle.jp2.specs.Rule.{escape_does}
use Rattle.jp2.proofs.Kept.{begun}
use Rattle.jp2_read.proofs.Moves.{escape-back}
use Rattle.jp2_read.proofs.escape.Statement.{statement}
use Rattle.jp2_read.proofs.escape.Tie as tie

is-shift-requires : tie.Need-is_shift-requires
is-shift-requires c κs = search rules

returns : tie.Need-returns-then-g2-eq0
unfolding escape_does
returns c = rw (sym c.is_shift.ensures ∙ c.if-is_shift.true, eq-eqb _ _ c.if-g2-eq0.true)

returns-2 : tie.Need-returns-then-is_shift
unfolding escape_does
returns-2 c = rw (sym c.is_shift.ensures ∙ c.if-is_shift.true, ne_eqb _ _ c.if-g2-eq0.false)

row-of-escape-requires : tie.Need-row_of_escape-row-requires
row-of-escape-requires c κs = search rules

designate-requires : tie.Need-designate-state-requires
designate-requires c κs = search rules

returns-3 : tie.Need-returns-then-row-lt9
unfolding escape_does
returns-3 c =
    let r = c in
    rw (sym r.is_shift.ensures ∙ r.if-is_shift.false, ← r.row_of_escape-row.ensures, lt-ltb _ _ c.if-row-lt9.true)
    (ap go c.designate-state.ensures)

row-begun-by-requires : tie.Need-row_begun_by-requires
row-begun-by-requires c κs = search rules

-- bytes that are neither ESC N nor a row
other-bytes :
    (c : tie.After-row_begun_by) →
    let a = c.args in
    escape_does a.g0 a.g2 a.bytes.now
    ≡ cond (ltb c.row_begun_by.result 9) (go (rule.state a.g0 a.g2 (rule.escape a.bytes.now))) (bad 5)
unfolding escape_does
other-bytes c =
    let r = c in
    rw (sym r.is_shift.ensures ∙ r.if-is_shift.false, ← r.row_of_escape-row.ensures, le-ltb _ _ c.if-row-lt9.false, c.row_begun_by.ensures)

inside-requires : tie.Need-inside-phase-requires
inside-requires c κs = search rules

returns-4 : tie.Need-returns-then-row_begun_by-lt9
returns-4 c =
    let n = c.before.before in
    let r = n in
    let s = r in
    rw (other-bytes n, lt-ltb _ _ c.if-row_begun_by-lt9.true, c.inside-phase.ensures)
    (ap (λ (p : rule.Phase). go (rule.state s.args.g0 s.args.g2 p))
    (escape-back _ (begun s.args.bytes.now s.requires (omega (arith, n.row_begun_by.ensures)) (omega (arith, r.row_of_escape-row.ensures)))))

returns-5 : tie.Need-returns
returns-5 c = rw (other-bytes c.before, le-ltb _ _ c.if-row_begun_by-lt9.false)

pub escape_spec : {M : Type 1} → statement M
escape_spec =
    tie.close
    (tie.spec
    is-shift-requires
    returns
    returns-2
    row-of-escape-requires
    designate-requires
    returns-3
    row-begun-by-requires
    inside-requires
    returns-4
    returns-5)
