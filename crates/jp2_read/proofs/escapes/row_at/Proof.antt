use native.Mathlib.Omega.{arith}
use mathlib.Core.Path.{sym, refl, ◌∙◌}
use borrow.Author.Rules.{rules}
use Rattle.jp2_read.proofs.Designating.{code-short, code_other, code_here}
use Rattle.jp2_read.proofs.escapes.row_at.Statement.{statement}
use Rattle.jp2_read.proofs.escapes.row_at.Tie as tie

returns : tie.Need-returns-then-text-at
returns c =
    let a = c.args in
    sym (code-short a.text.now a.at (omega (arith, c.if-text-at.true)))

shared-slice-read-if2 : tie.Need-bounds-text-at
shared-slice-read-if2 c = search rules

returns-2 : tie.Need-returns-then-text-at-ne27
returns-2 c =
    let a = c.args in
    sym (code_other a.text.now a.at c.if-text-at-ne27.true)

add-if3 : tie.Need-overflow_add-at
add-if3 c = search rules

returns-3 : tie.Need-returns-then-text-at-2
returns-3 c =
    let a = c.args in
    sym (code-short a.text.now a.at c.if-text-at-2.true)

add-y : tie.Need-overflow_add-y
add-y c = search rules

shared-slice-read-y : tie.Need-bounds-text-at-2
shared-slice-read-y c = search rules

add-found : tie.Need-overflow_add-at-2
add-found c = search rules

shared-slice-read-found : tie.Need-bounds-text-at-3
shared-slice-read-found c = search rules

add-found-2 : tie.Need-overflow_add-at-3
add-found-2 c = search rules

shared-slice-read-found-2 : tie.Need-bounds-text-at-4
shared-slice-read-found-2 c = search rules

found-requires : tie.Need-found-requires
found-requires c κs = refl

returns-4 : tie.Need-returns
returns-4 c =
    let e = c in
    let a = e.args in
    c.found.ensures ∙ sym (code_here a.text.now a.at e.if-text-at-2.false e.if-text-at-ne27.false)

pub row_at_spec : {M : Type 1} → statement M
row_at_spec =
    tie.close
    (tie.spec
    returns
    shared-slice-read-if2
    returns-2
    add-if3
    returns-3
    add-y
    shared-slice-read-y
    add-found
    shared-slice-read-found
    add-found-2
    shared-slice-read-found-2
    found-requires
    returns-4)
