use mathlib.Core.Path.{sym, ◌∙◌}
use borrow.Author.Rules.{rules}
use borrow.Author.Tests.{not-true, not-false}
use Rattle.jp2_plain.proofs.Escapes.{shift-empty, shift-stray, shift-cell}
use Rattle.jp2_plain.proofs.single_shift_char.Statement.{statement}
use Rattle.jp2_plain.proofs.single_shift_char.Tie as tie

add-t7 : tie.Need-overflow_add-result
add-t7 c = search rules

returns : tie.Need-returns-then-g2-eq0
returns c = shift-empty c.requires c.if-g2-eq0.true

add-byte-at : tie.Need-overflow_add-at
add-byte-at c = search rules

byte-at-requires : tie.Need-byte_at-b-requires
byte-at-requires c κs = search rules

is-one-of-96-requires : tie.Need-is_one_of_96-requires
is-one-of-96-requires c κs = search rules

add-fault : tie.Need-overflow_add-at-then-not-is_one_of_96
add-fault c = search rules

fault-requires : tie.Need-fault-requires
fault-requires c κs = search rules

add-t13 : tie.Need-overflow_add-result-then-not-is_one_of_96
add-t13 c = search rules

returns-2 : tie.Need-returns-then-not-is_one_of_96
returns-2 c =
    let i = c in
    let b = i in
    shift-stray b.requires b.if-g2-eq0.false b.byte_at-b.ensures
    (sym i.is_one_of_96.ensures ∙ c.if-not-is_one_of_96.true) c.fault.ensures

cast-cell : tie.Need-overflow_cast-b
cast-cell c = search rules

cell-requires : tie.Need-cell-requires
cell-requires c κs = search rules

add-t8 : tie.Need-overflow_add-result-2
add-t8 c = search rules

returns-3 : tie.Need-returns
returns-3 c =
    let i = c in
    let b = i in
    rw c.cell.ensures
    (shift-cell b.requires b.if-g2-eq0.false b.byte_at-b.ensures
    (sym i.is_one_of_96.ensures ∙ c.if-not-is_one_of_96.false))

pub single_shift_char_spec : {M : Type 1} → statement M
single_shift_char_spec =
    tie.close
    (tie.spec
    add-t7
    returns
    add-byte-at
    byte-at-requires
    is-one-of-96-requires
    add-fault
    fault-requires
    add-t13
    returns-2
    cast-cell
    cell-requires
    add-t8
    returns-3)
