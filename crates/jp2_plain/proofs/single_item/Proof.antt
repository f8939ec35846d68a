use Prim.Native.Nat.{◌+◌}
use mathlib.Core.Path.{◌≡◌, sym, ◌∙◌}
use mathlib.Core.Bool.{cond}
use borrow.Author.Rules.{rules}
use borrow.Author.Tests.{not-true, not-false}
use Rattle.reading.specs.Reading.{push}
use Rattle.jp2.specs.Rule.{graphic, cell_of}
use Rattle.jp2_plain.specs.Inner.{read_at, Shorter}
use Rattle.jp2_plain.proofs.Cells.{escapes, single-stray, single-cell}
use Rattle.jp2_plain.proofs.single_item.Statement.{statement}
use Rattle.jp2_plain.proofs.single_item.Tie as tie

byte-at-requires : tie.Need-byte_at-b-requires
byte-at-requires c κs = search rules

escape-requires : tie.Need-escape-requires
escape-requires c κs =
    let b = c in
    escapes _ _ b.requires.0 b.byte_at-b.ensures c.if-b-eq27.true

returns : tie.Need-returns-then-b-eq27
returns c = c.escape.ensures _

is-single-byte-char-requires : tie.Need-is_single_byte_char-requires
is-single-byte-char-requires c κs = search rules

fault-requires : tie.Need-fault-requires
fault-requires c κs = search rules

returns-2 : tie.Need-returns-then-not-is_single_byte_char
returns-2 c =
    let i = c in
    let b = i in
    let p = b.requires in
    single-stray _ _ p.0 b.byte_at-b.ensures _ _ p.1 i.if-b-eq27.false
    (sym i.is_single_byte_char.ensures ∙ c.if-not-is_single_byte_char.true) c.fault.ensures

add-byte-at : tie.Need-overflow_add-at
add-byte-at c = search rules

byte-at-requires-2 : tie.Need-byte_at-requires
byte-at-requires-2 c κs = search rules

g2-after-requires : tie.Need-g2_after-left-requires
g2-after-requires c κs = search rules

is-one-of-94-requires : tie.Need-is_one_of_94-requires
is-one-of-94-requires c κs = search rules

-- the cell, whichever set it carries
one_cell :
    (c : tie.After-g2_after-left) →
    let b = c.before.before.before.before.before in
    let a = b.args in
    let x = b.byte_at-b.result in
    Shorter a.text.now a.at (a.at + 1)
    × (read_at a.text.now a.at a.g0 a.g2
    ≡ push (cell_of (cond (graphic x) a.g0 6) x) (read_at a.text.now (a.at + 1) a.g0 c.g2_after-left.result))
one_cell c =
    let i = c in
    let b = i in
    let p = b.requires in
    rw (c.g2_after-left.ensures, c.byte_at.ensures)
    (single-cell _ _ p.0 b.byte_at-b.ensures _ _ p.1
    (sym i.is_single_byte_char.ensures ∙ c.if-not-is_single_byte_char.false))

cast-cell : tie.Need-overflow_cast-b
cast-cell c = search rules

cell-requires : tie.Need-cell-requires
cell-requires c κs = search rules

add-t16 : tie.Need-overflow_add-result
add-t16 c = search rules

returns-3 : tie.Need-returns-then-is_one_of_94
returns-3 c =
    let i = c in
    rw c.cell.ensures (rw (sym i.is_one_of_94.ensures ∙ c.if-is_one_of_94.true) at (one_cell i.before.before.before))

cast-cell-2 : tie.Need-overflow_cast-b-2
cast-cell-2 c = search rules

cell-requires-2 : tie.Need-cell-requires-2
cell-requires-2 c κs = search rules

add-t12 : tie.Need-overflow_add-result-2
add-t12 c = search rules

returns-4 : tie.Need-returns
returns-4 c =
    let i = c in
    rw c.cell-2.ensures (rw (sym i.is_one_of_94.ensures ∙ c.if-is_one_of_94.false) at (one_cell i.before.before.before))

pub single_item_spec : {M : Type 1} → statement M
single_item_spec =
    tie.close
    (tie.spec
    byte-at-requires
    escape-requires
    returns
    is-single-byte-char-requires
    fault-requires
    returns-2
    add-byte-at
    byte-at-requires-2
    g2-after-requires
    is-one-of-94-requires
    cast-cell
    cell-requires
    add-t16
    returns-3
    cast-cell-2
    cell-requires-2
    add-t12
    returns-4)
