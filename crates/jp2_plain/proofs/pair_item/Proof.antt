use mathlib.Core.Path.{◌≡◌, sym, ◌∙◌}
use mathlib.Core.Bool.{true}
use borrow.Author.Rules.{rules}
use borrow.Author.Tests.{not-true, not-false}
use Rattle.jp2.specs.Rule.{graphic}
use Rattle.jp2_plain.proofs.Cells.{escapes, first-stray, second-stray, pair-cell}
use Rattle.jp2_plain.proofs.pair_item.Statement.{statement}
use Rattle.jp2_plain.proofs.pair_item.Tie as tie

byte-at-requires : tie.Need-byte_at-a-requires
byte-at-requires c κs = search rules

escape-requires : tie.Need-escape-requires
escape-requires c κs =
    let b = c in
    escapes _ _ b.requires.0 b.byte_at-a.ensures c.if-a-eq27.true

returns : tie.Need-returns-then-a-eq27
returns c = c.escape.ensures _

is-one-of-94-requires : tie.Need-is_one_of_94-requires
is-one-of-94-requires c κs = search rules

fault-requires : tie.Need-fault-requires
fault-requires c κs = search rules

returns-2 : tie.Need-returns-then-not-is_one_of_94
returns-2 c =
    let i = c in
    let b = i in
    let p = b.requires in
    first-stray _ _ p.0 b.byte_at-a.ensures _ _ p.1 i.if-a-eq27.false
    (sym i.is_one_of_94.ensures ∙ c.if-not-is_one_of_94.true) c.fault.ensures

-- the first byte is one of a pair
one-graphic : (c : tie.Else-not-is_one_of_94) → graphic c.byte_at-a.result ≡ true
one-graphic c = sym c.is_one_of_94.ensures ∙ c.if-not-is_one_of_94.false

add-byte-at : tie.Need-overflow_add-at
add-byte-at c = search rules

byte-at-requires-2 : tie.Need-byte_at-b-requires
byte-at-requires-2 c κs = search rules

is-one-of-94-requires-2 : tie.Need-is_one_of_94-requires-2
is-one-of-94-requires-2 c κs = search rules

add-fault : tie.Need-overflow_add-at-then-not-is_one_of_94-2
add-fault c = search rules

fault-requires-2 : tie.Need-fault-requires-then-not-is_one_of_94-2
fault-requires-2 c κs = search rules

add-t15 : tie.Need-overflow_add-result
add-t15 c = search rules

returns-3 : tie.Need-returns-then-not-is_one_of_94-2
returns-3 c =
    let i = c in
    let e = i.before.before.before.before in
    let b = e in
    let p = b.requires in
    second-stray _ _ p.0 b.byte_at-a.ensures _ _ p.1 (one-graphic e) i.byte_at-b.ensures
    (sym i.is_one_of_94-2.ensures ∙ c.if-not-is_one_of_94-2.true) c.fault-then-not-is_one_of_94-2.ensures

pair-requires : tie.Need-pair-requires
pair-requires c κs = search rules

cell-requires : tie.Need-cell-requires
cell-requires c κs = search rules

add-t11 : tie.Need-overflow_add-result-2
add-t11 c = search rules

returns-4 : tie.Need-returns
returns-4 c =
    let i = c in
    let e = i.before.before.before.before.before in
    let b = e in
    let p = b.requires in
    rw (c.cell.ensures, c.pair.ensures)
    (pair-cell _ _ p.0 b.byte_at-a.ensures _ _ p.1 (one-graphic e) i.byte_at-b.ensures
    (sym i.is_one_of_94-2.ensures ∙ c.if-not-is_one_of_94-2.false))

pub pair_item_spec : {M : Type 1} → statement M
pair_item_spec =
    tie.close
    (tie.spec
    byte-at-requires
    escape-requires
    returns
    is-one-of-94-requires
    fault-requires
    returns-2
    add-byte-at
    byte-at-requires-2
    is-one-of-94-requires-2
    add-fault
    fault-requires-2
    add-t15
    returns-3
    pair-requires
    cell-requires
    add-t11
    returns-4)
