use mathlib.Core.Path.{refl}
use lib.Dec.{lit<}
use borrow.Author.Rules.{rules}
use Rattle.jp2.specs.Table.{designations}
use Rattle.jp2_plain.proofs.Escapes.{dot, row_read, unknown, none-dot}
use Rattle.jp2_plain.proofs.g2_desig_seq.Statement.{statement}
use Rattle.jp2_plain.proofs.g2_desig_seq.Tie as tie

add-byte-at : tie.Need-overflow_add-at
add-byte-at c = search rules

byte-at-requires : tie.Need-byte_at-b-requires
byte-at-requires c κs = search rules

add-t6 : tie.Need-overflow_add-result
add-t6 c = search rules

add-t7 : tie.Need-overflow_add-result-in-70
add-t7 c = search rules

add-fault : tie.Need-overflow_add-at-in_default
add-fault c = search rules

fault-requires : tie.Need-fault-requires
fault-requires c κs = search rules

add-t11 : tie.Need-overflow_add-result-in_default
add-t11 c = search rules

returns : tie.Need-returns-in-65
unfolding designations
returns c =
    let b = c in
    let q = row_read b.requires b.byte_at-b.ensures c.in-65.is (lit< tt) 7 (lit< tt) refl in
    q

returns-2 : tie.Need-returns-in-70
unfolding designations
returns-2 c =
    let b = c in
    let q = row_read b.requires b.byte_at-b.ensures c.in-70.is (lit< tt) 8 (lit< tt) refl in
    q

returns-3 : tie.Need-returns-in_default
returns-3 c =
    let m = c in
    let b = m in
    let n = m.in_default.in_default-own.rest in
    λ g0 g2.
    unknown b.requires b.byte_at-b.ensures (dot g0 g2)
    (none-dot g0 g2 _ n.0.1 n.1) c.fault.ensures

pub g2_desig_seq_spec : {M : Type 1} → statement M
g2_desig_seq_spec =
    tie.close
    (tie.spec
    add-byte-at
    byte-at-requires
    add-t6
    add-t7
    add-fault
    fault-requires
    add-t11
    returns
    returns-2
    returns-3)
