use mathlib.Core.Path.{refl, sym, ◌∙◌}
use lib.Dec.{lit<}
use borrow.Author.Rules.{rules}
use Rattle.jp2.specs.Table.{designations}
use Rattle.jp2.specs.Writable.{pair_set}
use Rattle.jp2_plain.proofs.Stands.{stands-more}
use Rattle.jp2_plain.proofs.Escapes.{dollar, row_read, unknown, none-dollar}
use Rattle.jp2_plain.proofs.double_byte_seq.Statement.{statement}
use Rattle.jp2_plain.proofs.double_byte_seq.Tie as tie

add-byte-at : tie.Need-overflow_add-at
add-byte-at c = search rules

byte-at-requires : tie.Need-byte_at-b-requires
byte-at-requires c κs = search rules

add-t6 : tie.Need-overflow_add-result
add-t6 c = search rules

add-t7 : tie.Need-overflow_add-result-in-65
add-t7 c = search rules

add-t8 : tie.Need-overflow_add-result-in-66
add-t8 c = search rules

double-byte-seq-of-four-requires : tie.Need-double_byte_seq_of_four-requires
double-byte-seq-of-four-requires c κs =
    let b = c in
    stands-more b.requires refl (sym c.in-40.is ∙ b.byte_at-b.ensures) (lit< tt)

add-fault : tie.Need-overflow_add-at-in_default
add-fault c = search rules

fault-requires : tie.Need-fault-requires
fault-requires c κs = search rules

add-t12 : tie.Need-overflow_add-result-in_default
add-t12 c = search rules

returns : tie.Need-returns-in-64
unfolding designations pair_set
returns c =
    let b = c in
    let q = row_read b.requires b.byte_at-b.ensures c.in-64.is (lit< tt) 2 (lit< tt) refl in
    λ g0 g2. ((q g0 g2).0, refl, (q g0 g2).1)

returns-2 : tie.Need-returns-in-65
unfolding designations pair_set
returns-2 c =
    let b = c in
    let q = row_read b.requires b.byte_at-b.ensures c.in-65.is (lit< tt) 4 (lit< tt) refl in
    λ g0 g2. ((q g0 g2).0, refl, (q g0 g2).1)

returns-3 : tie.Need-returns-in-66
unfolding designations pair_set
returns-3 c =
    let b = c in
    let q = row_read b.requires b.byte_at-b.ensures c.in-66.is (lit< tt) 3 (lit< tt) refl in
    λ g0 g2. ((q g0 g2).0, refl, (q g0 g2).1)

returns-4 : tie.Need-returns-in-40
returns-4 c = search rules

returns-5 : tie.Need-returns-in_default
returns-5 c =
    let m = c in
    let b = m in
    let n = m.in_default.in_default-own.rest in
    λ g0 g2.
    unknown b.requires b.byte_at-b.ensures (dollar g0 g2)
    (none-dollar g0 g2 _ n.0.0.0.1 n.0.0.1 n.0.1 n.1) c.fault.ensures

pub double_byte_seq_spec : {M : Type 1} → statement M
double_byte_seq_spec =
    tie.close
    (tie.spec
    add-byte-at
    byte-at-requires
    add-t6
    add-t7
    add-t8
    double-byte-seq-of-four-requires
    add-fault
    fault-requires
    add-t12
    returns
    returns-2
    returns-3
    returns-4
    returns-5)
