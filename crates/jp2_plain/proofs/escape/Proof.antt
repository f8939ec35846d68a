use mathlib.Core.Path.{refl, sym, ◌∙◌}
use lib.Dec.{lit<}
use borrow.Author.Rules.{rules}
use Rattle.jp2_plain.proofs.Stands.{stands-more}
use Rattle.jp2_plain.proofs.Escapes.{esc, unknown, none-esc}
use Rattle.jp2_plain.proofs.escape.Statement.{statement}
use Rattle.jp2_plain.proofs.escape.Tie as tie

add-byte-at : tie.Need-overflow_add-at
add-byte-at c = search rules

byte-at-requires : tie.Need-byte_at-b-requires
byte-at-requires c κs = search rules

single-byte-seq-requires : tie.Need-single_byte_seq-requires
single-byte-seq-requires c κs =
    let b = c in
    stands-more b.requires refl (sym c.in-40.is ∙ b.byte_at-b.ensures) (lit< tt)

double-byte-seq-requires : tie.Need-double_byte_seq-requires
double-byte-seq-requires c κs =
    let b = c in
    stands-more b.requires refl (sym c.in-36.is ∙ b.byte_at-b.ensures) (lit< tt)

g2-desig-seq-requires : tie.Need-g2_desig_seq-requires
g2-desig-seq-requires c κs =
    let b = c in
    stands-more b.requires refl (sym c.in-46.is ∙ b.byte_at-b.ensures) (lit< tt)

single-shift-char-requires : tie.Need-single_shift_char-requires
single-shift-char-requires c κs =
    let b = c in
    stands-more b.requires refl (sym c.in-78.is ∙ b.byte_at-b.ensures) (lit< tt)

add-fault : tie.Need-overflow_add-at-in_default
add-fault c = search rules

fault-requires : tie.Need-fault-requires
fault-requires c κs = search rules

add-t10 : tie.Need-overflow_add-result
add-t10 c = search rules

returns : tie.Need-returns-in-40
returns c = λ g0. c.single_byte_seq.ensures g0 _

returns-2 : tie.Need-returns-in-36
returns-2 c = λ g0. c.double_byte_seq.ensures g0 _

returns-3 : tie.Need-returns-in-46
returns-3 c = λ g0. c.g2_desig_seq.ensures g0 _

returns-4 : tie.Need-returns-in-78
returns-4 c = search rules

returns-5 : tie.Need-returns-in_default
returns-5 c =
    let m = c in
    let b = m in
    let n = m.in_default.in_default-own.rest in
    λ g0.
    unknown b.requires b.byte_at-b.ensures (esc g0 _)
    (none-esc g0 _ _ n.0.0.0.1 n.0.0.1 n.0.1 n.1) c.fault.ensures

pub escape_spec : {M : Type 1} → statement M
escape_spec =
    tie.close
    (tie.spec
    add-byte-at
    byte-at-requires
    single-byte-seq-requires
    double-byte-seq-requires
    g2-desig-seq-requires
    single-shift-char-requires
    add-fault
    fault-requires
    add-t10
    returns
    returns-2
    returns-3
    returns-4
    returns-5)
