use Rattle.encoded_word_write.proofs.Putting.{puts_one, puts-pair}
use Rattle.encoded_word_write.proofs.Spelling.{spelled-space, spelled-itself, spelled-pair, pair-three}
use lib.ListN.{length, length-set}
use mathlib.Core.Path.{sym, ap, ◌∙◌}
use native.Mathlib.Omega.{arith}
use borrow.Author.Rules.{rules}
use Rattle.encoded_word_write.proofs.put_spelled.Statement.{statement}
use Rattle.encoded_word_write.proofs.put_spelled.Tie as tie

slice-write-out : tie.Need-bounds-out-at
slice-write-out c =
    let a = c.args in
    omega (arith, c.requires, ap length (spelled-space a.b c.if-b-eq32.true))

same_length : tie.Need-shape_of-out-then-b-eq32
same_length c = search rules

returns : tie.Need-returns-then-b-eq32
returns c =
    let a = c.args in
    rw (spelled-space a.b c.if-b-eq32.true) (puts_one 95 a.at a.out.now)

is-itself-requires : tie.Need-is_itself-requires
is-itself-requires c κs = search rules

slice-write-out-2 : tie.Need-bounds-out-at-then-is_itself
slice-write-out-2 c =
    let s = c.before.before.before.before in
    let t = sym c.is_itself.ensures ∙ c.if-is_itself.true in
    omega (arith, s.requires, ap length (spelled-itself s.args.b t))

same-length-2 : tie.Need-shape_of-out-then-is_itself
same-length-2 c = search rules

returns-2 : tie.Need-returns-then-is_itself
returns-2 c =
    let a = c.args in
    let e = spelled-itself a.b (sym c.is_itself.ensures ∙ c.if-is_itself.true) in
    rw e (puts_one a.b a.at a.out.now)

figure-requires : tie.Need-figure-high-requires
figure-requires c κs = search rules

figure-requires-2 : tie.Need-figure-low-requires
figure-requires-2 c κs = search rules

slice-write-out-3 : tie.Need-bounds-out-at-2
slice-write-out-3 c =
    let s = c.before.before.before.before.before.before in
    let t = sym c.is_itself.ensures ∙ c.if-is_itself.false in
    let e = spelled-pair s.args.b c.if-b-eq32.false t in
    omega (arith, s.requires, ap length e, pair-three s.args.b)

add-out : tie.Need-overflow_add-out
add-out c = search rules

slice-write-out-4 : tie.Need-bounds-out-at-3
slice-write-out-4 c =
    let s = c.before.before.before.before.before.before in
    let t = sym c.is_itself.ensures ∙ c.if-is_itself.false in
    let e = spelled-pair s.args.b c.if-b-eq32.false t in
    simp length-set (omega (arith, s.requires, ap length e, pair-three s.args.b))

add-out-2 : tie.Need-overflow_add-out-2
add-out-2 c = search rules

slice-write-out-5 : tie.Need-bounds-out-at-4
slice-write-out-5 c =
    let s = c.before.before.before.before.before.before in
    let t = sym c.is_itself.ensures ∙ c.if-is_itself.false in
    let e = spelled-pair s.args.b c.if-b-eq32.false t in
    simp length-set (omega (arith, s.requires, ap length e, pair-three s.args.b))

same-length-3 : tie.Need-shape_of-out
same-length-3 c = search rules

returns-3 : tie.Need-returns
returns-3 c =
    let a = c.args in
    let t = sym c.is_itself.ensures ∙ c.if-is_itself.false in
    let e = spelled-pair a.b c.if-b-eq32.false t in
    rw e (puts-pair a.b a.at a.out.now (search rules) c.figure-high.ensures c.figure-low.ensures)

pub put_spelled_spec : {M : Type 1} → statement M
put_spelled_spec =
    tie.close
    (tie.spec
    slice-write-out
    same_length
    returns
    is-itself-requires
    slice-write-out-2
    same-length-2
    returns-2
    figure-requires
    figure-requires-2
    slice-write-out-3
    add-out
    slice-write-out-4
    add-out-2
    slice-write-out-5
    same-length-3
    returns-3)
