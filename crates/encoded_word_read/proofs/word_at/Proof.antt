use native.Mathlib.Omega.{arith}
use Rattle.encoded_word_read.proofs.Words.{word-reads, so-then}
use borrow.Author.Rules.{rules}
use Rattle.encoded_word_read.proofs.word_at.Statement.{statement}
use Rattle.encoded_word_read.proofs.word_at.Tie as tie

lead-requires : tie.Need-lead-found-requires
lead-requires c κs = c.requires.0

returns : tie.Need-returns-then-not-found
returns c = (omega arith, λ h. absurd (omega (arith, h)))

unspell-requires : tie.Need-unspell-u-requires
unspell-requires c κs =
    let a = c.lead-found.ensures (so-then _ c.if-not-found.false) in
    (a.within, c.requires.1)

same_length : tie.Need-shape_of-bytes-then-count-eq0
same_length c = search rules

returns-2 : tie.Need-returns-then-count-eq0
returns-2 c = (omega arith, λ h. absurd (omega (arith, h)))

is-end-requires : tie.Need-is_end-requires
is-end-requires c κs = c.unspell-u.ensures.within

add-t12 : tie.Need-overflow_add-result
add-t12 c =
    let u = c.unspell-u.ensures in
    search rules

same-length-2 : tie.Need-shape_of-bytes-then-is_end
same-length-2 c = search rules

returns-3 : tie.Need-returns-then-is_end
returns-3 c =
    let s = c in
    let f = c in
    let a = f.lead-found.ensures (so-then _ f.if-not-found.false) in
    let u = c.unspell-u.ensures in
    let e = c.is_end.ensures c.if-is_end.true in
    let w = word-reads s.args.line.now s.args.at _ _ _ _ a u c.if-count-eq0.false e in
    (omega (arith, u.count, u.few, u.room, u.after), λ _. w)

same-length-3 : tie.Need-shape_of-bytes
same-length-3 c = search rules

returns-4 : tie.Need-returns
returns-4 c = (omega arith, λ h. absurd (omega (arith, h)))

pub word_at_spec : {M : Type 1} → statement M
word_at_spec =
    tie.close
    (tie.spec
    lead-requires
    returns
    unspell-requires
    same_length
    returns-2
    is-end-requires
    add-t12
    same-length-2
    returns-3
    same-length-3
    returns-4)
