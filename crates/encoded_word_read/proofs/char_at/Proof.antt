use Rattle.encoded_word_read.proofs.Words.{self-at, space-at}
use native.Mathlib.Omega.{arith}
use mathlib.Core.Path.{refl, sym, ◌∙◌}
use borrow.Author.Rules.{rules}
use Rattle.encoded_word_read.proofs.char_at.Statement.{statement}
use Rattle.encoded_word_read.proofs.char_at.Tie as tie

shared-slice-read-b : tie.Need-bounds-line-at
shared-slice-read-b c = search rules

is-itself-requires : tie.Need-is_itself-requires
is-itself-requires c κs = search rules

returns : tie.Need-returns-then-is_itself
returns c =
    let s = c in
    let t = sym c.is_itself.ensures ∙ c.if-is_itself.true in
    λ _. self-at s.args.line.now s.args.at _ s.requires refl t

returns-2 : tie.Need-returns-then-b-eq95
returns-2 c =
    let s = c in
    λ _. space-at s.args.line.now s.args.at s.requires c.if-b-eq95.true

pair-at-requires : tie.Need-pair_at-requires
pair-at-requires c κs = (c.requires, c.if-b-eq61.true)

returns-3 : tie.Need-returns-then-b-eq61
returns-3 c = c.pair_at.ensures

returns-4 : tie.Need-returns
returns-4 c = λ h. absurd (omega (arith, h))

pub char_at_spec : {M : Type 1} → statement M
char_at_spec =
    tie.close
    (tie.spec
    shared-slice-read-b
    is-itself-requires
    returns
    returns-2
    pair-at-requires
    returns-3
    returns-4)
