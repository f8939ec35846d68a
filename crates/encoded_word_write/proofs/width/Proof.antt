use Rattle.encoded_word_write.proofs.Spelling.{spelled-space, spelled-itself, spelled-pair, pair-three}
use mathlib.Core.Path.{sym, ◌∙◌}
use borrow.Author.Rules.{rules}
use Rattle.encoded_word_write.proofs.width.Statement.{statement}
use Rattle.encoded_word_write.proofs.width.Tie as tie

returns : tie.Need-returns-then-b-eq32
returns c = rw (spelled-space _ c.if-b-eq32.true)

is-itself-requires : tie.Need-is_itself-requires
is-itself-requires c κs = search rules

returns-2 : tie.Need-returns-then-is_itself
returns-2 c = rw (spelled-itself _ (sym c.is_itself.ensures ∙ c.if-is_itself.true))

returns-3 : tie.Need-returns
returns-3 c =
    let e = spelled-pair _ c.if-b-eq32.false (sym c.is_itself.ensures ∙ c.if-is_itself.false) in
    rw (e, pair-three _)

pub width_spec : {M : Type 1} → statement M
width_spec =
    tie.close
    (tie.spec
    returns
    is-itself-requires
    returns-2
    returns-3)
