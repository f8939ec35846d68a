use mathlib.Core.Path.{sym, ◌∙◌}
use borrow.Author.Rules.{rules}
use Rattle.encoded_word_write.proofs.cut.Statement.{statement}
use Rattle.encoded_word_write.proofs.cut.Tie as tie

parts-pair-requires : tie.Need-parts_pair-requires
parts-pair-requires c κs = search rules

sub-t6 : tie.Need-overflow_sub-result
sub-t6 c = search rules

returns : tie.Need-returns-then-parts_pair
returns c = let p = sym c.parts_pair.ensures ∙ c.if-parts_pair.true in (rw p, rw p)

returns-2 : tie.Need-returns
returns-2 c = let p = sym c.parts_pair.ensures ∙ c.if-parts_pair.false in (rw p, rw p)

pub cut_spec : {M : Type 1} → statement M
cut_spec = tie.close (tie.spec parts-pair-requires sub-t6 returns returns-2)
