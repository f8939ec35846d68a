use mathlib.Core.Path.{sym, ◌∙◌}
use native.Mathlib.Omega.{arith}
use Rattle.page_read.proofs.Values.{hexes-at}
use borrow.Author.Rules.{rules}
use Rattle.page_read.proofs.walk.word_of.Statement.{statement}
use Rattle.page_read.proofs.walk.word_of.Tie as tie

mul-word-at : tie.Need-overflow_mul-i
mul-word-at c = search rules

add-word-at : tie.Need-overflow_add-base
add-word-at c = search rules

word-at-requires : tie.Need-word_at-requires
word-at-requires c κs = search rules

wide-requires : tie.Need-wide-requires
wide-requires c κs = search rules

returns : tie.Need-returns
returns c =
    let a = c.args in
    let word-at' = c.word_at in
    let wide' = c.wide in (
      wide'.ensures.0 ∙ word-at'.ensures ∙ sym (hexes-at a.file.now a.base 8 a.n a.i (omega arith)),
      wide'.ensures.1,
    )

pub word_of_spec : {M : Type 1} → statement M
word_of_spec = tie.close (tie.spec mul-word-at add-word-at word-at-requires wide-requires returns)
