use borrow.Author.Rules.{rules}
use Rattle.utf7_whole.proofs.Tokens.{by-rule}
use Rattle.utf7_whole.proofs.quick.value.Statement.{statement}
use Rattle.utf7_whole.proofs.quick.value.Tie as tie

chosen-requires : tie.Need-chosen-other-requires
chosen-requires c κs = search rules

chosen-requires-2 : tie.Need-chosen-sign-requires
chosen-requires-2 c κs = search rules

counted-requires : tie.Need-counted-digit-requires
counted-requires c κs = search rules

counted-requires-2 : tie.Need-counted-small-requires
counted-requires-2 c κs = search rules

counted-requires-3 : tie.Need-counted-requires
counted-requires-3 c κs = search rules

returns : tie.Need-returns
returns c = rw (c.counted.ensures, c.counted-small.ensures, c.counted-digit.ensures, c.chosen-sign.ensures, c.chosen-other.ensures) (by-rule _ _)

pub value_spec : {M : Type 1} → statement M
value_spec = tie.close (tie.spec chosen-requires chosen-requires-2 counted-requires counted-requires-2 counted-requires-3 returns)
