use mathlib.Core.Path.{◌∙◌, sym}
use borrow.Author.Rules.{rules}
use borrow.Author.Tests.{eq-eqb, ne_eqb}
use Rattle.mailbox.specs.Rule.{outside_does}
use Rattle.mailbox_read.proofs.outside.Statement.{statement}
use Rattle.mailbox_read.proofs.outside.Tie as tie

returns : tie.Need-returns-then-b-eq38
unfolding outside_does
returns c = record { so = simp (eq-eqb _ _ c.if-b-eq38.true); settled = tt }

is-printable-requires : tie.Need-is_printable-requires
is-printable-requires c κs = search rules

returns-2 : tie.Need-returns-then-is_printable
unfolding outside_does
returns-2 c =
    record { so = rw (ne_eqb _ _ c.if-b-eq38.false, sym c.is_printable.ensures ∙ c.if-is_printable.true); settled = tt }

returns-3 : tie.Need-returns
unfolding outside_does
returns-3 c =
    record { so = rw (ne_eqb _ _ c.if-b-eq38.false, sym c.is_printable.ensures ∙ c.if-is_printable.false); settled = tt }

pub outside_spec : {M : Type 1} → statement M
outside_spec = tie.close (tie.spec returns is-printable-requires returns-2 returns-3)
