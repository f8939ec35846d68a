use borrow.Author.Tests.{eq-eqb, ne_eqb, lt-ltb, le-ltb}
use Rattle.mailbox_read.proofs.Moves.{closed}
use Rattle.mailbox_read.proofs.close.Statement.{statement}
use Rattle.mailbox_read.proofs.close.Tie as tie

returns : tie.Need-returns-then-v-ne0
returns c = record { so = simp (closed _ _ c.requires, ne_eqb _ _ c.if-v-ne0.true); settled = tt }

returns-2 : tie.Need-returns-then-n-lt6
returns-2 c =
    record { so = simp (closed _ _ c.requires, eq-eqb _ _ c.if-v-ne0.false, lt-ltb _ _ c.if-n-lt6.true); settled = tt }

returns-3 : tie.Need-returns
returns-3 c =
    record { so = simp (closed _ _ c.requires, eq-eqb _ _ c.if-v-ne0.false, le-ltb _ _ c.if-n-lt6.false); settled = tt }

pub close_spec : {M : Type 1} → statement M
close_spec = tie.close (tie.spec returns returns-2 returns-3)
