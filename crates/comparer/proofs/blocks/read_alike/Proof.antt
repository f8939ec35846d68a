use mathlib.Core.Bool.{false≢true}
use borrow.Author.Rules.{rules}
use Rattle.comparer.proofs.blocks.read_alike.Statement.{statement}
use Rattle.comparer.proofs.blocks.read_alike.Tie as tie

returns : tie.Need-returns-in-Utf7
returns c = λ e. rw c.in-Utf7.is (c.same_blocks.ensures e)

returns-2 : tie.Need-returns-in-Jp2
returns-2 c = λ e. rw c.in-Jp2.is (c.same_blocks-in-Jp2.ensures e)

returns-3 : tie.Need-returns-in-Mailbox
returns-3 c = λ e. absurd (false≢true e)

pub read_alike_spec : {M : Type 1} → statement M
read_alike_spec =
    tie.close
    (tie.spec
    (λ c. search rules)
    (λ c κs. tt)
    (λ c. search rules)
    (λ c κs. tt)
    (λ c. search rules)
    returns
    returns-2
    returns-3)
