use mathlib.Core.Path.{◌∙◌, sym}
use mathlib.Core.Bool.{false≢true}
use native.Mathlib.Omega.{arith}
use borrow.Author.Rules.{rules}
use Rattle.mailbox_read.proofs.is_alone.Statement.{statement}
use Rattle.mailbox_read.proofs.is_alone.Tie as tie

enum_told : tie.Need-enum_told-1
enum_told c = search rules

shared-slice-read-b : tie.Need-bounds-text-at
shared-slice-read-b c = search rules

cast-is-printable : tie.Need-overflow_cast-b
cast-is-printable c = omega (arith, c.shared_slice_known-then-at-text-1.given c.args.at)

is-printable-requires : tie.Need-is_printable-requires
is-printable-requires c κs = search rules

returns : tie.Need-returns-then-b-ne38
returns c = λ e. (rw c.in-Outside.is tt, c.if-at-text.true, c.if-b-ne38.true, sym c.is_printable.ensures ∙ e)

returns-2 : tie.Need-returns-else-b-ne38
returns-2 c = λ e. absurd (false≢true e)

returns-3 : tie.Need-returns-else-at-text
returns-3 c = λ e. absurd (false≢true e)

returns-4 : tie.Need-returns-in_default
returns-4 c = λ e. absurd (false≢true e)

pub is_alone_spec : {M : Type 1} → statement M
is_alone_spec =
    tie.close
    (tie.spec enum_told shared-slice-read-b cast-is-printable is-printable-requires returns returns-2 returns-3 returns-4)
