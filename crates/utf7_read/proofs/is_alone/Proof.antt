use mathlib.Core.Path.{◌∙◌, sym}
use mathlib.Core.Bool.{false≢true}
use borrow.Author.Rules.{rules}
use Rattle.utf7_read.proofs.is_alone.Statement.{statement}
use Rattle.utf7_read.proofs.is_alone.Tie as tie

enum_told : tie.Need-enum_told-1
enum_told c = search rules

shared-slice-read-is-direct-byte : tie.Need-bounds-text-at
shared-slice-read-is-direct-byte c = search rules

is-direct-byte-requires : tie.Need-is_direct_byte-requires
is-direct-byte-requires c κs = search rules

returns : tie.Need-returns-then-at-text
returns c = λ e. (c.in-Outside.is, c.if-at-text.true, sym c.is_direct_byte.ensures ∙ e)

returns-2 : tie.Need-returns-else-at-text
returns-2 c = λ e. absurd (false≢true e)

returns-3 : tie.Need-returns-in_default
returns-3 c = λ e. absurd (false≢true e)

pub is_alone_spec : {M : Type 1} → statement M
is_alone_spec =
    tie.close
    (tie.spec enum_told shared-slice-read-is-direct-byte is-direct-byte-requires returns returns-2 returns-3)
