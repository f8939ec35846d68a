use mathlib.Core.Path.{sym}
use lib.ListN.{get_or-eq_default}
use borrow.Author.Rules.{rules}
use Rattle.jp2.proofs.Search.{at-any}
use Rattle.jp2_plain.proofs.byte_at.Statement.{statement}
use Rattle.jp2_plain.proofs.byte_at.Tie as tie

shared-slice-read-result : tie.Need-bounds-text-at
shared-slice-read-result c = search rules

returns : tie.Need-returns-then-at-text
returns c = at-any c.args.text.now _ 0 255 c.if-at-text.true

returns-2 : tie.Need-returns
returns-2 c = sym (get_or-eq_default c.args.text.now 255 c.if-at-text.false)

pub byte_at_spec : {M : Type 1} → statement M
byte_at_spec = tie.close (tie.spec shared-slice-read-result returns returns-2)
