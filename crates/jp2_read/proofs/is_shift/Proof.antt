use mathlib.Core.Path.{sym}
use borrow.Author.Tests.{eq-eqb, ne_eqb}
use borrow.Author.Rules.{rules}
use Rattle.jp2_read.proofs.Moves.{two_bytes, not-two}
use Rattle.jp2_read.proofs.is_shift.Statement.{statement}
use Rattle.jp2_read.proofs.is_shift.Tie as tie

returns : tie.Need-returns-then-bytes-ne2
returns c = sym (not-two _ c.if-bytes-ne2.true)

shared-slice-read-if2 : tie.Need-bounds-bytes-0
shared-slice-read-if2 c = search rules

returns-2 : tie.Need-returns-then-bytes-ne27
returns-2 c = rw (two_bytes _ c.if-bytes-ne2.false, ne_eqb _ _ c.if-bytes-ne27.true)

shared-slice-read-result : tie.Need-bounds-bytes-1
shared-slice-read-result c = search rules

returns-3 : tie.Need-returns
returns-3 c = rw (two_bytes _ c.if-bytes-ne2.false, eq-eqb _ _ c.if-bytes-ne27.false)

pub is_shift_spec : {M : Type 1} → statement M
is_shift_spec =
    tie.close (tie.spec returns shared-slice-read-if2 returns-2 shared-slice-read-result returns-3)
