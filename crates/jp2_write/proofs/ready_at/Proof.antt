use native.Mathlib.Omega.{arith}
use borrow.Author.Rules.{rules}
use Rattle.jp2_write.proofs.ready_at.Statement.{statement}
use Rattle.jp2_write.proofs.ready_at.Tie as tie

mul-ready : tie.Need-offset_bounds-cells-i
mul-ready c = search rules

shared-slice-read-ready : tie.Need-bounds-cells-i
shared-slice-read-ready c = search rules

ready-requires : tie.Need-ready-requires
ready-requires c κs = search rules

returns : tie.Need-returns-then-i-cells
returns c = λ h. (c.if-i-cells.true, c.ready.ensures h)

returns-2 : tie.Need-returns
returns-2 c = λ h. absurd (omega arith)

pub ready_at_spec : {M : Type 1} → statement M
ready_at_spec = tie.close (tie.spec mul-ready shared-slice-read-ready ready-requires returns returns-2)
