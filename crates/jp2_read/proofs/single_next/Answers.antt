use mathlib.Core.Path.{sym, ◌∙◌}
use Rattle.jp2_read.proofs.Passing.{single-code, single-space}
use Rattle.jp2_read.proofs.single_next.Goals as goal

pub returns-then-is_code : goal.returns-then-is_code
returns-then-is_code c = λ g2. rw c.cell_of.ensures (single-code _ g2 _ c.requires (sym c.is_code.ensures ∙ c.if-is_code.true))

pub returns-then-b-eq32 : goal.returns-then-b-eq32
returns-then-b-eq32 c = λ g2. rw c.cell_of-then-b-eq32.ensures (single-space _ g2 _ c.requires c.if-b-eq32.true)
