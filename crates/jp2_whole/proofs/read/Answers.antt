use Rattle.std.proofs.Common.{sym, ◌∙◌}
use Rattle.reading.proofs.Filling.{into-long}
use Rattle.jp2.proofs.Kept.{jp2-kept}
use Rattle.jp2_whole.proofs.read.Goals as goal

pub returns-then-over_limit : goal.returns-then-over_limit
returns-then-over_limit c = into-long jp2-kept _ _ c.too_long.result (sym c.over_limit.ensures ∙ c.if-over_limit.true) c.too_long.ensures
