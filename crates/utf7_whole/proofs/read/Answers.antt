use Rattle.std.proofs.Common.{sym, ◌∙◌}
use Rattle.reading.proofs.Filling.{into-long}
use Rattle.utf7.proofs.Kept.{utf7-kept}
use Rattle.utf7_whole.proofs.read.Goals as goal

pub returns-then-over_limit : goal.returns-then-over_limit
returns-then-over_limit c =
    into-long utf7-kept _ _ c.too_long.result (sym c.over_limit.ensures ∙ c.if-over_limit.true) c.too_long.ensures
