use Rattle.std.proofs.Common.{sym, ◌∙◌}
use Rattle.reading.proofs.Filling.{into-long}
use Rattle.mailbox.proofs.Kept.{mailbox-kept}
use Rattle.utf7_whole.proofs.names.read.Goals as goal

pub returns-then-over_limit : goal.returns-then-over_limit
returns-then-over_limit c =
    into-long mailbox-kept _ _ c.too_long.result (sym c.over_limit.ensures ∙ c.if-over_limit.true) c.too_long.ensures
