use Rattle.std.proofs.Common.{refl, ap, ◌∙◌}
use Rattle.ledger.specs.Page.{Outcome}
use Rattle.desk_lines.proofs.Found.{squeezes, zeros-work}
use Rattle.desk.proofs.orders.squeeze.Goals as goal

pub returns-in-Ok : goal.returns-in-Ok
returns-in-Ok c =
    rw c.told.ensures
    (ap (λ (o : Outcome). o.state) c.squeeze.ensures
    ∙ squeezes _ c.read-read.ensures c.in-Ok.is c.wide-k.ensures.0 (zeros-work 262144 refl))
