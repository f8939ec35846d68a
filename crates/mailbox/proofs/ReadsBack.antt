-- Demand 2 of the whole calls of mailbox names. Assumes nothing.
use Prim.Native.Nat.{ℕ, ◌≤◌}
use mathlib.Core.Path.{◌≡◌}
use mathlib.Core.List.{List}
use lib.ListN.{length, take}
use Rattle.answer.specs.Answer.{numbered, limit}
use Rattle.reading.specs.Reading.{read_into}
use Rattle.reading.proofs.ReadsBack as whole
use Rattle.reading.proofs.ReadsBack.{Fills}
use Rattle.utf7.specs.Writing.{writing, first_over, write_into}
use Rattle.utf7.specs.declared.Style.TheVariants.{Name}
use Rattle.utf7.proofs.Pieces.{units-all}
use Rattle.mailbox.specs.Rule.{mailbox}
use Rattle.mailbox.proofs.Round.{round_trip}

pub reads-back :
    (us out o room : List ℕ) (place : ℕ) → write_into Name us out ≡ record { verdict = numbered 0 place; out = o } → place ≤ limit →
    length us ≤ length room → read_into mailbox (take place o) room ≡ Fills us room
unfolding write_into
reads-back us out = whole.reads-back us (first_over us) (writing Name us) out mailbox (λ h. round_trip us (units-all us h))
