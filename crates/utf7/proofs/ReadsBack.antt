-- Demand 2 of UTF-7's whole calls. Assumes nothing.
use Prim.Native.Nat.{ℕ, ◌≤◌}
use mathlib.Core.Path.{◌≡◌}
use mathlib.Core.List.{List}
use lib.ListN.{length, take}
use Rattle.answer.specs.Answer.{numbered, limit}
use Rattle.reading.specs.Reading.{read_into}
use Rattle.reading.proofs.ReadsBack as whole
use Rattle.reading.proofs.ReadsBack.{Fills}
use Rattle.utf7.specs.Sets.{Mail}
use Rattle.utf7.specs.Rule.{utf7}
use Rattle.utf7.specs.Writing.{writing, first_over, write_into}
use Rattle.utf7.specs.declared.Style.{Style}
use Rattle.utf7.proofs.Pieces.{units-all}
use Rattle.utf7.proofs.Round.{round_trip}

pub reads-back :
    (style : Style) → Mail style → (us out o room : List ℕ) (place : ℕ) → write_into style us out ≡ record { verdict = numbered 0 place; out = o } → place ≤ limit →
    length us ≤ length room → read_into utf7 (take place o) room ≡ Fills us room
unfolding write_into
reads-back style m us out =
    whole.reads-back us (first_over us) (writing style us) out utf7 (λ h. round_trip style m us (units-all us h))
