-- Demand 2 of JP-2's whole calls. Assumes nothing.
use Prim.Native.Nat.{ℕ, ◌≤◌}
use mathlib.Core.Path.{◌≡◌}
use mathlib.Core.List.{List}
use lib.ListN.{length, take}
use Rattle.answer.specs.Answer.{numbered, limit}
use Rattle.reading.specs.Reading.{read_into}
use Rattle.reading.proofs.ReadsBack as whole
use Rattle.reading.proofs.ReadsBack.{Fills}
use Rattle.jp2.specs.Rule.{jp2}
use Rattle.jp2.specs.Writable.{first_foreign}
use Rattle.jp2.specs.Writing.{writing, write_into}
use Rattle.jp2.proofs.Foreign.{all-writable}
use Rattle.jp2.proofs.Round.{round_trip}

pub reads-back :
    (cells out o room : List ℕ) (place : ℕ) → write_into cells out ≡ record { verdict = numbered 0 place; out = o } → place ≤ limit →
    length cells ≤ length room → read_into jp2 (take place o) room ≡ Fills cells room
unfolding write_into
reads-back cells out = whole.reads-back cells (first_foreign cells) (writing cells) out jp2 (λ h. round_trip cells (all-writable cells h))
