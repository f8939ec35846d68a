-- What a cursor's numbers denote, and what a step from any cursor gives.
use native.Mathlib.Nat.{mod-eq_of_lt}
use Rattle.std.specs.Prelude.{ℕ, ◌%◌, ◌^◌, ◌<◌, ◌≡◌, refl, List, length}
use Rattle.bits.specs.Bits.{bits, number}
use Rattle.bits.proofs.Bits.{length-bits, number-bits}
use Rattle.reading.specs.Reading.{Does}
use Rattle.reading.specs.Stepping.{Spot, Next}
use Rattle.reading.specs.Decoding.{Code, spot_by, cursor_by, step_by, move_by}
use Rattle.reading.specs.declared.Cursor.{Cursor}
use Rattle.mailbox.specs.Rule.{Shift, outside, opening, run, mailbox}
use Rattle.mailbox.specs.Spans.{span_in}
use Rattle.mailbox_read.specs.declared.State.{State}
use Rattle.mailbox_read.specs.declared.State.TheVariants.{Outside, Opening, Run}

-- the pending bits that a count and a value denote: of any count, what it leaves by sixteen; of the value, that many of its lowest bits
abbrev pub shift_of : State → Shift
shift_of (Outside after) = outside after
shift_of (Opening after) = opening after
shift_of (Run n v) = run (bits (n % 16) v)

abbrev pub state_of : Shift → State
state_of (outside after) = Outside after
state_of (opening after) = Opening after
state_of (run pending) = Run (length pending) (number pending)

-- numbers that are just those of their bits
abbrev pub Settled : State → Type 0
Settled (Outside after) = Unit
Settled (Opening after) = Unit
Settled (Run n v) = (n < 16) × (v < 2 ^ n)

-- a settled state is the state of its shift
pub settled_back : (st : State) → Settled st → state_of (shift_of st) ≡ st
settled_back (Outside after) h = refl
settled_back (Opening after) h = refl
settled_back (Run n v) h = rw (mod-eq_of_lt h.0, length-bits n v, number-bits n v h.1)

abbrev pub mailbox_code : Code State Shift
mailbox_code = record { rule = mailbox; marking = span_in; means = shift_of; writes = state_of; Settled = Settled }

-- where a cursor's numbers say that it stands
abbrev pub spot_of : Cursor State → Spot Shift
spot_of = spot_by shift_of

-- the cursor that stands there
abbrev pub cursor_of : Spot Shift → Cursor State
cursor_of = cursor_by state_of

-- the step from any cursor, and the move of a byte from any state
abbrev pub step_of : List ℕ → Cursor State → Next (Cursor State)
step_of text c = step_by mailbox_code text c

unfoldable pub move_of : State → ℕ → Does State
move_of st b = move_by mailbox_code st b

-- outside a run, whether or not one was closed directly before
abbrev pub Between : State → Type 0
Between (Outside after) = Unit
Between (Opening after) = ⊥
Between (Run n v) = ⊥
