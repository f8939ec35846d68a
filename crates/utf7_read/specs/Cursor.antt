-- What a cursor's numbers denote, and what a step from any cursor gives.
use native.Mathlib.Nat.{mod-eq_of_lt}
use Rattle.std.specs.Prelude.{ℕ, ◌%◌, ◌^◌, ◌<◌, ◌≡◌, refl, List, length}
use Rattle.bits.specs.Bits.{bits, number}
use Rattle.bits.proofs.Bits.{length-bits, number-bits}
use Rattle.reading.specs.Reading.{Does}
use Rattle.reading.specs.Stepping.{Spot, Next}
use Rattle.reading.specs.Decoding.{Code, spot_by, cursor_by, step_by, move_by}
use Rattle.reading.specs.declared.Cursor.{Cursor}
use Rattle.utf7.specs.Rule.{Shift, outside, opening, run, utf7}
use Rattle.utf7.specs.Spans.{span_in}
use Rattle.utf7_read.specs.declared.State.{State}
use Rattle.utf7_read.specs.declared.State.TheVariants.{Outside, Opening, Run}

-- the pending bits that a count and a value denote: of any count, what it leaves by sixteen; of the value, that many of its lowest bits
abbrev pub shift_of : State → Shift
shift_of Outside = outside
shift_of Opening = opening
shift_of (Run n v) = run (bits (n % 16) v)

abbrev pub state_of : Shift → State
state_of outside = Outside
state_of opening = Opening
state_of (run pending) = Run (length pending) (number pending)

-- numbers that are just those of their bits
abbrev pub Settled : State → Type 0
Settled Outside = Unit
Settled Opening = Unit
Settled (Run n v) = (n < 16) × (v < 2 ^ n)

-- a settled state is the state of its shift
pub settled_back : (st : State) → Settled st → state_of (shift_of st) ≡ st
settled_back Outside h = refl
settled_back Opening h = refl
settled_back (Run n v) h = rw (mod-eq_of_lt h.0, length-bits n v, number-bits n v h.1)

abbrev pub utf7_code : Code State Shift
utf7_code = record { rule = utf7; marking = span_in; means = shift_of; writes = state_of; Settled = Settled }

-- where a cursor's numbers say that it stands
abbrev pub spot_of : Cursor State → Spot Shift
spot_of = spot_by shift_of

-- the cursor that stands there
abbrev pub cursor_of : Spot Shift → Cursor State
cursor_of = cursor_by state_of

-- the step from any cursor, and the move of a byte from any state
abbrev pub step_of : List ℕ → Cursor State → Next (Cursor State)
step_of text c = step_by utf7_code text c

unfoldable pub move_of : State → ℕ → Does State
move_of st b = move_by utf7_code st b
