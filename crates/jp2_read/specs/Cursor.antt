-- What a cursor's numbers denote, and what a step from any cursor gives.
use Rattle.std.specs.Prelude.{ℕ, ◌≡◌, refl, List, [], ◌∷◌}
use Rattle.reading.specs.Reading.{Does}
use Rattle.reading.specs.Stepping.{Spot, Next}
use Rattle.reading.specs.Decoding.{Code, spot_by, cursor_by, step_by, does_by}
use Rattle.reading.specs.declared.Move.{Move}
use Rattle.reading.specs.declared.Cursor.{Cursor}
use Rattle.jp2.specs.Rule as rule
use Rattle.jp2.specs.Rule.{plain, return, first, shifted, escape, jp2}
use Rattle.jp2.specs.Spans.{span_in}
use Rattle.jp2_read.specs.declared.Phase.{Phase}
use Rattle.jp2_read.specs.declared.Phase.TheVariants.{Plain, Return, First, Shifted, Escape, Escape1, Escape2}
use Rattle.jp2_read.specs.declared.State.{State}

-- the phase that a value of the code means, and the state
abbrev pub phase_of : Phase → rule.Phase
phase_of Plain = plain
phase_of Return = return
phase_of (First a) = first a
phase_of Shifted = shifted
phase_of Escape = escape (27 ∷ [])
phase_of (Escape1 x) = escape (27 ∷ x ∷ [])
phase_of (Escape2 x y) = escape (27 ∷ x ∷ y ∷ [])

abbrev pub state_of : State → rule.State
state_of st = record { g0 = st.g0; g2 = st.g2; phase = phase_of st.phase }

-- the code's value for a phase: of an escape, its bytes after ESC
abbrev pub in_escape : List ℕ → Phase
in_escape [] = Escape
in_escape (e ∷ []) = Escape
in_escape (e ∷ x ∷ []) = Escape1 x
in_escape (e ∷ x ∷ y ∷ more) = Escape2 x y

abbrev pub phase_for : rule.Phase → Phase
phase_for plain = Plain
phase_for return = Return
phase_for (first a) = First a
phase_for shifted = Shifted
phase_for (escape bytes) = in_escape bytes

abbrev pub state_for : rule.State → State
state_for st = record { g0 = st.g0; g2 = st.g2; phase = phase_for st.phase }

phase-back : (p : Phase) → phase_for (phase_of p) ≡ p
phase-back Plain = refl
phase-back Return = refl
phase-back (First a) = refl
phase-back Shifted = refl
phase-back Escape = refl
phase-back (Escape1 x) = refl
phase-back (Escape2 x y) = refl

-- every state is the state of its meaning
pub state_back : (st : State) → state_for (state_of st) ≡ st
state_back st = rw (phase-back st.phase)

abbrev pub jp2_code : Code State rule.State
jp2_code = record { rule = jp2; marking = span_in; means = state_of; writes = state_for; Settled = λ _. Unit }

-- where a cursor's numbers say that it stands
abbrev pub spot_of : Cursor State → Spot rule.State
spot_of = spot_by state_of

-- the cursor that stands there
abbrev pub cursor_of : Spot rule.State → Cursor State
cursor_of = cursor_by state_for

-- the step from any cursor
abbrev pub step_of : List ℕ → Cursor State → Next (Cursor State)
step_of text c = step_by jp2_code text c

-- the code's move as what a byte does
abbrev pub does_of : Move State → Does rule.State
does_of = does_by jp2_code
