-- A decoder's code over states of its own: what they mean, what a step from any cursor gives, and what a reader may pass over at once.
use Rattle.std.specs.Prelude.{ℕ, ◌+◌, ◌<◌, ◌≤◌, ◌≡◌, List, length, drop, IfSome}
use Rattle.std.specs.declared.ops.ControlFlow.{ControlFlow}
use Rattle.std.specs.declared.ops.ControlFlow.TheVariants.{Continue, Break}
use Rattle.std.specs.declared.option.Option.{Option}
use Rattle.std.specs.declared.option.Option.TheVariants.{None, Some}
use Rattle.answer.specs.Answer.{number_of, in_numbers, Answer}
use Rattle.reading.specs.Reading.{Does, give, go, bad, Rule}
use Rattle.reading.specs.Spans.{Marking}
use Rattle.reading.specs.Stepping.{Spot, in_text, Next, cell, final, onward, next_from, next_at}
use Rattle.reading.specs.declared.Marked.{Marked}
use Rattle.reading.specs.declared.Move.{Move}
use Rattle.reading.specs.declared.Move.TheVariants.{Give, Go, Bad}
use Rattle.reading.specs.declared.Cursor.{Cursor}
use Rattle.reading.specs.declared.Given.{Given}
use Rattle.reading.specs.declared.Ahead.{Ahead}

-- the same, to a state that is written otherwise
abbrev pub on_state : {S T : Type 0} → (S → T) → Does S → Does T
on_state f (give v st) = give v (f st)
on_state f (go st) = go (f st)
on_state f (bad k) = bad k

-- a move as document 01 numbers it
abbrev pub told_move : {C : Type 0} → Move C → Does C
told_move (Give v st) = give v st
told_move (Go st) = go st
told_move (Bad why) = bad (number_of why)

-- a step as document 01 numbers it
abbrev pub told : {C : Type 0} → ControlFlow Answer (Given C) → Next (Cursor C)
told (Continue given) = cell given.cell given.next
told (Break answer) = final (in_numbers answer)

-- where a cursor says that it stands, by what its state means, and the cursor that stands at a spot, by how a state is written
abbrev pub spot_by : {C S : Type 0} → (C → S) → Cursor C → Spot S
spot_by means c = record { at = c.at; handed = c.handed; state = means c.state }

abbrev pub cursor_by : {C S : Type 0} → (S → C) → Spot S → Cursor C
cursor_by writes p = record { at = p.at; handed = p.handed; state = writes p.state }

-- a rule and the bytes of its cells, as code has it: what a value of the code means, how a state is written in the code, and the values that
-- are just as their meaning is written
pub record Code (C S : Type 0) : Type 1 where
  pub rule : Rule S
  pub marking : Marking S
  pub means : C → S
  pub writes : S → C
  pub Settled : C → Type 0

module _ {C S : Type 0} (code : Code C S) where
  -- the step from any cursor, and the move of a byte from any state
  abbrev pub step_by : List ℕ → Cursor C → Next (Cursor C)
  step_by text c = onward (cursor_by code.writes) (next_at code.rule code.marking text (in_text text (spot_by code.means c)))

  abbrev pub move_by : C → ℕ → Does C
  move_by st b = on_state code.writes (code.rule.byte (code.means st) b)

  -- the code's move is what a byte does, and its state is settled
  abbrev pub does_by : Move C → Does S
  does_by move = on_state code.means (told_move move)

  abbrev pub SettledDoes : Does C → Type 0
  SettledDoes (give v st) = code.Settled st
  SettledDoes (go st) = code.Settled st
  SettledDoes (bad k) = Unit

  pub record Moves (move : Move C) (does : Does S) : Type 0 where
    pub so : does_by move ≡ does
    pub settled : SettledDoes (told_move move)

  -- the step from a place and a state, after some cells
  unfoldable pub step_from : List ℕ → ℕ → C → ℕ → Next (Spot S)
  step_from text at st handed = next_from code.rule code.marking (length text) (drop at text) (record { at = at; handed = handed; state = code.means st })

  -- a later place and a settled state there, from which the same step is found
  pub record Leads (text : List ℕ) (at : ℕ) (st : C) (at' : ℕ) (st' : C) : Type 0 where
    pub on : at ≤ at'
    pub settled : code.Settled st'
    pub same : (handed : ℕ) → step_from text at st handed ≡ step_from text at' st' handed

  -- the step from what a reader got to: its cell, where it was given one, or the step from there
  abbrev pub reached : List ℕ → Option Marked → ℕ → C → ℕ → Next (Spot S)
  reached text (Some m) at st handed = cell m (record { at = at; handed = handed + 1; state = code.means st })
  reached text None at st handed = step_from text at st handed

  pub record Gets (text : List ℕ) (at : ℕ) (st : C) (a : Ahead C) : Type 0 where
    pub on : at ≤ a.at
    pub more : IfSome a.cell (λ _. (at < a.at) × (a.at ≤ length text))
    pub settled : code.Settled a.state
    pub same : (handed : ℕ) → step_from text at st handed ≡ reached text a.cell a.at a.state handed
