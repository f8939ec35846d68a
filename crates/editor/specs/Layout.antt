-- A layout of an editor in some state, such as a page with the buffers lent beside it; and a list of calls on a state.
use Rattle.std.specs.Prelude.{ℕ, Bool, false, cond, ◌||◌, List, [], ◌∷◌, eqb, Option, None, Some}
use Rattle.answer.specs.Answer.{Verdict, numbered, too_long}
use Rattle.editor.specs.Marks.{Mark, unchanged_at}
use Rattle.editor.specs.Ledger.{Step, Ledger, Call, fed}
use Rattle.editor.specs.Records.{Entry}
use Rattle.editor.specs.Editor.{Editor, Space, Change, stays, marks, moves, records, folds, Turn}
use Rattle.editor.specs.Editor.{turn_of, overlong, output_of}

-- what a call answers, and everything that it leaves; the output is save's, or squeeze's work buffer, and empty
-- for the others
pub record Outcome (S : Type 0) : Type 0 where
  pub verdict : Verdict
  pub state : S
  pub output : List ℕ

-- "A refusal changes no page and no buffer"
abbrev pub refusing : {S : Type 0} → S → List ℕ → Verdict → Outcome S
refusing s out verdict = record { verdict = verdict; state = s; output = out }

-- "0, accepted"
abbrev pub taken : {S : Type 0} → Outcome S → Bool
taken o = eqb o.verdict.number 0

-- what the question answers
pub record Reply : Type 0 where
  pub verdict : Verdict
  pub unchanged : Bool

pub record Layout (S : Type 0) : Type 0 where
  -- what a step counts for in what is done
  pub weigh : Step → ℕ
  -- a buffer is over the limit
  pub long : S → Bool
  -- the editor that is found in a state; none where the state is not sound
  pub editor_in : S → Option Editor
  -- the first length cells of the text buffer
  pub text_in : S → List ℕ
  pub space_in : S → Space
  -- the state with this mark; with this editor's text and as much standing; with its new record and mark, too; with its
  -- mark, and one record for the oldest ones
  pub marked : S → Mark → S
  pub moved : S → Editor → S
  pub recorded : S → Editor → Entry → S
  pub folded : S → Editor → List Entry → Entry → S

module _ {S : Type 0} (layout : Layout S) where
  abbrev pub changed : S → Editor → Change → S
  changed s e stays = s
  changed s e marks = layout.marked s e.saved
  changed s e moves = layout.moved s e
  changed s e (records x) = layout.recorded s e x
  changed s e (folds old x) = layout.folded s e old x

  -- a turn of the editor, laid out
  abbrev pub laid : S → Turn → Outcome S
  laid s t = record { verdict = t.verdict; state = changed s t.editor t.change; output = t.output }

  unfoldable pub call_on : S → Call → Option Editor → Outcome S
  call_on s c None = refusing s (output_of c) (numbered 14 0)
  call_on s c (Some e) = laid s (turn_of layout.weigh (layout.space_in s) e c)

  -- 16, 14, then what the editor makes of the call
  unfoldable pub outcome_of : S → Call → Outcome S
  outcome_of s c =
      cond (overlong c || layout.long s) (refusing s (output_of c) too_long) (call_on s c (layout.editor_in s))

  -- the question: 16, 14, "else place 0", and whether the mark is at what is done; refused, it is not
  abbrev pub ask_on : S → Option Editor → Reply
  ask_on s None = record { verdict = numbered 14 0; unchanged = false }
  ask_on s (Some e) = record { verdict = numbered 0 0; unchanged = unchanged_at (layout.space_in s).done e.saved }

  unfoldable pub reply_of : S → Reply
  reply_of s = cond (layout.long s) (record { verdict = too_long; unchanged = false }) (ask_on s (layout.editor_in s))

  -- the state after the calls, each given what the last one left
  abbrev pub after : S → List Call → S
  after s [] = s
  after s (c ∷ cs) = after (outcome_of s c).state cs

  -- the ledger after them: it hears each call and whether it was accepted
  abbrev pub heard : Ledger → S → List Call → Ledger
  heard l s [] = l
  heard l s (c ∷ cs) = heard (fed layout.weigh l c (taken (outcome_of s c))) (outcome_of s c).state cs
