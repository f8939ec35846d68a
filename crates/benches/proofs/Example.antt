-- Two benches on one letter each, worked by hand from order 13's sentences: what the calls leave, the exact numbers
-- given with 12, the sum given by open, the marks, the order of the refusals, what the ledgers are told, and states
-- damaged by hand, computed. Assumes nothing.
use Prim.Native.Nat.{ℕ}
use mathlib.Core.Path.{◌≡◌, refl}
use mathlib.Core.Bool.{Bool, true, false}
use mathlib.Core.List.{List, [], ◌∷◌, ◌++◌}
use lib.ListN.{replicate}
use Rattle.answer.specs.Answer.{numbered, limit}
use Rattle.std.specs.Prelude.{None, Some}
use Rattle.answer.specs.Output as output
use Rattle.codec.specs.declared.Kind.TheVariants.{Utf7Body}
use Rattle.codec.proofs.ByKind.{write-form}
use Rattle.codec.proofs.Worked.{letter, cells_read, cells_edited, written, letter-reads, letter-reads-as, sign-writable}
use Rattle.codec.proofs.Worked.{edited-writable, edited-writes}
use Rattle.editor.specs.Marks.{Mark}
use Rattle.editor.specs.Ledger.{Ledger}
use Rattle.editor.specs.Records.{reached, lengths_fit}
use Rattle.editor.specs.Editor.{undo_last, redo_next, replace_fitting, replace_at, save_standing}
use Rattle.editor.specs.Layout.{Reply, refusing}
use Rattle.editor.specs.Layout as layout
use Rattle.ledger.specs.Words.{zeros}
use Rattle.ledger.specs.Calls as pages
use Rattle.benches.specs.declared.Bench.{Bench}
use Rattle.benches.specs.Words.{first, second, Both, records_in, own, kept}
use Rattle.benches.specs.Benches.{State, state_of, Outcome, bench_sound, judged, records}
use Rattle.benches.specs.Calls.{undo, redo, outcome_at, replace_of, undo_of, redo_of, save_of, reply_at, unchanged_of}
use Rattle.benches.specs.Calls.{open_of}
use Rattle.benches.specs.Demand.{Order, heard_at, ledger_after}

abbrev both : {A : Type 0} → A → A → Both A
both a b = record { bench0 = a; bench1 = b }

-- a body bench opened on four cells
abbrev bench : ℕ → ℕ → Mark → Bench
bench length standing saved =
    record { kind = Utf7Body; opening = 4; length = length; standing = standing; saved = saved }

abbrev state : Bench → Bench → ℕ → List ℕ → List ℕ → List ℕ → State
state b0 b1 used text0 text1 history =
    state_of (record { bench0 = b0; bench1 = b1; used = used }) text0 text1 history

abbrev accepts : ℕ → State → List ℕ → Outcome
accepts count t out = record { verdict = numbered 0 count; state = t; output = out }

abbrev says : ℕ → Bool → Reply
says number unchanged = record { verdict = numbered number 0; unchanged = unchanged }

-- the letter, and with 003D at 1 and at 0, in five cells
abbrev arrived_text : List ℕ
arrived_text = cells_read ++ 0 ∷ []

abbrev edited_text : List ℕ
edited_text = cells_edited ++ 0 ∷ []

abbrev longer_text : List ℕ
longer_text = 0x3D ∷ cells_read

-- bench 0's record of 003D for the cell at 1; bench 1's of 003D put at 0
abbrev record0 : List ℕ
record0 = 0 ∷ 1 ∷ 1 ∷ 1 ∷ 0x2262 ∷ 0x3D ∷ []

abbrev record1 : List ℕ
record1 = 1 ∷ 0 ∷ 0 ∷ 1 ∷ 0x3D ∷ []

-- five cells each, and thirteen words between them; each call is made on the state that the one before it leaves
abbrev opened : State
opened = state (bench 4 0 (Some 0)) (bench 4 0 (Some 0)) 0 arrived_text arrived_text (replicate 13 0)

abbrev one : State
one = state (bench 4 1 (Some 0)) (bench 4 0 (Some 0)) 6 edited_text arrived_text (record0 ++ replicate 7 0)

abbrev two : State
two = state (bench 4 1 (Some 0)) (bench 5 1 (Some 0)) 11 edited_text longer_text (record0 ++ record1 ++ 0 ∷ 0 ∷ [])

-- bench 0 takes its step back: the history stays
abbrev three : State
three = state (bench 4 0 (Some 0)) (bench 5 1 (Some 0)) 11 arrived_text longer_text (record0 ++ record1 ++ 0 ∷ 0 ∷ [])

-- bench 0 puts 003D for two cells: its undone step goes, the gap is closed, and its record lies last
abbrev four : State
four =
    state (bench 3 1 (Some 0)) (bench 5 1 (Some 0)) 12 (0x3D ∷ 0x391 ∷ 0x2E ∷ 0 ∷ 0 ∷ []) longer_text
    (record1 ++ 0 ∷ 0 ∷ 2 ∷ 1 ∷ 0x41 ∷ 0x2262 ∷ 0x3D ∷ 0 ∷ [])

-- "refused, it gives the kinds, zeros and no marks"
abbrev nothing : Bench
nothing = record { kind = Utf7Body; opening = 0; length = 0; standing = 0; saved = None }

pub record Worked : Type 0 where
  -- "its place is the sum of both counts"
  pub opens :
      open_of (both Utf7Body Utf7Body) (both letter letter) (both (replicate 5 9) (replicate 5 9)) (replicate 13 9)
      ≡ accepts 8 opened []
  pub second_short :
      open_of (both Utf7Body Utf7Body) (both letter letter) (both (replicate 5 9) (replicate 3 9)) (replicate 13 9)
      ≡ refusing (state nothing nothing 0 (replicate 5 9) (replicate 3 9) (replicate 13 9)) [] (numbered 9 4)
  pub first-replaces : replace_of opened 0 1 1 (0x3D ∷ []) ≡ accepts 4 one []
  pub second-replaces : replace_of one 1 0 0 (0x3D ∷ []) ≡ accepts 5 two []
  pub undoes : undo_of two 0 ≡ accepts 4 three []
  pub redoes : redo_of three 0 ≡ accepts 4 two []
  pub drops : replace_of three 0 0 2 (0x3D ∷ []) ≡ accepts 3 four []
  pub nothing-stands : (undo_of three 0).verdict ≡ numbered 13 0
  pub other-stands : (undo_of three 1).verdict ≡ numbered 0 4
  pub saves-letter : save_of three 0 letter (replicate 10 9) ≡ accepts 9 three (letter ++ 9 ∷ [])

pub worked : Worked
unfolding limit records_in own kept reached lengths_fit zeros bench_sound judged records layout.call_on layout.outcome_of
    outcome_at undo_last redo_next replace_fitting replace_at save_standing output.deliver pages.open_read pages.open_of open_of
worked =
    record {
      opens = rw letter-reads;
      second_short = rw letter-reads;
      first-replaces = rw sign-writable;
      second-replaces = rw sign-writable;
      undoes = refl;
      redoes = refl;
      drops = rw sign-writable;
      nothing-stands = refl;
      other-stands = refl;
      saves-letter = rw letter-reads-as;
    }

-- "12 exactly when all words, less the caller's undone ones, plus the new record's exceed the room": bench 0's undone
-- step is 6 of the 11 words used
pub record Room : Type 0 where
  pub other-counts : (replace_of three 1 0 1 (0x3D ∷ [])).verdict ≡ numbered 12 17
  pub own-dropped : (replace_of three 0 0 4 (0x3D ∷ [])).verdict ≡ numbered 12 14
  pub full : (replace_of three 0 0 3 (0x3D ∷ [])).verdict ≡ numbered 0 2
  pub none-undone : (replace_of two 0 1 1 (0x3D ∷ [])).verdict ≡ numbered 12 17

pub room : Room
unfolding limit records_in own kept reached lengths_fit zeros bench_sound judged records layout.call_on layout.outcome_of
    outcome_at replace_fitting replace_at
room =
    record {
      other-counts = rw sign-writable;
      own-dropped = rw sign-writable;
      full = rw sign-writable;
      none-undone = rw sign-writable;
    }

-- a mark is "a count of its steps": bench 0 saves one step, takes it back, and puts another in its place
abbrev saved0 : State
saved0 = state (bench 4 1 (Some 1)) (bench 5 1 (Some 0)) 11 edited_text longer_text (record0 ++ record1 ++ 0 ∷ 0 ∷ [])

abbrev undone0 : State
undone0 = state (bench 4 0 (Some 1)) (bench 5 1 (Some 0)) 11 arrived_text longer_text (record0 ++ record1 ++ 0 ∷ 0 ∷ [])

pub record Marks : Type 0 where
  pub saves : save_of two 0 letter (replicate 9 9) ≡ accepts 8 saved0 (written ++ 9 ∷ [])
  pub undo-leaves : undo_of saved0 0 ≡ accepts 4 undone0 []
  pub drops :
      replace_of undone0 0 1 1 (0x3D ∷ [])
      ≡ accepts 4
      (state (bench 4 1 None) (bench 5 1 (Some 0)) 11 edited_text longer_text (record1 ++ record0 ++ 0 ∷ 0 ∷ [])) []
  pub opened-unchanged : unchanged_of opened 1 ≡ says 0 true
  pub edited-changed : unchanged_of two 0 ≡ says 0 false
  pub saved-unchanged : unchanged_of saved0 0 ≡ says 0 true
  pub other-changed : unchanged_of saved0 1 ≡ says 0 false
  pub undone-changed : unchanged_of undone0 0 ≡ says 0 false

pub marks : Marks
unfolding limit records_in own kept reached lengths_fit zeros bench_sound judged records layout.call_on layout.outcome_of
    outcome_at layout.reply_of reply_at undo_last replace_fitting replace_at save_standing output.deliver
marks =
    record {
      saves = rw (write-form, edited-writable, edited-writes);
      undo-leaves = refl;
      drops = rw sign-writable;
      opened-unchanged = refl;
      edited-changed = refl;
      saved-unchanged = refl;
      other-changed = refl;
      undone-changed = refl;
    }

-- bench 1 with bench 0's one record in the history
abbrev beside : Bench → List ℕ → State
beside b1 text1 = state (bench 4 1 (Some 0)) b1 6 edited_text text1 record0

-- "20 (no such bench, place 0) after 16 and before 14"; 14 before what the editor refuses
pub record Ordered : Type 0 where
  pub nobody : undo_of three 2 ≡ refusing three [] (numbered 20 0)
  pub nobody-saves : save_of three 2 letter (replicate 9 9) ≡ refusing three (replicate 9 9) (numbered 20 0)
  pub nobody-asks : unchanged_of three 2 ≡ says 20 false
  pub nobody-unsound : (undo_of (beside (bench 4 0 (Some 0)) (cells_read ++ 7 ∷ [])) 2).verdict ≡ numbered 20 0
  pub nobody-asks-unsound : unchanged_of (beside (bench 4 0 (Some 0)) (cells_read ++ 7 ∷ [])) 2 ≡ says 20 false
  pub asks-unsound : unchanged_of (beside (bench 4 0 (Some 0)) (cells_read ++ 7 ∷ [])) 0 ≡ says 14 false
  pub replace-14 :
      (replace_of (beside (bench 4 0 (Some 0)) (cells_read ++ 7 ∷ [])) 0 9 9 (0x3D ∷ [])).verdict ≡ numbered 14 0
  pub save-14 : (save_of (beside (bench 4 0 (Some 0)) (cells_read ++ 7 ∷ [])) 0 [] []).verdict ≡ numbered 14 0

pub ordered : Ordered
unfolding limit records_in own reached lengths_fit zeros bench_sound judged records layout.call_on layout.outcome_of
    outcome_at layout.reply_of reply_at
ordered =
    record {
      nobody = refl;
      nobody-saves = refl;
      nobody-asks = refl;
      nobody-unsound = refl;
      nobody-asks-unsound = refl;
      asks-unsound = refl;
      replace-14 = refl;
      save-14 = refl;
    }

-- "its ledger is fed its own [..] calls alone", and of a refused one nothing
abbrev orders : List Order
orders =
    record { bench = 0; call = undo } ∷ record { bench = 2; call = redo } ∷ record { bench = 1; call = undo }
    ∷ record { bench = 1; call = undo } ∷ []

pub record Told : Type 0 where
  pub first-hears :
      heard_at first two orders ≡ record { call = undo; verdict = numbered 0 4; output = [] } ∷ []
  pub second-hears :
      heard_at second two orders
      ≡ record { call = undo; verdict = numbered 0 4; output = [] }
      ∷ record { call = undo; verdict = numbered 13 0; output = [] }
      ∷ []
  pub refused-untold :
      (l : Ledger) → ledger_after l (record { call = undo; verdict = numbered 13 0; output = [] } ∷ []) ≡ l

pub told : Told
unfolding limit records_in own reached lengths_fit zeros bench_sound judged records layout.call_on layout.outcome_of
    outcome_at undo_last
told = record { first-hears = refl; second-hears = refl; refused-untold = λ l. refl }

-- "14 is over both benches, each judged by its own records and text, every first word 0 or 1, its standing steps and
-- any mark at most the number of its records": bench 1 is damaged, and bench 0 asks
pub record Damaged : Type 0 where
  pub sound : (undo_of (beside (bench 4 0 None) arrived_text) 0).verdict ≡ numbered 0 4
  pub other-stands : (undo_of (beside (bench 4 1 (Some 0)) arrived_text) 0).verdict ≡ numbered 14 0
  pub other-mark : (undo_of (beside (bench 4 0 (Some 1)) arrived_text) 0).verdict ≡ numbered 14 0
  pub other_text : (undo_of (beside (bench 4 0 (Some 0)) (cells_read ++ 7 ∷ [])) 0).verdict ≡ numbered 14 0
  pub other_length : (undo_of (beside (bench 5 0 (Some 0)) (cells_read ++ 7 ∷ [])) 0).verdict ≡ numbered 14 0
  pub other-short : (undo_of (beside (bench 4 0 (Some 0)) (0x41 ∷ 0x2262 ∷ 0x391 ∷ [])) 0).verdict ≡ numbered 14 0
  pub other-opening :
      (undo_of
      (beside (record { kind = Utf7Body; opening = 6; length = 4; standing = 0; saved = Some 0 }) arrived_text) 0
      ).verdict
      ≡ numbered 14 0
  -- bench 0's own
  pub mark-beyond :
      (undo_of (state (bench 4 1 (Some 2)) (bench 4 0 None) 6 edited_text arrived_text record0) 0).verdict ≡ numbered 14 0
  pub many-stand :
      (undo_of (state (bench 4 2 (Some 0)) (bench 4 0 None) 6 edited_text arrived_text record0) 0).verdict ≡ numbered 14 0
  pub other-first-word :
      (undo_of
      (state (bench 4 0 None) (bench 4 0 None) 6 arrived_text arrived_text (2 ∷ 1 ∷ 1 ∷ 1 ∷ 0x2262 ∷ 0x3D ∷ [])) 0
      ).verdict
      ≡ numbered 14 0
  pub cut_record :
      (undo_of (state (bench 4 1 None) (bench 4 0 None) 5 edited_text arrived_text (0 ∷ 1 ∷ 1 ∷ 1 ∷ 0x2262 ∷ [])) 0).verdict
      ≡ numbered 14 0
  pub words-past-used :
      (undo_of (state (bench 4 1 None) (bench 4 0 None) 6 edited_text arrived_text (record0 ++ 7 ∷ [])) 0).verdict
      ≡ numbered 14 0
  pub used-beyond :
      (undo_of (state (bench 4 0 None) (bench 4 0 None) 1 arrived_text arrived_text []) 0).verdict ≡ numbered 14 0
  -- a record that removes a fifth cell: bench 1's text has one, bench 0's has not
  pub own-text :
      (undo_of
      (state (bench 4 0 None) (bench 5 1 None) 10 arrived_text longer_text (record1 ++ 0 ∷ 4 ∷ 1 ∷ 0 ∷ 0x2E ∷ [])) 1
      ).verdict
      ≡ numbered 14 0

pub damaged : Damaged
unfolding limit records_in own reached lengths_fit zeros bench_sound judged records layout.call_on layout.outcome_of
    outcome_at undo_last
damaged =
    record {
      sound = refl;
      other-stands = refl;
      other-mark = refl;
      other_text = refl;
      other_length = refl;
      other-short = refl;
      other-opening = refl;
      mark-beyond = refl;
      many-stand = refl;
      other-first-word = refl;
      cut_record = refl;
      words-past-used = refl;
      used-beyond = refl;
      own-text = refl;
    }
