-- A squeeze at the desk is never refused with 9: its record is judged for 19 first, so it has fewer words than those
-- that it stands for, and the work buffer is as long as the desk's history. Assumes nothing.
use Prim.Native.Nat.{ℕ, ◌+◌, ◌*◌, ◌-◌, ◌≤◌}
use mathlib.Core.Path.{◌≡◌, refl, ap}
use mathlib.Core.Bool.{false, ◌||◌}
use mathlib.Core.List.{List, reverse_aux}
use Rattle.std.specs.Prelude.{Option, None, Some}
use native.Mathlib.Omega.{arith}
use lib.ListN.{length, length-replicate, take-append-drop}
use lib.Seq.{length-take-le}
use lib.Dec.{ltb, leb, eqb, lit≤}
use borrow.Author.Tests.{ltb-true, leb-false}
use Rattle.answer.proofs.Below.{cond-case}
use Rattle.editor.specs.Ledger.{squeeze}
use Rattle.editor.specs.Records.{Entry}
use Rattle.editor.specs.Editor.{Turn, over, oldest, later, folded_to, words_in, squeeze_to, squeeze_oldest}
use Rattle.editor.specs.Layout.{call_on, outcome_of}
use Rattle.ledger.specs.Words.{Parted, in_words, words_of, sizes}
use Rattle.ledger.specs.Page.{State, Outcome, records}
use Rattle.ledger.specs.Layout.{editor_of, editor_for, space_in, page}
use Rattle.ledger.specs.Calls.{squeeze_of}
use Rattle.ledger.proofs.Words.{Whole, length-words, sizes-append, sizes-reverse}
use Rattle.ledger.proofs.Sound.{Sound, framed-parts, records-sound}
use Rattle.ledger.proofs.Lying.{words-in}
use Rattle.desk_lines.specs.Desk.{history_room, file_room, work_room}

module _ (s : State) (k : ℕ) (work : List ℕ) (wide : length s.history ≤ length work) where
  module _ (v : Parted) (h : Sound s v) where
    -- the history has the words of the oldest records
    old-within : sizes (oldest k v.standing) ≤ length s.history
    old-within =
        let uses : s.page.used ≤ length s.history = (framed-parts s h.frame).uses in
        omega (
          arith,
          ap sizes (take-append-drop (length v.standing - k) v.standing),
          sizes-append (later k v.standing) (oldest k v.standing),
          sizes-reverse v.standing v.undone,
          length-words (reverse_aux v.standing v.undone),
          ap length h.tiles,
          length-take-le s.page.used s.history uses,
          uses,
        )

    sound-room : eqb (squeeze_oldest in_words (space_in s) (editor_of s v) k work).verdict.number 9 ≡ false
    unfolding squeeze_oldest squeeze_to
    sound-room =
        let Fits : Turn → Type 0 = λ t. eqb t.verdict.number 9 ≡ false in
        let old : List Entry = oldest k v.standing in
        let x : Entry = folded_to (editor_of s v) k in
        cond-case Fits (ltb k 2 || ltb (length v.standing) k) (λ _. refl)
        (λ _. cond-case Fits (leb (words_in (space_in s) old) (length (words_of x))) (λ _. refl)
        (λ gain. cond-case Fits (ltb (length work) (length (words_of x)))
        (λ short.
        absurd
        (omega (
          arith,
          leb-false (words_in (space_in s) old) (length (words_of x)) gain,
          ltb-true (length work) (length (words_of x)) short,
          words-in s old,
          old-within,
          wide,
        )))
        (λ _. refl)))

  found-room :
      (x : Option Parted) → Whole (Sound s) x →
      eqb (call_on page s (squeeze k work) (editor_for s x)).verdict.number 9 ≡ false
  unfolding call_on
  found-room None w = refl
  found-room (Some v) w = sound-room v w

work-long : length work_room ≡ history_room
unfolding work_room
work-long = length-replicate {A = ℕ} history_room 0

pub never-short :
    (s : State) (k : ℕ) → length s.history ≤ history_room → eqb (squeeze_of s k work_room).verdict.number 9 ≡ false
unfolding outcome_of
never-short s k small =
    cond-case (λ (o : Outcome). eqb o.verdict.number 9 ≡ false) (over s.text || over s.history) (λ _. refl)
    (λ _. found-room s k work_room (omega (arith, work-long, small)) (records s) (records-sound s))

-- the room for a page file holds the longest that there was before order 10 (file-most, crates/desk/proofs/Room.antt)
pub before-fits : 113 + 18 * 65536 ≤ file_room
before-fits = lit≤ tt
