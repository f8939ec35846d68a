-- How a turn of an editor can end; so a refusal changes nothing, in any layout, and 16 comes first. Assumes nothing.
use Prim.Native.Nat.{ℕ, ◌+◌, ◌-◌, ◌≤◌, ◌<◌}
use mathlib.Core.Path.{◌≡◌, refl, sym, ap}
use mathlib.Core.Bool.{Bool, true, false, ◌||◌, false≢true}
use mathlib.Core.List.{List, [], ◌∷◌, ◌++◌, reverse_aux}
use Rattle.std.specs.Prelude.{Option, None, Some}
use lib.ListN.{length, take-append-drop}
use lib.Dec.{ltb, leb, eqb}
use borrow.Author.Tests.{ltb-false, leb-false}
use Rattle.answer.specs.Answer.{Verdict, numbered, limit, too_long}
use Rattle.answer.specs.Output as output
use Rattle.answer.proofs.Below.{cond-case}
use Rattle.codec.specs.declared.Kind.{Kind}
use Rattle.codec.specs.Kinds.{first_unwritable, writing_in, reads_as, write_in}
use Rattle.codec.proofs.ByKind.{write-form}
use Rattle.editor.specs.Marks.{replaced_mark}
use Rattle.editor.specs.Ledger.{Step, Call, replace, undo, redo, save, squeeze}
use Rattle.editor.specs.Records.{Entry, applied, entry_at}
use Rattle.editor.specs.Editor.{Editor, Space, Turn, refused, edited, saving, saved_as, undo_last, redo_next}
use Rattle.editor.specs.Editor.{replace_fitting, replace_at, save_standing, oldest, later, folded_to, words_in}
use Rattle.editor.specs.Editor.{folding, squeeze_to, squeeze_oldest, turn_of, over, overlong, output_of}
use Rattle.editor.specs.Editor as change
use Rattle.editor.specs.Layout.{Outcome, refusing, taken, Layout, laid, call_on, outcome_of, reply_of}
use Rattle.editor.specs.Demand.{Unchanged, RefusedSame}

-- the records of an editor in order
abbrev pub entries : Editor → List Entry
entries e = reverse_aux e.standing e.undone

-- what a call that fills an output can come to: a refusal that leaves it, or bytes at its front
pub data Fills (out bytes : List ℕ) : output.Outcome → Type 0 where
  leaves : (v : Verdict) → eqb v.number 0 ≡ false → Fills out bytes (output.refusing v out)
  fills : Fills out bytes (record { verdict = numbered 0 (length bytes); out = output.filled bytes out })

module _ (out bytes : List ℕ) where
  pub deliver-fills : Fills out bytes (output.deliver bytes out)
  unfolding output.deliver
  deliver-fills = cond-case (Fills out bytes) (ltb (length out) (length bytes)) (λ _. leaves _ refl) (λ _. fills)

pub write-fills : (kind : Kind) (cells out : List ℕ) → Fills out (writing_in kind cells) (write_in kind cells out)
write-fills kind cells out =
    let bytes : List ℕ = writing_in kind cells in
    rw (write-form kind cells out)
    (cond-case (Fills out bytes) (ltb limit (length cells)) (λ _. leaves _ refl)
    (λ _. cond-case (Fills out bytes) (ltb (first_unwritable kind cells) (length cells)) (λ _. leaves _ refl)
    (λ _. deliver-fills out bytes)))

module _ (weigh : Step → ℕ) (space : Space) (e : Editor) where
  -- a refusal; bytes given, and the mark set; the same records, parted elsewhere; a new record for which there is room;
  -- one record of fewer words for the oldest ones
  pub data Ends (out : List ℕ) : Turn → Type 0 where
    refuses : (v : Verdict) → Ends out (refused e out v)
    gives : (bytes : List ℕ) →
        Ends out (saving space e (output.filled bytes out) (numbered 0 (length bytes)))
    moves : (text : List ℕ) (standing undone : List Entry) → reverse_aux standing undone ≡ entries e →
        Ends out (edited e text standing undone e.saved change.moves)
    records : (text : List ℕ) (x : Entry) → space.needed x ≤ space.words →
        Ends out (edited e text (x ∷ e.standing) [] (replaced_mark space.done e.saved) (change.records x))
    folds : (new old : List Entry) (x : Entry) → e.standing ≡ new ++ old → length (space.laid x) < words_in space old →
        Ends out (folding weigh space e out new old x)

  undo-ends : (es : List Entry) → e.standing ≡ es → Ends [] (undo_last e es)
  unfolding undo_last
  undo-ends [] p = refuses _
  undo-ends (x ∷ back) p = moves _ back (x ∷ e.undone) (ap (λ (l : List Entry). reverse_aux l e.undone) (sym p))

  redo-ends : (es : List Entry) → e.undone ≡ es → Ends [] (redo_next e es)
  unfolding redo_next
  redo-ends [] p = refuses _
  redo-ends (x ∷ rest) p = moves _ (x ∷ e.standing) rest (ap (λ (l : List Entry). reverse_aux e.standing l) (sym p))

  replace-ends : (place count : ℕ) (cells : List ℕ) → Ends [] (replace_at space e place count cells)
  unfolding replace_at replace_fitting
  replace-ends place count cells =
      let x : Entry = entry_at e.text place count cells in
      cond-case (Ends []) (ltb (length e.text) (place + count)) (λ _. refuses _)
      (λ _. cond-case (Ends []) (ltb (first_unwritable e.kind cells) (length cells)) (λ _. refuses _)
      (λ _. cond-case (Ends []) (ltb e.room (length (applied x e.text))) (λ _. refuses _)
      (λ _. cond-case (Ends []) (ltb space.words (space.needed x)) (λ _. refuses _)
      (λ t. records _ x (ltb-false space.words (space.needed x) t)))))

  fills-ends : {out bytes : List ℕ} {o : output.Outcome} → Fills out bytes o → Ends out (saved_as space e o)
  fills-ends (leaves v n) = rw n (refuses v)
  fills-ends {bytes = bytes} fills = gives bytes

  save-ends : (arrived out : List ℕ) (es : List Entry) → Ends out (save_standing space e arrived out es)
  unfolding save_standing
  save-ends arrived out [] =
      cond-case (λ (o : output.Outcome). Ends out (saved_as space e o)) (reads_as e.kind arrived e.text)
      (λ _. fills-ends (deliver-fills out arrived)) (λ _. refuses _)
  save-ends arrived out (x ∷ back) = fills-ends (write-fills e.kind e.text out)

  squeeze-ends : (k : ℕ) (work : List ℕ) → Ends work (squeeze_oldest weigh space e k work)
  unfolding squeeze_oldest squeeze_to
  squeeze-ends k work =
      let old : List Entry = oldest k e.standing in
      let x : Entry = folded_to e k in
      cond-case (Ends work) (ltb k 2 || ltb (length e.standing) k) (λ _. refuses _)
      (λ _. cond-case (Ends work) (leb (words_in space old) (length (space.laid x))) (λ _. refuses _)
      (λ t. cond-case (Ends work) (ltb (length work) (length (space.laid x))) (λ _. refuses _)
      (λ _.
      folds (later k e.standing) old x (sym (take-append-drop (length e.standing - k) e.standing))
      (leb-false (words_in space old) (length (space.laid x)) t))))

  pub turn-ends : (c : Call) → Ends (output_of c) (turn_of weigh space e c)
  turn-ends (replace place count cells) = replace-ends place count cells
  turn-ends undo = undo-ends e.standing refl
  turn-ends redo = redo-ends e.undone refl
  turn-ends (save arrived out) = save-ends arrived out e.standing
  turn-ends (squeeze k work) = squeeze-ends k work

module _ {S : Type 0} (layout : Layout S) where
  module _ (s : S) (out : List ℕ) where
    abbrev Stays : Outcome S → Type 0
    Stays o = taken o ≡ false → Unchanged s out o

    refusal : (v : Verdict) → Stays (refusing s out v)
    refusal v _ = record { state = refl; output = refl }

    ends_same : (space : Space) (e : Editor) (t : Turn) → Ends layout.weigh space e out t → Stays (laid layout s t)
    ends_same space e _ (refuses v) = refusal v
    ends_same space e _ (gives bytes) = λ q. absurd (false≢true (sym q))
    ends_same space e _ (moves text standing undone p) = λ q. absurd (false≢true (sym q))
    ends_same space e _ (records text x p) = λ q. absurd (false≢true (sym q))
    ends_same space e _ (folds new old x p f) = λ q. absurd (false≢true (sym q))

  call_same : (s : S) (c : Call) (found : Option Editor) → Stays s (output_of c) (call_on layout s c found)
  unfolding call_on
  call_same s c None = refusal s (output_of c) _
  call_same s c (Some e) =
      let space : Space = layout.space_in s in
      ends_same s (output_of c) space e _ (turn-ends layout.weigh space e c)

  pub refused-same : RefusedSame layout
  unfolding outcome_of
  refused-same s c =
      cond-case (Stays s (output_of c)) (overlong c || layout.long s) (λ _. refusal s (output_of c) _)
      (λ _. call_same s c (layout.editor_in s))

  -- "16 comes first": whatever else a call could refuse, a list or buffer over the limit is what it says
  long-first :
      (s : S) (c : Call) → (overlong c || layout.long s) ≡ true →
      outcome_of layout s c ≡ refusing s (output_of c) too_long
  unfolding outcome_of
  long-first s c long = rw long

  pub cells-long :
      (s : S) (place count : ℕ) (cells : List ℕ) → over cells ≡ true →
      outcome_of layout s (replace place count cells) ≡ refusing s [] too_long
  cells-long s place count cells long = long-first s (replace place count cells) (rw long)

  pub arrived-long :
      (s : S) (arrived out : List ℕ) → over arrived ≡ true →
      outcome_of layout s (save arrived out) ≡ refusing s out too_long
  arrived-long s arrived out long = long-first s (save arrived out) (rw long)

  or_right : (a b : Bool) → b ≡ true → (a || b) ≡ true
  or_right true b p = refl
  or_right false b p = p

  pub buffer-long :
      (s : S) (c : Call) → layout.long s ≡ true → outcome_of layout s c ≡ refusing s (output_of c) too_long
  buffer-long s c long = long-first s c (or_right (overlong c) (layout.long s) long)

  pub asked-long :
      (s : S) → layout.long s ≡ true → reply_of layout s ≡ record { verdict = too_long; unchanged = false }
  unfolding reply_of
  asked-long s long = rw long
