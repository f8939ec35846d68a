-- Each call turns the editor that a ledger determines into the one that the ledger then determines. Assumes nothing.
use Prim.Native.Nat.{ℕ, ◌+◌, ◌≤◌}
use mathlib.Core.Path.{◌≡◌, refl, sym, ap, ◌∙◌, subst, subst₂}
use mathlib.Core.Bool.{Bool, true, ◌||◌}
use mathlib.Core.List.{List, [], ◌∷◌, reverse_aux, reverse, reverse-cons}
use native.Mathlib.Omega.{arith}
use lib.ListN.{length}
use lib.Dec.{ltb, leb, eqb}
use borrow.Author.Tests.{ltb-false}
use Rattle.answer.specs.Answer.{numbered}
use Rattle.std.specs.Prelude.{Some}
use Rattle.answer.specs.Output as output
use Rattle.answer.proofs.Below.{cond-case}
use Rattle.codec.specs.Kinds.{first_unwritable, reads_as, writing_in, write_in}
use Rattle.editor.specs.Marks.{Mark, replaced_mark}
use Rattle.editor.specs.Ledger.{Step, Ledger, Call, replace, undo, redo, save, squeeze, last_of, before_last}
use Rattle.editor.specs.Ledger.{accepted_call, fed, text_of, weight_of, done_by}
use Rattle.editor.specs.Records.{Entry, applied, turned, mark_fits}
use Rattle.editor.specs.Editor.{Editor, Space, Turn, moves, edited, saved_as, undo_last, redo_next, replace_fitting}
use Rattle.editor.specs.Editor.{replace_at, save_standing, oldest, folded_to, words_in, squeeze_to, squeeze_oldest}
use Rattle.editor.specs.Editor.{turn_of}
use Rattle.editor.specs.Demand.{bytes_for}
use Rattle.editor.proofs.Steps.{record_of, records_back, records_of, Fits, fits-rest, fits-new, applied-stepped}
use Rattle.editor.proofs.Steps.{text-standing, length-records, or_parts}
use Rattle.editor.proofs.Turned.{stepped-back}
use Rattle.editor.proofs.Marks.{saved-fits, replaced-fits}
use Rattle.editor.proofs.Ends.{Fills, leaves, fills, deliver-fills, write-fills}
use Rattle.editor.proofs.Held.{Frame, remarked, text_at, editor_of, ledger_of, Good, Held, same, text-fits}
use Rattle.editor.proofs.Squeezes.{folds-oldest}

-- the last of steps in order, and those before it
last-back : (back : List Step) (x : Step) (rest : List Step) → last_of (reverse_aux back (x ∷ rest)) ≡ last_of (x ∷ rest)
last-back [] x rest = refl
last-back (y ∷ back) x rest = last-back back y (x ∷ rest)

before_back :
    (back : List Step) (x : Step) (rest : List Step) →
    before_last (reverse_aux back (x ∷ rest)) ≡ reverse_aux back (before_last (x ∷ rest))
before_back [] x rest = refl
before_back (y ∷ back) x rest = before_back back y (x ∷ rest)

-- a turn that is a save, refused or with these bytes
pub record SavesAs (space : Space) (e : Editor) (out bytes : List ℕ) (t : Turn) : Type 0 where
  pub output : output.Outcome
  pub is : t ≡ saved_as space e output
  pub fills : Fills out bytes output

-- a turn is accepted
abbrev pub accepts : Turn → Bool
accepts t = eqb t.verdict.number 0

module _ {arrived : List ℕ} (o : Frame arrived) where
  -- a step stands, so the ledger's text is written
  bytes-some :
      (l : Ledger) (lent : List ℕ) (back : List Step) (x : Step) (rest : List Step) →
      bytes_for l (reverse_aux back (x ∷ rest)) lent ≡ writing_in l.kind (text_of l)
  bytes-some l lent [] x rest = refl
  bytes-some l lent (y ∷ back) x rest = bytes-some l lent back y (x ∷ rest)

  -- a save is refused, or gives the bytes that the ledger says
  pub save-fills :
      (space : Space) (back undone : List Step) (lent out : List ℕ) →
      SavesAs space (editor_of o back undone) out (bytes_for (ledger_of o back undone) (reverse back) lent)
      (save_standing space (editor_of o back undone) lent out (records_back o.reading back))
  unfolding save_standing
  save-fills space [] undone lent out =
      record {
        output = _;
        is = refl;
        fills =
            cond-case (Fills out lent) (reads_as o.kind lent o.reading) (λ _. deliver-fills out lent)
            (λ _. leaves _ refl);
      }
  save-fills space (x ∷ back) undone lent out =
      record {
        output = _;
        is = refl;
        fills =
            subst (λ (bytes : List ℕ). Fills out bytes (write_in o.kind (text_at o (x ∷ back)) out))
            (ap (writing_in o.kind) (sym (text-standing o.reading (x ∷ back)))
            ∙ sym (bytes-some (ledger_of o (x ∷ back) undone) lent back x []))
            (write-fills o.kind (text_at o (x ∷ back)) out);
      }

module _ (weigh : Step → ℕ) {arrived : List ℕ} (o : Frame arrived) where
  -- what the call leaves belongs to the ledger that has heard of it
  abbrev Next : List Step → List Step → Call → Turn → Type 0
  Next back undone call t = Held weigh arrived t.editor (fed weigh (ledger_of o back undone) call (accepts t))

  -- undo and redo go between the same two editors
  module _ (back : List Step) (x : Step) (undone : List Step) (good : Good o weigh (reverse_aux back (x ∷ undone))) where
    within : x.place + x.count ≤ length (text_at o back)
    within = (fits-rest o.room o.reading back (x ∷ undone) good.fits).1

    abbrev arriving : List Step → List Step → Turn
    arriving back undone =
        record {
          verdict = numbered 0 (length (text_at o back));
          output = [];
          editor = editor_of o back undone;
          change = moves;
        }

    pub undo-some :
        undo_last (editor_of o (x ∷ back) undone) (records_back o.reading (x ∷ back)) ≡ arriving back (x ∷ undone)
    unfolding undo_last
    undo-some =
        let text : applied (turned (record_of (text_at o back) x)) (text_at o (x ∷ back)) ≡ text_at o back =
        stepped-back (text_at o back) x within in
        λ i. edited (editor_of o (x ∷ back) undone) (text i) (records_back o.reading back)
        (records_of (text_at o back) (x ∷ undone)) o.mark moves

    pub redo-some :
        redo_next (editor_of o back (x ∷ undone)) (records_of (text_at o back) (x ∷ undone)) ≡ arriving (x ∷ back) undone
    unfolding redo_next
    redo-some =
        λ i. edited (editor_of o back (x ∷ undone)) (applied-stepped (text_at o back) x within i)
        (records_back o.reading (x ∷ back)) (records_of (text_at o (x ∷ back)) undone) o.mark moves

  undo-next :
      (back undone : List Step) → Good o weigh (reverse_aux back undone) →
      Next back undone undo (undo_last (editor_of o back undone) (records_back o.reading back))
  unfolding accepted_call undo_last
  undo-next [] undone good = same weigh o [] undone good
  undo-next (x ∷ back) undone good =
      subst (Next (x ∷ back) undone undo) (sym (undo-some back x undone good))
      (record {
        frame = o;
        back = back;
        undone = x ∷ undone;
        editor = refl;
        ledger = rw (last-back back x [], before_back back x []);
        good = good;
      })

  redo-next :
      (back undone : List Step) → Good o weigh (reverse_aux back undone) →
      Next back undone redo (redo_next (editor_of o back undone) (records_of (text_at o back) undone))
  unfolding accepted_call redo_next
  redo-next back [] good = same weigh o back [] good
  redo-next back (x ∷ undone) good =
      subst (Next back (x ∷ undone) redo) (sym (redo-some back x undone good))
      (record {
        frame = o;
        back = x ∷ back;
        undone = undone;
        editor = refl;
        ledger = rw (reverse-cons x back);
        good = good;
      })

  -- what is done, by the steps that stand
  abbrev done_at : List Step → ℕ
  done_at back = weight_of weigh (reverse back)

  -- other steps, and another mark among them
  remark :
      (mark : Mark) {steps new : List Step} → Good o weigh steps → Fits o.room o.reading new →
      mark_fits weigh mark new ≡ true →
      Good (remarked o mark) weigh new
  remark mark good fits marked = record { fits = fits; few = good.few; reads = good.reads; marked = marked }

  module _
      (space : Space)
      (back undone : List Step)
      (done : space.done ≡ done_at back)
      (good : Good o weigh (reverse_aux back undone)) where
    module _ (x : Step) where
      abbrev After : Turn → Type 0
      After = Next back undone (replace x.place x.count x.added)

      fitting-next :
          x.place + x.count ≤ length (text_at o back) →
          After (replace_fitting space (editor_of o back undone) (record_of (text_at o back) x))
      unfolding replace_fitting accepted_call
      fitting-next within =
          let r : Entry = record_of (text_at o back) x in
          let text : applied r (text_at o back) ≡ text_at o (x ∷ back) = applied-stepped (text_at o back) x within in
          cond-case After (ltb o.room (length (applied r (text_at o back)))) (λ _. same weigh o back undone good)
          (λ short. cond-case After (ltb space.words (space.needed r)) (λ _. same weigh o back undone good)
          (λ _.
          let below : length (applied r (text_at o back)) ≤ o.room = ltb-false _ _ short in
          let mark : Mark = replaced_mark (done_at back) o.mark in
          record {
            frame = remarked o mark;
            back = x ∷ back;
            undone = [];
            editor =
                λ i. record {
                  kind = o.kind;
                  room = o.room;
                  text = text i;
                  standing = records_back o.reading (x ∷ back);
                  undone = [];
                  saved = replaced_mark (done i) o.mark;
                };
            ledger = rw (reverse-cons x back);
            good =
                remark mark good
                (fits-new o.room o.reading back undone (x ∷ []) good.fits
                (text-fits weigh o back undone good, within, omega (arith, ap length text)))
                (replaced-fits weigh back undone (x ∷ []) o.mark good.marked);
          }))

      replace-next : After (replace_at space (editor_of o back undone) x.place x.count x.added)
      unfolding replace_at
      replace-next =
          cond-case After (ltb (length (text_at o back)) (x.place + x.count)) (λ _. same weigh o back undone good)
          (λ within. cond-case After (ltb (first_unwritable o.kind x.added) (length x.added))
          (λ _. same weigh o back undone good) (λ _. fitting-next (ltb-false _ _ within)))

    module _ (lent out : List ℕ) where
      fills-next :
          {bytes : List ℕ} {r : output.Outcome} → Fills out bytes r →
          Next back undone (save lent out) (saved_as space (editor_of o back undone) r)
      unfolding accepted_call
      fills-next (leaves v n) = rw (n, n) (same weigh o back undone good)
      fills-next fills =
          rw done
          (same weigh (remarked o (Some (done_at back))) back undone
          (remark (Some (done_at back)) good good.fits (saved-fits weigh back undone)))

      save-next :
          Next back undone (save lent out)
          (save_standing space (editor_of o back undone) lent out (records_back o.reading back))
      save-next =
          let t = save-fills o space back undone lent out in
          subst (Next back undone (save lent out)) (sym t.is) (fills-next t.fills)

    squeeze-next :
        (k : ℕ) (work : List ℕ) →
        Next back undone (squeeze k work) (squeeze_oldest weigh space (editor_of o back undone) k work)
    unfolding squeeze_oldest squeeze_to
    squeeze-next k work =
        let After : Turn → Type 0 = Next back undone (squeeze k work) in
        let all : List Entry = records_back o.reading back in
        let x : Entry = folded_to (editor_of o back undone) k in
        cond-case After (ltb k 2 || ltb (length all) k) (λ _. same weigh o back undone good)
        (λ q. cond-case After (leb (words_in space (oldest k all)) (length (space.laid x)))
        (λ _. same weigh o back undone good)
        (λ _. cond-case After (ltb (length work) (length (space.laid x))) (λ _. same weigh o back undone good)
        (λ _.
        let standing : k ≤ length all = ltb-false (length all) k (or_parts (ltb k 2) (ltb (length all) k) q).1 in
        folds-oldest weigh o undone space work back k (omega (arith, length-records o.reading back)) good)))

    next : (c : Call) → Next back undone c (turn_of weigh space (editor_of o back undone) c)
    next (replace place count cells) = replace-next (record { place = place; count = count; added = cells })
    next undo = undo-next back undone good
    next redo = redo-next back undone good
    next (save lent out) = save-next lent out
    next (squeeze k work) = squeeze-next k work

-- so a call keeps an editor and its ledger together, where what is done is what the ledger counts
pub held-turn :
    {weigh : Step → ℕ} {arrived : List ℕ} (space : Space) {e : Editor} {l : Ledger} → Held weigh arrived e l →
    space.done ≡ done_by weigh l →
    (c : Call) →
    Held weigh arrived (turn_of weigh space e c).editor (fed weigh l c (accepts (turn_of weigh space e c)))
held-turn {weigh} {arrived} space h done c =
    subst₂
    (λ (e : Editor) (l : Ledger).
    space.done ≡ done_by weigh l →
    Held weigh arrived (turn_of weigh space e c).editor (fed weigh l c (accepts (turn_of weigh space e c))))
    (sym h.editor) (sym h.ledger)
    (λ d. next weigh h.frame space h.back h.undone d h.good c) done
