-- The editor that a ledger determines. Assumes nothing.
use Prim.Native.Nat.{ℕ, ◌≤◌}
use mathlib.Core.Path.{◌≡◌, refl, sym, ap, ◌∙◌}
use mathlib.Core.Bool.{Bool, true, false}
use mathlib.Core.List.{List, [], reverse_aux, reverse, map}
use lib.ListN.{length}
use Rattle.answer.specs.Answer.{limit}
use Rattle.codec.specs.declared.Kind.{Kind}
use Rattle.codec.specs.Kinds.{reads_as}
use Rattle.editor.specs.Marks.{Mark}
use Rattle.editor.specs.Ledger.{Step, Ledger, Call, replace, undo, redo, save, squeeze, accepted_call, fed}
use Rattle.editor.specs.Records.{step_of, lengths_fit, reached, mark_fits}
use Rattle.editor.specs.Editor.{Editor}
use Rattle.editor.proofs.Ends.{entries}
use Rattle.editor.proofs.Steps.{records_of, records_back, text_back, Fits, fits-first, fits-rest, fits-new}
use Rattle.editor.proofs.Steps.{lengths-fit, length-reached, records-in-order, text-standing, steps_of}

-- all of an editor but its steps, where these bytes arrived; a call may change the mark
pub record Frame (arrived : List ℕ) : Type 0 where
  pub kind : Kind
  pub reading : List ℕ
  pub room : ℕ
  pub mark : Mark

abbrev pub remarked : {arrived : List ℕ} → Frame arrived → Mark → Frame arrived
remarked o mark = record { kind = o.kind; reading = o.reading; room = o.room; mark = mark }

module _ {arrived : List ℕ} (o : Frame arrived) where
  -- from the standing steps, the latest first, and the undone ones: the text, the editor, the ledger
  abbrev pub text_at : List Step → List ℕ
  text_at back = text_back o.reading back

  abbrev pub editor_of : List Step → List Step → Editor
  editor_of back undone =
      record {
        kind = o.kind;
        room = o.room;
        text = text_at back;
        standing = records_back o.reading back;
        undone = records_of (text_at back) undone;
        saved = o.mark;
      }

  abbrev pub ledger_of : List Step → List Step → Ledger
  ledger_of back undone =
      record { kind = o.kind; reading = o.reading; standing = reverse back; undone = undone; saved = o.mark }

  -- steps in order that the text buffer can hold, a mark that is none, 0 or the end of one of them, and arrived bytes
  -- that read as the reading
  pub record Good (weigh : Step → ℕ) (steps : List Step) : Type 0 where
    pub fits : Fits o.room o.reading steps
    pub few : length arrived ≤ limit
    pub reads : reads_as o.kind arrived o.reading ≡ true
    pub marked : mark_fits weigh o.mark steps ≡ true

-- an editor and a ledger that belong together: both are those of the same steps
pub record Held (weigh : Step → ℕ) (arrived : List ℕ) (e : Editor) (l : Ledger) : Type 0 where
  pub frame : Frame arrived
  pub back : List Step
  pub undone : List Step
  pub editor : e ≡ editor_of frame back undone
  pub ledger : l ≡ ledger_of frame back undone
  pub good : Good frame weigh (reverse_aux back undone)

-- what a layout needs of an editor to be sound: from the opening length its records lead within the room to its text,
-- and its mark is none, 0 or the end of one of them
pub record Legal (weigh : Step → ℕ) (opening : ℕ) (e : Editor) : Type 0 where
  pub opens : opening ≤ e.room
  pub room : length e.text ≤ e.room
  pub fits : lengths_fit e.room opening (entries e) ≡ true
  pub reach : reached opening (reverse e.standing) ≡ length e.text
  pub marked : mark_fits weigh e.saved (map step_of (entries e)) ≡ true

module _ (weigh : Step → ℕ) {arrived : List ℕ} where
  pub same :
      (o : Frame arrived) (back undone : List Step) → Good o weigh (reverse_aux back undone) →
      Held weigh arrived (editor_of o back undone) (ledger_of o back undone)
  same o back undone good =
      record { frame = o; back = back; undone = undone; editor = refl; ledger = refl; good = good }

  module _ (o : Frame arrived) (back undone : List Step) (good : Good o weigh (reverse_aux back undone)) where
    pub text-fits : length (text_at o back) ≤ o.room
    text-fits = fits-first o.room (text_at o back) undone (fits-rest o.room o.reading back undone good.fits)

    fits-standing : Fits o.room o.reading (reverse back)
    fits-standing = fits-new o.room o.reading back undone [] good.fits text-fits

    pub legal-of : Legal weigh (length o.reading) (editor_of o back undone)
    legal-of =
        record {
          opens = fits-first o.room o.reading (reverse_aux back undone) good.fits;
          room = text-fits;
          fits =
              rw (← records-in-order o.reading back undone)
              (lengths-fit o.room o.reading (reverse_aux back undone) good.fits);
          reach =
              ap (reached (length o.reading)) (sym (records-in-order o.reading back []))
              ∙ length-reached o.room o.reading (reverse back) fits-standing
              ∙ ap length (text-standing o.reading back);
          marked =
              rw (
                ← records-in-order o.reading back undone,
                steps_of o.room o.reading (reverse_aux back undone) good.fits,
              )
              good.marked;
        }

    -- the records are those of the ledger's steps
    pub standing-steps : map step_of (reverse (records_back o.reading back)) ≡ reverse back
    standing-steps =
        ap (map step_of) (sym (records-in-order o.reading back []))
        ∙ steps_of o.room o.reading (reverse back) fits-standing

    pub undone-steps : map step_of (records_of (text_at o back) undone) ≡ undone
    undone-steps =
        steps_of o.room (text_at o back) undone (fits-rest o.room o.reading back undone good.fits)

  pub legal : {e : Editor} {l : Ledger} → Held weigh arrived e l → Legal weigh (length l.reading) e
  legal h = rw (h.editor, h.ledger) (legal-of h.frame h.back h.undone h.good)

-- no call changes the ledger's reading
pub reading-kept : (weigh : Step → ℕ) (l : Ledger) (c : Call) (taken : Bool) → (fed weigh l c taken).reading ≡ l.reading
unfolding accepted_call
reading-kept weigh l c false = refl
reading-kept weigh l (replace place count cells) true = refl
reading-kept weigh l undo true = refl
reading-kept weigh l redo true = refl
reading-kept weigh l (save arrived out) true = refl
reading-kept weigh l (squeeze k work) true = refl
