-- What is kept of a page that a ledger determines is in form, and the bytes opened on belong to it. Assumes nothing.
use Prim.Native.Nat.{ℕ, ◌+◌, ◌≤◌, ◌<◌, ◌^◌}
use mathlib.Core.Path.{◌≡◌, refl, ap, subst}
use mathlib.Core.Bool.{true}
use mathlib.Core.List.{List, [], ◌∷◌, ◌++◌, reverse_aux, reverse, reverse_aux-eq, cons≢nil}
use Rattle.std.specs.Prelude.{Option, None, Some}
use native.Mathlib.Omega.{arith}
use lib.ListN.{length}
use lib.Dec.{lit<}
use Rattle.answer.specs.Answer.{limit}
use Rattle.answer.specs.Lists.{Each}
use Rattle.codec.proofs.Bounds.{Word, arrived-bytes}
use Rattle.editor.specs.Ledger.{Step, Ledger, text_after}
use Rattle.editor.specs.Editor.{Editor}
use Rattle.editor.proofs.Steps.{records_back, records-in-order, text-standing}
use Rattle.editor.proofs.Ends.{entries}
use Rattle.editor.proofs.Held.{Frame, text_at, editor_of}
use Rattle.editor.proofs.Promises.{Kept}
use Rattle.ledger.specs.Words.{Parted, sizes}
use Rattle.ledger.specs.Page.{State, records}
use Rattle.ledger.specs.Layout.{editor_for}
use Rattle.ledger.proofs.Words.{words, take-pad, length-words, sizes-reverse}
use Rattle.ledger.proofs.Lying.{page_of, Lies, page-lays}
use Rattle.page_file.specs.File.{Content, form_for, InForm}
use Rattle.page_file.specs.Calls.{content_of, belongs}
use Rattle.page_file.proofs.Laws.{due-form}
use Rattle.page_file.proofs.Calls.{reads-means, belongs-means}
use Rattle.page_file.proofs.Again.{mark-within}
use Rattle.sessions.proofs.Cells.{Words, Adds, text-words, records-words, steps-words}

-- what is kept of the page in which an editor lies
abbrev pub content_in : ℕ → List ℕ → Editor → Content
content_in opening arrived e =
    record {
      page = (page_of opening 0 e).page;
      arrived = arrived;
      text = e.text;
      history = words (entries e);
    }

pub content-is :
    (arrived : List ℕ) {n : ℕ} {s : State} {e : Editor} → Lies n s e → content_of s arrived ≡ content_in n arrived e
content-is arrived {n} {s} {e} l =
    rw l.state
    (λ i. record {
      page = (page_of n 0 e).page;
      arrived = arrived;
      text = take-pad e.room e.text i;
      history = take-pad l.space (words (entries e)) i;
    })

module _ {arrived : List ℕ} {s : State} {l : Ledger} (k : Kept page-lays arrived s l) where
  abbrev o : Frame arrived
  o = k.frame

  abbrev here : Editor
  here = editor_of o k.back k.undone

  abbrev pub kept : Content
  kept = content_in (length o.reading) arrived here

  pub kept-is : content_of s arrived ≡ kept
  kept-is = content-is arrived k.lies

  limit-word : limit < 2 ^ 32
  unfolding limit
  limit-word = lit< tt

  text-held : Words l → Each Word here.text
  text-held h =
      subst (Each Word) (text-standing o.reading k.back)
      (subst (λ (l : Ledger). Each Word (text_after l.reading l.standing)) k.ledger
      (text-words l.reading l.standing h.standing h.reading))

  words-held : Words l → Each Word (words (entries here))
  words-held h =
      let steps : Each Adds (reverse k.back ++ k.undone) =
      subst (λ (l : Ledger). Each Adds (l.standing ++ l.undone)) k.ledger (steps-words h) in
      let reading : Each Word o.reading = subst (λ (l : Ledger). Each Word l.reading) k.ledger h.reading in
      rw (← records-in-order o.reading k.back k.undone)
      (records-words o.room o.reading (reverse_aux k.back k.undone)
      (omega (arith, k.lies.small-text, limit-word)) k.good.fits
      (rw (reverse_aux-eq k.back k.undone) steps)
      reading)

  pub in-form : Words l → InForm (form_for kept) kept
  in-form h =
      let legal = k.lies.legal in
      let counted : length (words (entries here)) ≡ sizes (entries here) = length-words (entries here) in
      let parted : sizes (entries here) ≡ sizes here.standing + sizes here.undone =
      sizes-reverse here.standing here.undone in
      let few : length (words (entries here)) ≤ limit = omega (arith, k.lies.few, k.lies.small-history) in
      due-form kept
      (record {
        opening = omega (arith, legal.opens, k.lies.small-text);
        size = omega (arith, legal.room, k.lies.small-text);
        used = few;
        done = omega arith;
        saved = mark-within o.mark (entries here) legal.marked (omega arith);
        few = k.good.few;
        text = refl;
        history = refl;
        bytes = arrived-bytes o.kind arrived (reads-means o.kind arrived o.reading k.good.reads).0;
        cells = text-held h;
        words = words-held h;
      })

  -- no 15 for the bytes opened on
  nothing-text : (back : List Step) → records_back o.reading back ≡ [] → text_at o back ≡ o.reading
  nothing-text [] e = refl
  nothing-text (x ∷ back) e = absurd (cons≢nil e)

  pub belongs-here : belongs kept here.standing ≡ true
  belongs-here =
      let r = reads-means o.kind arrived o.reading k.good.reads in
      (belongs-means kept here.standing).1
      (r.0, ap length r.1, (λ e. rw (nothing-text k.back e) k.good.reads))

  -- the records that are found are the editor's
  found_some :
      (x : Option Parted) → editor_for s x ≡ Some here → (v : Parted) × (x ≡ Some v) × (v.standing ≡ here.standing)
  found_some None e =
      let z : ◌≡◌ {A = ℕ} 0 1 = cc in
      absurd (omega arith)
  found_some (Some v) e =
      let f = some_is _ _ e in
      (v, refl, ap (λ (e : Editor). e.standing) f)
    where
      some_is : (a b : Editor) → Some a ≡ Some b → a ≡ b
      some_is a b e = cc

  pub found_here : (v : Parted) × (records s ≡ Some v) × (v.standing ≡ here.standing)
  found_here = found_some (records s) (page-lays.sees k.lies)
