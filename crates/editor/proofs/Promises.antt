-- Demand 3 for any layout in which the editor lies. Assumes nothing.
use Prim.Native.Nat.{ℕ, ◌≤◌, ◌<◌}
use mathlib.Core.Path.{◌≡◌, refl, sym, ap, ◌∙◌, subst, subst₂}
use mathlib.Core.Bool.{Bool, true, false, cond, ◌||◌, false≢true}
use mathlib.Core.List.{List, [], ◌∷◌, ◌++◌, reverse_aux, reverse, map, cons≢nil}
use mathlib.Core.Logic.{◌↔◌}
use native.Mathlib.Omega.{arith}
use lib.ListN.{length, replicate, length-reverse}
use lib.Dec.{eqb}
use borrow.Author.Tests.{le-ltb}
use Rattle.answer.specs.Answer.{Verdict, limit, numbered, too_long}
use Rattle.std.specs.Prelude.{Some}
use Rattle.answer.specs.Output as output
use Rattle.answer.proofs.Below.{cond-case}
use Rattle.editor.specs.Marks.{Mark}
use Rattle.editor.specs.Ledger.{Step, Ledger, Call, undo, redo, save, squeeze, fed, weight_of}
use Rattle.editor.specs.Ledger.{unchanged_by}
use Rattle.editor.specs.Records.{Entry, step_of}
use Rattle.editor.specs.Editor.{Editor, Turn, with_text, with_mark, saved_as, turn_of, overlong, output_of, undo_last}
use Rattle.editor.specs.Editor.{Space, redo_next, save_standing, words_in, squeeze_oldest}
use Rattle.editor.specs.Layout.{Outcome, refusing, taken, Layout, laid, call_on, outcome_of}
use Rattle.editor.specs.Layout.{reply_of, after, heard}
use Rattle.editor.specs.Demand.{bytes_for, saved_bytes, undone-by, Promised}
use Rattle.editor.proofs.Steps.{text-standing}
use Rattle.editor.proofs.Ends.{entries, Fills, leaves, fills, Ends, refuses, gives, moves, records, folds}
use Rattle.editor.proofs.Ends.{turn-ends}
use Rattle.editor.proofs.Held.{Frame, editor_of, ledger_of, Good, Held, same, Legal, legal-of, legal}
use Rattle.editor.proofs.Held.{standing-steps, undone-steps, reading-kept}
use Rattle.editor.proofs.Folded.{squeeze-legal}
use Rattle.editor.proofs.Calls.{accepts, undo-some, redo-some, save-fills, held-turn}

-- an editor lies in a state of a layout: it is found there, and what a call makes of it lies in what the call leaves
pub record Lays {S : Type 0} (layout : Layout S) (Lies : ℕ → S → Editor → Type 0) : Type 0 where
  pub short : {n : ℕ} {s : S} {e : Editor} → Lies n s e → layout.long s ≡ false
  pub sees : {n : ℕ} {s : S} {e : Editor} → Lies n s e → layout.editor_in s ≡ Some e
  pub shows : {n : ℕ} {s : S} {e : Editor} → Lies n s e → layout.text_in s ≡ e.text
  pub done :
      {n : ℕ} {s : S} {e : Editor} → Lies n s e →
      (layout.space_in s).done ≡ weight_of layout.weigh (map step_of (reverse e.standing))
  pub marks :
      {n : ℕ} {s : S} {e : Editor} → Lies n s e → (mark : Mark) → Legal layout.weigh n (with_mark e mark) →
      Lies n (layout.marked s mark) (with_mark e mark)
  pub moves :
      {n : ℕ} {s : S} {e : Editor} → Lies n s e → (text : List ℕ) (standing undone : List Entry) →
      reverse_aux standing undone ≡ entries e → Legal layout.weigh n (with_text e text standing undone e.saved) →
      Lies n (layout.moved s (with_text e text standing undone e.saved)) (with_text e text standing undone e.saved)
  pub records :
      {n : ℕ} {s : S} {e : Editor} → Lies n s e → (text : List ℕ) (x : Entry) (mark : Mark) →
      (layout.space_in s).needed x ≤ (layout.space_in s).words →
      Legal layout.weigh n (with_text e text (x ∷ e.standing) [] mark) →
      Lies n (layout.recorded s (with_text e text (x ∷ e.standing) [] mark) x)
      (with_text e text (x ∷ e.standing) [] mark)
  pub folds :
      {n : ℕ} {s : S} {e : Editor} → Lies n s e → (new old : List Entry) (x : Entry) (mark : Mark) →
      e.standing ≡ new ++ old → length ((layout.space_in s).laid x) < words_in (layout.space_in s) old →
      Legal layout.weigh n (with_text e e.text (new ++ x ∷ []) e.undone mark) →
      Lies n (layout.folded s (with_text e e.text (new ++ x ∷ []) e.undone mark) old x)
      (with_text e e.text (new ++ x ∷ []) e.undone mark)

-- a verdict that is 13 exactly when a list is empty, and else is 0
abbrev Answers : Verdict → List Step → Type 0
Answers v steps = ((v ≡ numbered 13 0) ↔ (steps ≡ [])) × ((steps ≡ [] → ⊥) → eqb v.number 0 ≡ true)

thirteen : (v : Verdict) (steps : List Step) → v ≡ numbered 13 0 → steps ≡ [] → Answers v steps
thirteen v steps p e = (((λ _. e), (λ _. p)), (λ n. absurd (n e)))

not-both : (v : Verdict) → eqb v.number 0 ≡ true → v ≡ numbered 13 0 → ⊥
not-both v t p = false≢true (ap (λ (v : Verdict). eqb v.number 0) (sym p) ∙ t)

zero-else : (v : Verdict) (steps : List Step) → eqb v.number 0 ≡ true → (steps ≡ [] → ⊥) → Answers v steps
zero-else v steps t n = (((λ p. absurd (not-both v t p)), (λ e. absurd (n e))), (λ _. t))

module _ {S : Type 0} {layout : Layout S} {Lies : ℕ → S → Editor → Type 0} (lays : Lays layout Lies) where
  or-none : (a : Bool) → (a || false) ≡ a
  or-none true = refl
  or-none false = refl

  -- where an editor lies, only 16 for the list that is lent comes before it
  pub outcome-is :
      {n : ℕ} {s : S} {e : Editor} → Lies n s e → (c : Call) →
      outcome_of layout s c
      ≡ cond (overlong c) (refusing s (output_of c) too_long)
      (laid layout s (turn_of layout.weigh (layout.space_in s) e c))
  unfolding outcome_of call_on
  outcome-is l c = rw (lays.short l, or-none (overlong c), lays.sees l)

  pub turn-lies :
      {n : ℕ} {s : S} {e : Editor} → Lies n s e → {out : List ℕ} (t : Turn) →
      Ends layout.weigh (layout.space_in s) e out t →
      Legal layout.weigh n t.editor → Lies n (laid layout s t).state t.editor
  turn-lies l _ (refuses v) ok = l
  turn-lies l _ (gives bytes) ok = lays.marks l _ ok
  turn-lies l _ (moves text standing undone p) ok = lays.moves l text standing undone p ok
  turn-lies l _ (records text x p) ok = lays.records l text x _ p ok
  turn-lies l _ (folds new old x p f) ok = lays.folds l new old x _ p f ok

  -- a squeeze, of any editor that lies in a state
  pub squeezed-lies :
      {n : ℕ} {s : S} {e : Editor} → Lies n s e → Legal layout.weigh n e → (k : ℕ) (work : List ℕ) →
      Lies n (outcome_of layout s (squeeze k work)).state
      (squeeze_oldest layout.weigh (layout.space_in s) e k work).editor
  squeezed-lies {n} {s} {e} l ok k work =
      let space : Space = layout.space_in s in
      rw (outcome-is l (squeeze k work))
      (turn-lies l _ (turn-ends layout.weigh space e (squeeze k work))
      (squeeze-legal layout.weigh n e ok space k work))

  -- a state in which the editor of a ledger lies
  pub record Kept (arrived : List ℕ) (s : S) (l : Ledger) : Type 0 where
    pub frame : Frame arrived
    pub back : List Step
    pub undone : List Step
    pub ledger : l ≡ ledger_of frame back undone
    pub lies : Lies (length frame.reading) s (editor_of frame back undone)
    pub good : Good frame layout.weigh (reverse_aux back undone)

  pub kept :
      {arrived : List ℕ} {s : S} {e : Editor} {l : Ledger} → Lies (length l.reading) s e →
      Held layout.weigh arrived e l →
      Kept arrived s l
  kept {s = s} lies h =
      record {
        frame = h.frame;
        back = h.back;
        undone = h.undone;
        ledger = h.ledger;
        lies =
            subst₂ (λ (r : List ℕ) (e : Editor). Lies (length r) s e) (ap (λ (l : Ledger). l.reading) h.ledger)
            h.editor lies;
        good = h.good;
      }

  abbrev weigh : Step → ℕ
  weigh = layout.weigh

  abbrev LiesAt : {arrived : List ℕ} → Frame arrived → S → List Step → List Step → Type 0
  LiesAt o s back undone = Lies (length o.reading) s (editor_of o back undone)

  -- what is done in the state is what the ledger counts
  done-counted :
      {arrived : List ℕ} (o : Frame arrived) {s : S} (back undone : List Step) → LiesAt o s back undone →
      Good o weigh (reverse_aux back undone) →
      (layout.space_in s).done ≡ weight_of weigh (reverse back)
  done-counted o back undone lies good = lays.done lies ∙ ap (weight_of weigh) (standing-steps weigh o back undone good)

  module _ {arrived : List ℕ} where
    -- one call keeps the state and the ledger together
    pub kept-call :
        {s : S} {l : Ledger} → Kept arrived s l → (c : Call) →
        Kept arrived (outcome_of layout s c).state (fed layout.weigh l c (taken (outcome_of layout s c)))
    kept-call {s} k c =
        let e : Editor = editor_of k.frame k.back k.undone in
        let l : Ledger = ledger_of k.frame k.back k.undone in
        let t : Turn = turn_of weigh (layout.space_in s) e c in
        let now : Held weigh arrived e l = same weigh k.frame k.back k.undone k.good in
        let h : Held weigh arrived t.editor (fed weigh l c (accepts t)) =
        held-turn (layout.space_in s) now (done-counted k.frame k.back k.undone k.lies k.good) c in
        let r : (fed weigh l c (accepts t)).reading ≡ l.reading = reading-kept weigh l c (accepts t) in
        let ends = turn-ends weigh (layout.space_in s) e c in
        rw (k.ledger, outcome-is k.lies c)
        (cond-case (λ (o : Outcome S). Kept arrived o.state (fed weigh l c (taken o))) (overlong c)
        (λ _. kept k.lies now)
        (λ _. kept (rw r (turn-lies k.lies t ends (rw r at (legal weigh h)))) h))

    -- and so does a list of calls
    pub kept-calls :
        {s : S} {l : Ledger} → Kept arrived s l → (calls : List Call) →
        Kept arrived (after layout s calls) (heard layout l s calls)
    kept-calls k [] = k
    kept-calls {s = s} {l = l} k (c ∷ calls) = kept-calls {s = (outcome_of layout s c).state} (kept-call k c) calls

  reading-heard : (l : Ledger) (s : S) (calls : List Call) → (heard layout l s calls).reading ≡ l.reading
  reading-heard l s [] = refl
  reading-heard l s (c ∷ calls) =
      reading-heard (fed weigh l c (taken (outcome_of layout s c))) (outcome_of layout s c).state calls
      ∙ reading-kept weigh l c (taken (outcome_of layout s c))

  module _ {arrived : List ℕ} (o : Frame arrived) where
    undo-answers :
        {s : S} (back undone : List Step) → LiesAt o s back undone → Good o weigh (reverse_aux back undone) →
        Answers (outcome_of layout s undo).verdict (reverse back)
    unfolding undo_last
    undo-answers [] undone lies good = thirteen _ [] (ap (λ (r : Outcome S). r.verdict) (outcome-is lies undo)) refl
    undo-answers (x ∷ back) undone lies good =
        zero-else _ (reverse (x ∷ back))
        (ap taken (outcome-is lies undo) ∙ ap accepts (undo-some weigh o back x undone good))
        (λ e. omega (arith, length-reverse (x ∷ back), ap length e))

    redo-answers :
        {s : S} (back undone : List Step) → LiesAt o s back undone → Good o weigh (reverse_aux back undone) →
        Answers (outcome_of layout s redo).verdict undone
    unfolding redo_next
    redo-answers back [] lies good = thirteen _ [] (ap (λ (r : Outcome S). r.verdict) (outcome-is lies redo)) refl
    redo-answers back (x ∷ undone) lies good =
        zero-else _ (x ∷ undone) (ap taken (outcome-is lies redo) ∙ ap accepts (redo-some weigh o back x undone good))
        cons≢nil

    -- an undo that is accepted leaves the editor without its last step
    undo-lies :
        {s : S} (back : List Step) (x : Step) (undone : List Step) → LiesAt o s (x ∷ back) undone →
        Good o weigh (reverse_aux back (x ∷ undone)) → LiesAt o (outcome_of layout s undo).state back (x ∷ undone)
    undo-lies {s} back x undone lies good =
        subst (λ (r : Outcome S). LiesAt o r.state back (x ∷ undone))
        (sym (outcome-is lies undo ∙ ap (laid layout s) (undo-some weigh o back x undone good)))
        (lays.moves lies _ _ _ refl (legal-of weigh o back (x ∷ undone) good))

    -- as many undos as steps stand lead to 13
    undo-all :
        {s : S} (back undone : List Step) → LiesAt o s back undone → Good o weigh (reverse_aux back undone) →
        (outcome_of layout (undone-by layout (length back) s) undo).verdict ≡ numbered 13 0
    undo-all [] undone lies good = (undo-answers [] undone lies good).0.1 refl
    undo-all {s = s} (x ∷ back) undone lies good = undo-all {s = (outcome_of layout s undo).state} back (x ∷ undone) (undo-lies back x undone lies good) good

    -- bytes that are filled in are those that the save gives
    fills-give :
        (s : S) (e : Editor) (out bytes : List ℕ) {r : output.Outcome} → Fills out bytes r →
        taken (laid layout s (saved_as (layout.space_in s) e r)) ≡ true →
        laid layout s (saved_as (layout.space_in s) e r)
        ≡ saved_bytes (layout.marked s (Some (layout.space_in s).done)) out bytes
    fills-give s e out bytes (leaves v n) t = absurd (false≢true (sym n ∙ rw n at t))
    fills-give s e out bytes fills t = refl

    saves-here :
        {s : S} (back undone : List Step) → LiesAt o s back undone → Good o weigh (reverse_aux back undone) →
        (lent out : List ℕ) → taken (outcome_of layout s (save lent out)) ≡ true →
        outcome_of layout s (save lent out)
        ≡ saved_bytes (layout.marked s (Some (weight_of weigh (reverse back)))) out
        (bytes_for (ledger_of o back undone) (reverse back) lent)
    saves-here {s} back undone lies good lent out =
        let bytes : List ℕ = bytes_for (ledger_of o back undone) (reverse back) lent in
        let marked : S = layout.marked s (Some (layout.space_in s).done) in
        let t = save-fills o (layout.space_in s) back undone lent out in
        rw (outcome-is lies (save lent out), ← done-counted o back undone lies good)
        (cond-case (λ (r : Outcome S). taken r ≡ true → r ≡ saved_bytes marked out bytes) (overlong (save lent out))
        (λ _ q. absurd (false≢true q))
        (λ _.
        subst (λ (u : Turn). taken (laid layout s u) ≡ true → laid layout s u ≡ saved_bytes marked out bytes)
        (sym t.is) (fills-give s (editor_of o back undone) out bytes t.fills)))

    -- where nothing stands, a save gives the arrived bytes
    saves-arrived :
        (s : S) (undone : List Step) → LiesAt o s [] undone → Good o weigh undone → (out : List ℕ) →
        length arrived ≤ length out →
        outcome_of layout s (save arrived out) ≡ saved_bytes (layout.marked s (Some 0)) out arrived
    unfolding save_standing output.deliver
    saves-arrived s undone lies good out fits =
        rw (
          outcome-is lies (save arrived out),
          le-ltb limit (length arrived) good.few,
          good.reads,
          le-ltb (length out) (length arrived) fits,
          done-counted o [] undone lies good,
        )

    -- the question answers by the ledger's mark
    asks-here :
        {s : S} (back undone : List Step) → LiesAt o s back undone → Good o weigh (reverse_aux back undone) →
        reply_of layout s ≡ record { verdict = numbered 0 0; unchanged = unchanged_by weigh (ledger_of o back undone) }
    unfolding reply_of
    asks-here back undone lies good = rw (lays.short lies, lays.sees lies, done-counted o back undone lies good)

  -- where undo gives 13, nothing stands
  abbrev AtBottom : {arrived : List ℕ} → (S → Ledger → Type 0) → Frame arrived → Type 0
  AtBottom P o = (s : S) (undone : List Step) → LiesAt o s [] undone → Good o weigh undone → P s (ledger_of o [] undone)

  module _ {arrived : List ℕ} (P : S → Ledger → Type 0) (f : (o : Frame arrived) → AtBottom P o) where
    bottom-here :
        (o : Frame arrived) {s : S} (back undone : List Step) → LiesAt o s back undone →
        Good o weigh (reverse_aux back undone) →
        (outcome_of layout s undo).verdict ≡ numbered 13 0 → P s (ledger_of o back undone)
    bottom-here o {s} [] undone lies good e = f o s undone lies good
    bottom-here o (x ∷ back) undone lies good e =
        let n : reverse (x ∷ back) ≡ [] = (undo-answers o (x ∷ back) undone lies good).0.0 e in
        absurd (omega (arith, length-reverse (x ∷ back), ap length n))

    at-bottom : {s : S} {l : Ledger} → Kept arrived s l → (outcome_of layout s undo).verdict ≡ numbered 13 0 → P s l
    at-bottom {s} k e =
        subst (P s) (sym k.ledger) (bottom-here k.frame k.back k.undone k.lies k.good e)

  module _ {arrived : List ℕ} {s : S} {l : Ledger} (k : Kept arrived s l) where
    brings-back :
        (n : ℕ) → (outcome_of layout (undone-by layout n s) undo).verdict ≡ numbered 13 0 →
        layout.text_in (undone-by layout n s) ≡ l.reading
    brings-back n e =
        at-bottom (λ s l. layout.text_in s ≡ l.reading) (λ o s undone lies _. lays.shows lies)
        (kept-calls k (replicate n undo)) e
        ∙ reading-heard l s (replicate n undo)

    gives_back :
        (n : ℕ) → (outcome_of layout (undone-by layout n s) undo).verdict ≡ numbered 13 0 → (out : List ℕ) →
        length arrived ≤ length out →
        outcome_of layout (undone-by layout n s) (save arrived out)
        ≡ saved_bytes (layout.marked (undone-by layout n s) (Some 0)) out arrived
    gives_back n =
        at-bottom
        (λ s _.
        (out : List ℕ) → length arrived ≤ length out →
        outcome_of layout s (save arrived out) ≡ saved_bytes (layout.marked s (Some 0)) out arrived)
        saves-arrived (kept-calls k (replicate n undo))

  module _ {arrived : List ℕ} {s : S} (o : Frame arrived) (back undone : List Step) where
    promised-here :
        LiesAt o s back undone → Good o weigh (reverse_aux back undone) →
        Promised layout arrived s (ledger_of o back undone)
    promised-here lies good =
        let k : Kept arrived s (ledger_of o back undone) = kept lies (same weigh o back undone good) in
        let u = undo-answers o back undone lies good in
        let r = redo-answers o back undone lies good in
        record {
          agrees =
              record {
                editor = editor_of o back undone;
                sound = lays.sees lies;
                kind = refl;
                standing = standing-steps weigh o back undone good;
                undone = undone-steps weigh o back undone good;
                saved = refl;
              };
          text = lays.shows lies ∙ sym (text-standing o.reading back);
          undo-none = u.0;
          undo-some = u.1;
          redo-none = r.0;
          redo-some = r.1;
          saves = saves-here o back undone lies good;
          asks = asks-here o back undone lies good;
          bottom = rw (length-reverse back) (undo-all o back undone lies good);
          back = brings-back k;
          given_back = gives_back k;
        }

  pub promised : {arrived : List ℕ} {s : S} {l : Ledger} → Kept arrived s l → Promised layout arrived s l
  promised {arrived} {s} k =
      subst (Promised layout arrived s) (sym k.ledger)
      (promised-here k.frame k.back k.undone k.lies k.good)
