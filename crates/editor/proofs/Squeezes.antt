-- A squeeze turns the editor that a ledger determines into the one that the ledger then determines. Assumes nothing.
use Prim.Native.Nat.{ℕ, ◌-◌, ◌≤◌}
use mathlib.Core.Path.{◌≡◌, refl, sym, ap, ◌∙◌, subst, subst₂}
use mathlib.Core.List.{List, [], ◌∷◌, ◌++◌, map, reverse_aux, reverse, reverse_aux-eq, reverse_aux-append, append-nil}
use native.Mathlib.Nat.{zero-add}
use native.Mathlib.Omega.{arith}
use lib.ListN.{length, take, drop, length-append, length-drop, length-reverse, take-append-drop}
use lib.Seq.{take_at, drop_at, take-length, drop-length}
use Rattle.editor.specs.Marks.{Mark, folded_mark}
use Rattle.editor.specs.Ledger.{Step, squeeze, accepted_call, weight_of}
use Rattle.editor.specs.Records.{Entry, step_of, text_before}
use Rattle.editor.specs.Editor.{Editor, Space, oldest, later, folded_to, folding}
use Rattle.editor.proofs.Steps.{stepped, record_of, records_of, records_back, text_back, Fits, fits-first, fits-rest}
use Rattle.editor.proofs.Steps.{text-standing, text-later, records-later, length-records, steps_back}
use Rattle.editor.proofs.Turned.{text-before}
use Rattle.editor.proofs.Marks.{weight-reverse, folded_fits}
use Rattle.editor.proofs.Held.{Frame, remarked, text_at, editor_of, ledger_of, Good, Held}

module _ (weigh : Step → ℕ) {arrived : List ℕ} (o : Frame arrived) (new old undone : List Step) where
  -- the text after the oldest steps, the steps that follow them, and the one step for them with its record
  abbrev between : List ℕ
  between = text_at o old

  abbrev rest : List Step
  rest = reverse_aux new undone

  abbrev one : Step
  one = record { place = 0; count = length o.reading; added = between }

  abbrev entry : Entry
  entry = record { place = 0; removed = o.reading; added = between }

  abbrev all : List Entry
  all = records_back o.reading (new ++ old)

  stepped-one : stepped one o.reading ≡ between
  stepped-one = rw (zero-add, drop-length, append-nil)

  record-one : record_of o.reading one ≡ entry
  record-one = rw take-length

  text-new : text_at o (new ++ old) ≡ text_at o (new ++ one ∷ [])
  text-new =
      text-later o.reading new old
      ∙ ap (λ (t : List ℕ). text_back t new) (sym stepped-one)
      ∙ sym (text-later o.reading new (one ∷ []))

  records-new : records_back between new ++ entry ∷ [] ≡ records_back o.reading (new ++ one ∷ [])
  records-new =
      sym
      (records-later o.reading new (one ∷ []) ∙ (λ i. records_back (stepped-one i) new ++ record-one i ∷ []))

  -- which records are the oldest, and which are later
  latest : length (records_back between new) ≡ length all - length old
  latest =
      omega (
        arith,
        length-records between new,
        length-records o.reading (new ++ old),
        length-append new old,
      )

  oldest-is : oldest (length old) all ≡ records_back o.reading old
  oldest-is =
      rw (← latest, records-later o.reading new old)
      (drop_at (records_back between new) (records_back o.reading old) _ refl)

  later-is : later (length old) all ≡ records_back between new
  later-is =
      rw (← latest, records-later o.reading new old)
      (take_at (records_back between new) (records_back o.reading old) _ refl)

  module _ (good : Good o weigh (reverse_aux (new ++ old) undone)) where
    fits-in-order : Fits o.room o.reading (reverse_aux old rest)
    fits-in-order = rw (reverse_aux-append new old undone) at good.fits

    fits-between : Fits o.room between rest
    fits-between = fits-rest o.room o.reading old rest fits-in-order

    folded-is : folded_to (editor_of o (new ++ old) undone) (length old) ≡ entry
    folded-is =
        let removed : text_before all (text_at o (new ++ old)) ≡ o.reading =
        text-before o.room o.reading (new ++ old) undone good.fits in
        let added : text_before (later (length old) all) (text_at o (new ++ old)) ≡ between =
        rw (later-is, text-later o.reading new old) (text-before o.room between new undone fits-between) in
        λ i. record { place = 0; removed = removed i; added = added i }

    -- the mark, by what the folded steps count for
    abbrev mark : Mark
    mark = folded_mark (weight_of weigh (reverse old)) (weigh one) o.mark

    folded-weight : weight_of weigh (map step_of (records_back o.reading old)) ≡ weight_of weigh (reverse old)
    folded-weight =
        ap (weight_of weigh) (steps_back o.room o.reading old rest fits-in-order)
        ∙ omega (arith, weight-reverse weigh old [])

    good_new : Good (remarked o mark) weigh (reverse_aux (new ++ one ∷ []) undone)
    good_new =
        let weight : weight_of weigh (reverse old) ≡ weight_of weigh old = omega (arith, weight-reverse weigh old []) in
        record {
          fits =
              rw (reverse_aux-append new (one ∷ []) undone) (
                fits-first o.room o.reading (reverse_aux old rest) fits-in-order,
                omega arith,
                subst (λ (t : List ℕ). Fits o.room t rest) (sym stepped-one) fits-between,
              );
          few = good.few;
          reads = good.reads;
          marked =
              rw (reverse_aux-append new (one ∷ []) undone, weight)
              (folded_fits weigh old rest one o.mark (rw (reverse_aux-append new old undone) at good.marked));
        }

    ledger-new :
        (work : List ℕ) →
        accepted_call weigh (ledger_of o (new ++ old) undone) (squeeze (length old) work)
        ≡ ledger_of (remarked o mark) (new ++ one ∷ []) undone
    unfolding accepted_call
    ledger-new work =
        let order : reverse (new ++ old) ≡ reverse old ++ reverse new =
        reverse_aux-append new old [] ∙ reverse_aux-eq old (reverse new) in
        let first : take (length old) (reverse (new ++ old)) ≡ reverse old =
        rw order (take_at (reverse old) (reverse new) (length old) (length-reverse old)) in
        let others : drop (length old) (reverse (new ++ old)) ≡ reverse new =
        rw order (drop_at (reverse old) (reverse new) (length old) (length-reverse old)) in
        let standing : one ∷ reverse new ≡ reverse (new ++ one ∷ []) = sym (reverse_aux-append new (one ∷ []) []) in
        rw (first, others, text-standing o.reading old, ← standing)

    module _ (space : Space) (work : List ℕ) where
      abbrev Turns : List Entry → List Entry → Entry → Type 0
      Turns new' old' x =
          Held weigh arrived (folding weigh space (editor_of o (new ++ old) undone) work new' old' x).editor
          (accepted_call weigh (ledger_of o (new ++ old) undone) (squeeze (length old) work))

      turns : Turns (records_back between new) (records_back o.reading old) entry
      turns =
          record {
            frame = remarked o mark;
            back = new ++ one ∷ [];
            undone = undone;
            editor =
                λ i. record {
                  kind = o.kind;
                  room = o.room;
                  text = text-new i;
                  standing = records-new i;
                  undone = records_of (text-new i) undone;
                  saved = folded_mark (folded-weight i) (weigh one) o.mark;
                };
            ledger = ledger-new work;
            good = good_new;
          }

      turns-found :
          Turns (later (length old) all) (oldest (length old) all)
          (folded_to (editor_of o (new ++ old) undone) (length old))
      turns-found =
          subst (λ (x : Entry). Turns (later (length old) all) (oldest (length old) all) x) (sym folded-is)
          (subst₂ (λ (a b : List Entry). Turns a b entry) (sym later-is) (sym oldest-is) turns)

module _
    (weigh : Step → ℕ)
    {arrived : List ℕ}
    (o : Frame arrived)
    (undone : List Step)
    (space : Space)
    (work : List ℕ) where
  abbrev Folds : List Step → ℕ → Type 0
  Folds back k =
      let e : Editor = editor_of o back undone in
      Good o weigh (reverse_aux back undone) →
      Held weigh arrived
      (folding weigh space e work (later k e.standing) (oldest k e.standing) (folded_to e k)).editor
      (accepted_call weigh (ledger_of o back undone) (squeeze k work))

  pub folds-oldest : (back : List Step) (k : ℕ) → k ≤ length back → Folds back k
  folds-oldest back k h =
      let n : ℕ = length back - k in
      subst₂ Folds (take-append-drop n back) (simp length-drop (omega arith))
      (λ good. turns-found weigh o (take n back) (drop n back) undone good space work)
