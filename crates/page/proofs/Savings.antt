-- Bytes given as they are, and what save gives. Assumes nothing.
use Prim.Native.Nat.{ℕ, ◌+◌, ◌≤◌, ◌<◌}
use mathlib.Core.Path.{◌≡◌, refl, sym, ap, ◌∙◌}
use mathlib.Core.Bool.{true, false, cond}
use mathlib.Core.List.{List, [], ◌∷◌}
use native.Mathlib.Omega.{arith}
use native.Mathlib.Numerals.{add-one}
use lib.ListN.{length, get_or, drop, set, drop_of_length-le}
use lib.Seq.{drop-cons}
use lib.Dec.{eqb}
use borrow.Author.Tests.{lt-ltb, le-ltb, eq-eqb, ne_eqb}
use Rattle.std.specs.Prelude.{Err}
use Rattle.std.specs.declared.result.Result.TheVariants.{Ok, Err}
use Rattle.answer.specs.Answer.{numbered, number_of, in_numbers, too_long, refused_at, Answer}
use Rattle.answer.specs.declared.Refusal.TheVariants.{NoRoom}
use Rattle.answer.specs.Output as output
use Rattle.answer.proofs.Once.{number-pos}
use Rattle.answer.proofs.Put.{Put, put_as, put_next, put-end, put-done}
use Rattle.codec.specs.Kinds.{reads_as, write_in}
use Rattle.ledger.specs.Words.{Entry, Parted}
use Rattle.ledger.specs.declared.Edited.{Edited}
use Rattle.ledger.specs.Page.{State, Outcome, text_in, keeps}
use Rattle.ledger.specs.Calls.{refusing, over, save_of}
use Rattle.editor.specs.Ledger.{save}
use Rattle.editor.specs.Editor.{saved_as, save_standing}
use Rattle.editor.specs.Layout.{laid, call_on, outcome_of}
use Rattle.ledger.specs.Layout.{editor_of, editor_for, space_in, page}
use Rattle.ledger.proofs.Words.{sizes}
use Rattle.answer.specs.declared.Refused.{Refused}
use Rattle.records.specs.Walking.{judge_of}
use Rattle.records.proofs.Found.{Fit, unfit}
use Rattle.page.specs.Outcomes.{bare, saved_in, saved_page}
use Rattle.page.proofs.Replacings.{by-test}

module _ (bytes out₀ : List ℕ) where
  pub no_room : length out₀ < length bytes → output.leaves (refused_at NoRoom (length bytes)) out₀ ≡ output.deliver bytes out₀
  unfolding output.deliver
  no_room q = rw (lt-ltb (length out₀) (length bytes) q)

  module _ (out : List ℕ) (i : ℕ) (p : Put bytes out₀ out i (drop i bytes)) where
    pub give-turn : i < length bytes → Put bytes out₀ (set out i (get_or bytes i 0)) (i + 1) (drop (i + 1) bytes)
    give-turn q =
        let next : drop i bytes ≡ get_or bytes i 0 ∷ drop (i + 1) bytes = rw add-one (drop-cons bytes i 0 q) in
        put_next (put_as next p)

    pub give-end : length bytes ≤ i → output.leaves (Ok i) out ≡ output.deliver bytes out₀
    unfolding output.deliver
    give-end q =
        let e = put_as (drop_of_length-le bytes q) p in
        rw (put-end e, put-done e, le-ltb (length out₀) (length bytes) p.room)

-- a page beside what became of an output: marked where that was filled
abbrev pub keeping : State → output.Outcome → Outcome
keeping s o = laid page s (saved_as (space_in s) (bare s) o)

-- whatever the records are
any-saved :
    (s : State) (v : Parted) (o : output.Outcome) → laid page s (saved_as (space_in s) (editor_of s v) o) ≡ keeping s o
any-saved s v o = by-test (laid page s) (eqb o.verdict.number 0) refl refl

-- what is given back with an answer
saved-as :
    (s : State) (a : Answer) (out : List ℕ) →
    keeps (record { answer = a; page = saved_page s.page a }) s.text s.history out
    ≡ keeping s (output.leaves a out)
saved-as s (Ok n) out = refl
saved-as s (Err deny) out =
    rw (ne_eqb (number_of deny.0) 0 (λ (z : number_of deny.0 ≡ 0). omega (arith, number-pos deny.0)))

pub saved-given :
    (s : State) (r : Edited) (out : List ℕ) (o : output.Outcome) → r.page ≡ saved_page s.page r.answer →
    output.leaves r.answer out ≡ o →
    keeps r s.text s.history out ≡ keeping s o
saved-given s r out o p q =
    (λ i. keeps (record { answer = r.answer; page = p i }) s.text s.history out)
    ∙ saved-as s r.answer out
    ∙ ap (keeping s) q

module _ (s : State) (arrived out : List ℕ) where
  saved-standing :
      (v : Parted) (standing : List Entry) → sizes standing ≡ s.page.done →
      laid page s (save_standing (space_in s) (editor_of s v) arrived out standing)
      ≡ keeping s (saved_in s.page (text_in s) arrived out)
  unfolding save_standing
  saved-standing v [] e =
      rw (eq-eqb s.page.done 0 (sym e))
      (any-saved s v
      (cond (reads_as s.page.kind arrived (text_in s)) (output.deliver arrived out)
      (output.refusing (numbered 15 0) out)))
  saved-standing v (x ∷ back) e =
      let stands : eqb s.page.done 0 ≡ false = ne_eqb s.page.done 0 (λ (z : s.page.done ≡ 0). omega arith) in
      rw stands (any-saved s v (write_in s.page.kind (text_in s) out))

  pub save-long : over arrived ≡ true → save_of s arrived out ≡ refusing s out too_long
  unfolding outcome_of
  save-long q = rw q

  module _ (few : over arrived ≡ false) where
    pub save-unfit : {j : Answer} {a : Refused} → j ≡ judge_of s → j ≡ Err a → save_of s arrived out ≡ refusing s out (in_numbers (Err a))
    unfolding outcome_of call_on
    save-unfit d e = rw few (unfit s _ (refusing s out) (λ x. call_on page s (save arrived out) (editor_for s x)) refl d e)

    pub save-fit : {last : ℕ} → Fit s last → save_of s arrived out ≡ keeping s (saved_in s.page (text_in s) arrived out)
    unfolding outcome_of call_on
    save-fit f = rw (few, f.short, f.found) (saved-standing f.parted f.parted.standing f.sound.end)
