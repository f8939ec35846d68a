-- What open gives, by what reading the arrived bytes into the text gave. Assumes nothing.
use Prim.Native.Nat.{ℕ, ◌≤◌, ◌<◌}
use mathlib.Core.Path.{◌≡◌, refl, sym, ◌∙◌, subst}
use mathlib.Core.Bool.{Bool, true, false, cond}
use mathlib.Core.List.{List, []}
use native.Mathlib.Omega.{arith}
use lib.ListN.{length, take, drop, replicate, length-append, length-drop}
use lib.Seq.{take-append_seam}
use lib.Dec.{ltb}
use borrow.Author.Tests.{ltb-false}
use Rattle.std.specs.declared.result.Result.TheVariants.{Ok, Err}
use Rattle.answer.specs.declared.Refused.{Refused}
use Rattle.answer.specs.Answer.{Verdict, numbered, in_numbers, too_long, Answer}
use Rattle.std.specs.Prelude.{Some}
use Rattle.answer.specs.Output as output
use Rattle.answer.proofs.Once.{number-pos}
use Rattle.reading.specs.Reading.{Ending, accepted, fault, on_ending}
use Rattle.reading.proofs.Laws.{SoundEnd}
use Rattle.codec.specs.declared.Kind.{Kind}
use Rattle.codec.specs.declared.Format.{Format}
use Rattle.codec.specs.Kinds.{format_of, reading_in, read_in}
use Rattle.codec.proofs.ByKind.{read-form, fault-numbered}
use Rattle.ledger.specs.Words.{pad}
use Rattle.ledger.specs.Page.{state_of, Outcome}
use Rattle.ledger.specs.Calls.{refusing, over, no_page, opened_on, open_read, open_of}
use Rattle.page.specs.Outcomes.{fresh_page}

module _ (kind : Kind) (arrived text history : List ℕ) where
  abbrev refusal : Verdict → Outcome
  refusal v = refusing (state_of (no_page kind) text history) [] v

  -- an accepted open: so many cells were read, and the text is now this
  abbrev pub opening : ℕ → List ℕ → Outcome
  opening count x =
      record {
        verdict = numbered 0 count;
        state = state_of (fresh_page kind count (Some 0)) (pad (length x) (take count x)) (replicate (length history) 0);
        output = [];
      }

  -- what reading gave, and what open gives
  abbrev Opens : output.Outcome → Outcome → Type 0
  Opens o r = (o.verdict.number ≡ 0 → r ≡ opening o.verdict.place o.out) × (0 < o.verdict.number → (o.out ≡ text) × (r ≡ refusal o.verdict))

  opens-filled : (cells : List ℕ) (t : Bool) → ltb (length text) (length cells) ≡ t →
      Opens
      (cond t (output.refusing (numbered 9 (length cells)) text) (record { verdict = numbered 0 (length cells); out = output.filled cells text }))
      (cond t (refusal (numbered 9 (length cells))) (opened_on kind cells text history))
  opens-filled cells true e = ((λ z. absurd (omega arith)), (λ _. (refl, refl)))
  opens-filled cells false e =
      let fits : length cells ≤ length text = ltb-false (length text) (length cells) e in
      let same : length (output.filled cells text) ≡ length text = simp (length-append, length-drop) (omega arith) in
      ((λ _. rw (same, take-append_seam cells (drop (length cells) text))), (λ z. absurd (omega arith)))

  opens : (e : Ending) (cells : List ℕ) → SoundEnd e → Opens (on_ending e cells text) (open_read kind text history e cells)
  unfolding open_read output.deliver
  opens accepted cells n = opens-filled cells (ltb (length text) (length cells)) refl
  opens (fault k place) cells n = ((λ (z : k ≡ 0). absurd (omega arith)), (λ _. (refl, refl)))

  pub long-arrived : over arrived ≡ true → open_of kind arrived text history ≡ refusal too_long
  unfolding open_of
  long-arrived a = rw a

  module _ (a : over arrived ≡ false) where
    pub long-text : over text ≡ true → open_of kind arrived text history ≡ refusal too_long
    unfolding open_of
    long-text t = rw (a, t)

    module _ (t : over text ≡ false) where
      pub long-history : over history ≡ true → open_of kind arrived text history ≡ refusal too_long
      unfolding open_of
      long-history h = rw (a, t, h)

      -- the codec's answer, and the text after it
      module _ (h : over history ≡ false) (f : Format) (g : f ≡ format_of kind) (r : Answer) (x : List ℕ) (e : output.leaves r x ≡ read_in f arrived text) where
        read-opens : Opens (output.leaves r x) (open_of kind arrived text history)
        unfolding open_of
        read-opens =
            rw (a, t, h)
            (subst (λ (o : output.Outcome). Opens o (open_read kind text history (reading_in kind arrived).ending (reading_in kind arrived).cells))
            (sym (e ∙ rw (read-form, g, a)))
            (opens (reading_in kind arrived).ending (reading_in kind arrived).cells (fault-numbered kind arrived)))

        pub open-accepted : (count : ℕ) → r ≡ Ok count → open_of kind arrived text history ≡ opening count x
        open-accepted count z =
            subst (λ (b : Answer). (in_numbers b).number ≡ 0 → open_of kind arrived text history ≡ opening (in_numbers b).place x) z read-opens.0 refl

        pub open-refused : (deny : Refused) → r ≡ Err deny → (x ≡ text) × (open_of kind arrived text history ≡ refusal (in_numbers r))
        open-refused deny z = read-opens.1 (rw z (number-pos deny.0))
