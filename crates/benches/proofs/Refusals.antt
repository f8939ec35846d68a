-- The order of the refusals where it is order 13's own, of every call on every state; and a refusal changes nothing.
-- Assumes nothing.
use Prim.Native.Nat.{ℕ, suc}
use mathlib.Core.Path.{◌≡◌, refl}
use mathlib.Core.Bool.{true, false, ◌||◌}
use mathlib.Core.List.{List, []}
use Rattle.std.specs.Prelude.{Option, None, Some}
use Rattle.answer.specs.Answer.{numbered, too_long}
use Rattle.answer.proofs.Below.{cond-case}
use Rattle.codec.specs.declared.Kind.{Kind}
use Rattle.editor.specs.Editor.{over, overlong, output_of}
use Rattle.editor.specs.Layout.{taken, refusing}
use Rattle.editor.specs.Layout as layout
use Rattle.editor.specs.Demand.{Unchanged}
use Rattle.editor.proofs.Ends as editor
use Rattle.ledger.specs.Calls as pages
use Rattle.benches.specs.Words.{Side, side_of, Both}
use Rattle.benches.specs.Benches.{State, Outcome}
use Rattle.benches.specs.Layout.{bench}
use Rattle.benches.specs.Calls.{Call, call_of, outcome_at, outcome_of, reply_at, unchanged_of, not_opened, open_of}
use Rattle.benches.specs.Demand.{RefusedSame}

module _ (t : State) where
  refused-at :
      (c : Call) (s : Option Side) → taken (outcome_at t s (call_of c)) ≡ false →
      Unchanged t (output_of (call_of c)) (outcome_at t s (call_of c))
  unfolding outcome_at
  refused-at c None =
      cond-case (λ (r : Outcome). taken r ≡ false → Unchanged t (output_of (call_of c)) r) (overlong (call_of c) || _)
      (λ _ _. record { state = refl; output = refl }) (λ _ _. record { state = refl; output = refl })
  refused-at c (Some s) = editor.refused-same (bench s) t (call_of c)

  -- 16 is the first: the call's own list, both texts, and the history
  module _ (c : Call) where
    long-at :
        (s : Option Side) →
        (overlong (call_of c) || (over t.texts.bench0 || (over t.texts.bench1 || over t.history))) ≡ true →
        outcome_at t s (call_of c) ≡ refusing t (output_of (call_of c)) too_long
    unfolding outcome_at layout.outcome_of
    long-at None long = rw long
    long-at (Some s) long = rw long

    pub long-first :
        (n : ℕ) →
        (overlong (call_of c) || (over t.texts.bench0 || (over t.texts.bench1 || over t.history))) ≡ true →
        outcome_of t n c ≡ refusing t (output_of (call_of c)) too_long
    long-first n long = long-at (side_of n) long

    -- then 20: sound or not, and whatever the call
    pub nobody :
        (n : ℕ) →
        (overlong (call_of c) || (over t.texts.bench0 || (over t.texts.bench1 || over t.history))) ≡ false →
        outcome_of t (suc (suc n)) c ≡ refusing t (output_of (call_of c)) (numbered 20 0)
    unfolding outcome_at
    nobody n short = rw short

  -- the question, too
  asked-long-at :
      (s : Option Side) → (over t.texts.bench0 || (over t.texts.bench1 || over t.history)) ≡ true →
      reply_at t s ≡ record { verdict = too_long; unchanged = false }
  unfolding reply_at layout.reply_of
  asked-long-at None long = rw long
  asked-long-at (Some s) long = rw long

  pub asked-long :
      (n : ℕ) → (over t.texts.bench0 || (over t.texts.bench1 || over t.history)) ≡ true →
      unchanged_of t n ≡ record { verdict = too_long; unchanged = false }
  asked-long n long = asked-long-at (side_of n) long

  pub asked-nobody :
      (n : ℕ) → (over t.texts.bench0 || (over t.texts.bench1 || over t.history)) ≡ false →
      unchanged_of t (suc (suc n)) ≡ record { verdict = numbered 20 0; unchanged = false }
  unfolding reply_at
  asked-nobody n short = rw short

pub refused-same : RefusedSame
refused-same t n c = refused-at t c (side_of n)

-- open "refuses as two opens would, bench 0's first": all of bench 0's refusals before any of bench 1's
module _ (kinds : Both Kind) (arrived texts : Both (List ℕ)) (history : List ℕ) where
  pub first-refused :
      taken (pages.open_of kinds.bench0 arrived.bench0 texts.bench0 history) ≡ false →
      open_of kinds arrived texts history
      ≡ refusing (not_opened kinds texts history) []
      (pages.open_of kinds.bench0 arrived.bench0 texts.bench0 history).verdict
  unfolding open_of
  first-refused q = rw q

  pub second-refused :
      taken (pages.open_of kinds.bench0 arrived.bench0 texts.bench0 history) ≡ true →
      taken (pages.open_of kinds.bench1 arrived.bench1 texts.bench1 history) ≡ false →
      open_of kinds arrived texts history
      ≡ refusing (not_opened kinds texts history) []
      (pages.open_of kinds.bench1 arrived.bench1 texts.bench1 history).verdict
  unfolding open_of
  second-refused p q = rw (p, q)
