-- What is found of both benches is order 13's judgement. Assumes nothing.
use Prim.Native.Nat.{ℕ, zero, suc, ◌≤◌, ◌<◌}
use mathlib.Core.Path.{◌≡◌, refl, sym, ap, ◌∙◌, subst}
use mathlib.Core.Bool.{Bool, true, false, cond, ◌&&◌}
use mathlib.Core.List.{List}
use Rattle.std.specs.Prelude.{Option, None, Some}
use native.Mathlib.Omega.{arith}
use lib.ListN.{length, take, drop}
use lib.Seq.{length-take-le}
use borrow.Author.Tests.{le-leb, lt-leb}
use Rattle.answer.specs.Answer.{limit}
use Rattle.answer.specs.declared.Refusal.TheVariants.{OverLimit, NoSuchBench}
use Rattle.editor.specs.Editor.{over}
use Rattle.ledger.specs.Words.{zeros}
use Rattle.benches.specs.declared.Bench.{Bench}
use Rattle.benches.specs.Words.{Side, first, second, side_of, at, Record, records_in, own}
use Rattle.benches.specs.Benches.{State, bench_sound, sound_at, judged, records}
use Rattle.bench_records.specs.declared.Pass.{Pass}
use Rattle.bench_records.specs.Passing.{Passed, passed, begun, leads, pass_sound}
use Rattle.bench_records.specs.Turning.{side_at}
use Rattle.bench_records.specs.Judging.{text_fits, fitted_by, fitted_of, pass_at, judged_at, unfit, sound_by, named_by, judge_of}
use Rattle.bench_records.proofs.Passes.{pass-sound}

-- a bench that is not sound, or that is and where its pass stands
pub data Fitted (sound : Bool) (pass : Passed) : Passed → Type 0 where
  off : sound ≡ false → Fitted sound pass None
  fit : (p : Pass) → sound ≡ true → pass ≡ Some p → Fitted sound pass (Some p)

and-false : (a : Bool) → (a && false) ≡ false
and-false true = refl
and-false false = refl

module _ (b : Bench) where
  fitted-case : (t : Bool) (pass : Passed) → Fitted (t && leads b pass) pass (cond t (fitted_by b pass) None)
  unfolding leads
  fitted-case false pass = off refl
  fitted-case true None = off refl
  fitted-case true (Some p) = by _ refl
    where
      by : (t : Bool) → leads b (Some p) ≡ t → Fitted (leads b (Some p)) (Some p) (cond t (Some p) None)
      by true e = fit p e refl
      by false e = off e

  module _ (text : List ℕ) (used mine : ℕ) (words : List ℕ) (all : length words ≡ used) where
    pub fitted_none : records_in used words ≡ None → fitted_of b text used mine words ≡ None
    unfolding fitted_of
    fitted_none e = rw (all, e) (broken (text_fits b text))
      where
        broken : (t : Bool) → ◌≡◌ {A = Passed} (cond t None None) None
        broken true = refl
        broken false = refl

    pub fitted-some :
        (rs : List Record) → records_in used words ≡ Some rs →
        Fitted (bench_sound b text (own (side_at mine) rs))
        (passed (length text) b.standing (side_at mine) 0 (begun b.opening used) rs)
        (fitted_of b text used mine words)
    unfolding fitted_of pass_sound
    fitted-some rs e =
        rw (pass-sound b used (side_at mine) rs text, all, e)
        (fitted-case (text_fits b text)
        (passed (length text) b.standing (side_at mine) 0 (begun b.opening used) rs))

module _ {sound : Bool} {pass r : Passed} (f : Fitted sound pass r) where
  unfit-is : r ≡ None → sound ≡ false
  unfit-is = told f
    where
      told : {r : Passed} → Fitted sound pass r → r ≡ None → sound ≡ false
      told (off q) e = q
      told (fit p q u) e = let z : ◌≡◌ {A = ℕ} 0 1 = cc in absurd (omega arith)

  fit_is : (p : Pass) → r ≡ Some p → (sound ≡ true) × (pass ≡ Some p)
  fit_is p = told f
    where
      told : {r : Passed} → Fitted sound pass r → r ≡ Some p → (sound ≡ true) × (pass ≡ Some p)
      told (off q) e = let z : ◌≡◌ {A = ℕ} 0 1 = cc in absurd (omega arith)
      told (fit p q u) e = (q, u ∙ e)

-- both benches, by the tests in order
module _ (t : State) (mine : ℕ) where
  abbrev is : Passed
  is = judged_at t mine (records t)

  pub used-beyond : length t.history < t.used → is ≡ None
  unfolding records
  used-beyond q = rw (lt-leb t.used (length t.history) q)

  module _ (uses : t.used ≤ length t.history) where
    pub not-blank : zeros (drop t.used t.history) ≡ false → is ≡ None
    unfolding records
    not-blank q = rw (le-leb t.used (length t.history) uses, q)

    module _ (blank : zeros (drop t.used t.history) ≡ true) where
      abbrev words : List ℕ
      words = take t.used t.history

      abbrev fitted : Side → ℕ → Passed
      fitted s n = fitted_of (at t.benches s) (at t.texts s) t.used n words

      judged-is : is ≡ judged_at t mine (judged t (records_in t.used words))
      unfolding records
      judged-is = rw (le-leb t.used (length t.history) uses, blank)

      all : length words ≡ t.used
      all = length-take-le t.used t.history uses

      first-is : (rs : List Record) → records_in t.used words ≡ Some rs →
          Fitted (sound_at t rs first) (pass_at t rs first) (fitted first 0)
      first-is rs e = fitted-some t.benches.bench0 t.texts.bench0 t.used 0 words all rs e

      second_is : (rs : List Record) → records_in t.used words ≡ Some rs →
          Fitted (sound_at t rs second) (pass_at t rs second) (fitted second 1)
      second_is rs e = fitted-some t.benches.bench1 t.texts.bench1 t.used 1 words all rs e

      pub first_off : fitted first 0 ≡ None → is ≡ None
      unfolding judged
      first_off q = judged-is ∙ by (records_in t.used words) refl
        where
          by : (x : Option (List Record)) → records_in t.used words ≡ x → judged_at t mine (judged t x) ≡ None
          by None e = refl
          by (Some rs) e = rw (unfit-is (first-is rs e) q)

      pub second-off : fitted second 1 ≡ None → is ≡ None
      unfolding judged
      second-off q = judged-is ∙ by (records_in t.used words) refl
        where
          by : (x : Option (List Record)) → records_in t.used words ≡ x → judged_at t mine (judged t x) ≡ None
          by None e = refl
          by (Some rs) e = rw (unfit-is (second_is rs e) q, and-false (sound_at t rs first))

      module _ (p q : Pass) (f : fitted first 0 ≡ Some p) (g : fitted second 1 ≡ Some q) where
        both-fit : (s : Side) (r : Pass) → side_at mine ≡ s →
            ((rs : List Record) → records_in t.used words ≡ Some rs → pass_at t rs s ≡ Some r) → is ≡ Some r
        unfolding judged
        both-fit s r n h = judged-is ∙ by (records_in t.used words) refl
          where
            by : (x : Option (List Record)) → records_in t.used words ≡ x →
                judged_at t mine (judged t x) ≡ Some r
            by None e =
                let o : fitted first 0 ≡ None =
                fitted_none t.benches.bench0 t.texts.bench0 t.used 0 words all e in
                let z : ◌≡◌ {A = ℕ} 0 1 = cc in
                absurd (omega arith)
            by (Some rs) e =
                rw ((fit_is (first-is rs e) p f).0, (fit_is (second_is rs e) q g).0)
                (subst (λ (s : Side). pass_at t rs s ≡ Some r) (sym n) (h rs e))

        pub fits-first : mine ≡ 0 → is ≡ Some p
        fits-first n = both-fit first p (ap side_at n) (λ rs e. (fit_is (first-is rs e) p f).1)

        pub fits-second : mine ≤ 1 → (mine ≡ 0 → ⊥) → is ≡ Some q
        fits-second m n = both-fit second q (one mine m n) (λ rs e. (fit_is (second_is rs e) q g).1)
          where
            one : (k : ℕ) → k ≤ 1 → (k ≡ 0 → ⊥) → side_at k ≡ second
            one zero m n = absurd (n refl)
            one (suc k) m n = refl

-- 16, then 20, then 14
module _ (t : State) (n : ℕ) where
  pub long_first : over t.texts.bench0 ≡ true → unfit OverLimit limit ≡ judge_of t n
  unfolding judge_of
  long_first q = rw q

  pub long_second : over t.texts.bench0 ≡ false → over t.texts.bench1 ≡ true → unfit OverLimit limit ≡ judge_of t n
  unfolding judge_of
  long_second q r = rw (q, r)

  pub long_history :
      over t.texts.bench0 ≡ false → over t.texts.bench1 ≡ false → over t.history ≡ true →
      unfit OverLimit limit ≡ judge_of t n
  unfolding judge_of
  long_history q r h = rw (q, r, h)

  module _
      (q : over t.texts.bench0 ≡ false)
      (r : over t.texts.bench1 ≡ false)
      (h : over t.history ≡ false) where
    pub nobody : 1 < n → unfit NoSuchBench 0 ≡ judge_of t n
    unfolding judge_of
    nobody m = rw (q, r, h) (by n m)
      where
        by : (k : ℕ) → 1 < k → unfit NoSuchBench 0 ≡ named_by t (side_of k)
        by zero m = absurd (omega arith)
        by (suc zero) m = absurd (omega arith)
        by (suc (suc k)) m = refl

    pub named : n ≤ 1 → sound_by (judged_at t n (records t)) ≡ judge_of t n
    unfolding judge_of
    named m = rw (q, r, h) (by n m)
      where
        by : (k : ℕ) → k ≤ 1 → sound_by (judged_at t k (records t)) ≡ named_by t (side_of k)
        by zero m = refl
        by (suc zero) m = refl
        by (suc (suc k)) m = absurd (omega arith)
