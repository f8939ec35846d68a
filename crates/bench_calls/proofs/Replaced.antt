-- What replace of a bench gives on sound benches, and otherwise. Assumes nothing.
use Prim.Native.Nat.{ℕ, suc, ◌+◌, ◌-◌, ◌≤◌}
use mathlib.Core.Path.{◌≡◌, refl, sym, ap, ◌∙◌}
use mathlib.Core.Bool.{Bool, true, false, cond}
use mathlib.Core.List.{List, [], ◌∷◌, ◌++◌, reverse, append-nil}
use Rattle.std.specs.Prelude.{Option, None, Some, Ok}
use native.Mathlib.Omega.{arith}
use lib.ListN.{length, take, drop, length-append, length-reverse}
use lib.Seq.{length-take-le}
use lib.Dec.{ltb}
use Rattle.answer.specs.Answer.{limit, numbered, too_long}
use Rattle.codec.specs.Kinds.{first_unwritable}
use Rattle.editor.specs.Ledger.{replace}
use Rattle.editor.specs.Marks.{replaced_mark}
use Rattle.editor.specs.Records.{Entry, applied, entry_at}
use Rattle.editor.specs.Editor as editor
use Rattle.editor.specs.Layout.{refusing, laid, call_on}
use Rattle.editor.specs.Layout as layout
use Rattle.ledger.specs.Words as page
use Rattle.benches.specs.declared.Bench.{Bench}
use Rattle.benches.specs.Words.{Side, first, second, number_of, side_of, at, Record, words, size_of, sizes, own, kept}
use Rattle.benches.specs.Benches.{State, Outcome}
use Rattle.benches.specs.Layout.{editor_of, editor_for, these, lying_in, space_in, records_after, bench}
use Rattle.benches.specs.Calls.{outcome_at, replace_of}
use Rattle.benches.proofs.Words.{words_append}
use Rattle.bench_records.specs.declared.Pass.{Pass}
use Rattle.bench_records.specs.Judging.{judge_of}
use Rattle.bench_records.proofs.Found.{Fit, fit-first, second-named, fit-second}
use Rattle.bench_records.proofs.Ended.{fitting, pass-spare}
use Rattle.bench_calls.specs.Leaving.{placed, edited_to}
use Rattle.bench_calls.specs.Gap.{closed}
use Rattle.bench_calls.specs.Replaces.{Shared, need_on, fitting_on, replaced_on}
use Rattle.bench_calls.proofs.Turns.{same-placed}
use Rattle.bench_calls.proofs.Sharing.{closed_is, shared}

-- two tests that go the same way
both_ways :
    {A B C : Type 0} (f : A → C) (g : B → C) (t : Bool) {a c : A} {b d : B} → f a ≡ g b → f c ≡ g d →
    f (cond t a c) ≡ g (cond t b d)
both_ways f g true p q = p
both_ways f g false p q = q

module _ {t : State} {s : Side} {p : Pass} (f : Fit t s p) (place count : ℕ) (cells : List ℕ) where
  abbrev b : Bench
  b = at t.benches s

  abbrev text : List ℕ
  text = at t.texts s

  abbrev es : List Entry
  es = own s f.rs

  abbrev e : editor.Editor
  e = editor_of b text es

  abbrev x : Entry
  x = entry_at (take b.length text) place count cells

  abbrev new : List ℕ
  new = applied x (take b.length text)

  replace-is :
      editor.over cells ≡ false →
      outcome_at t (Some s) (replace place count cells)
      ≡ laid (bench s) t (editor.replace_at (space_in t s) e place count cells)
  unfolding outcome_at layout.outcome_of call_on
  replace-is few =
      rw (few, f.short)
      (ap (λ (x : Option (List Record)). call_on (bench s) t (replace place count cells) (editor_for t s x)) f.found)

  lying : lying_in t ≡ f.rs
  lying = ap these f.found

  need-same : (space_in t s).needed x ≡ need_on t.used p x
  need-same =
      ap (λ (rs : List Record). t.used - sizes (drop b.standing (own s rs)) + size_of x) lying
      ∙ ap (λ (n : ℕ). t.used - n + size_of x) (sym (pass-spare f))

  after_is :
      words (records_after t s x)
      ≡ closed (number_of s) p.next t.used t.history ++ number_of s ∷ page.words_of x
  after_is =
      ap (λ (rs : List Record). words (kept s b.standing rs ++ record { bench = s; entry = x } ∷ [])) lying
      ∙ words_append (kept s b.standing f.rs) (record { bench = s; entry = x } ∷ [])
      ∙ (λ i. sym (closed_is f) i ++ append-nil (number_of s ∷ page.words_of x) i)

  module _ (small : length text ≤ limit) where
    used-is : length (words (records_after t s x)) ≡ need_on t.used p x
    used-is =
        let c : List ℕ = closed (number_of s) p.next t.used t.history in
        let n = length-append c (number_of s ∷ page.words_of x) in
        let m = length-append x.removed x.added in
        omega (arith, ap length after_is, (shared f small).closes)

    stands : suc (length (reverse (take b.standing es))) ≡ b.standing + 1
    stands = omega (arith, length-reverse (take b.standing es), length-take-le b.standing es (fitting f).few)

    -- an accepted replace, by the words, how many they are, and how many steps stand
    abbrev leaving : List ℕ → ℕ → ℕ → Outcome
    leaving ws used standing =
        placed t s
        (edited_to b (length text) new used standing (replaced_mark b.standing b.saved)
        (page.pad (length t.history) ws))

    accepted-laid :
        laid (bench s) t
        (editor.edited e new (x ∷ e.standing) [] (replaced_mark b.standing b.saved) (editor.records x))
        ≡ leaving (closed (number_of s) p.next t.used t.history ++ number_of s ∷ page.words_of x)
        (need_on t.used p x) (b.standing + 1)
    accepted-laid = λ i. leaving (after_is i) (used-is i) (stands i)

    fitting-laid :
        laid (bench s) t (editor.replace_fitting (space_in t s) e x)
        ≡ placed t s (fitting_on b (number_of s) t.used p x text t.history)
    unfolding editor.replace_fitting fitting_on
    fitting-laid =
        both_ways (laid (bench s) t) (placed t s) (ltb (length text) (length new)) (sym (same-placed t s _))
        (ap
        (λ (n : ℕ).
        laid (bench s) t
        (cond (ltb (length t.history) n) (editor.refused e [] (numbered 12 n))
        (editor.edited e new (x ∷ e.standing) [] (replaced_mark b.standing b.saved) (editor.records x))))
        need-same
        ∙ both_ways (laid (bench s) t) (placed t s) (ltb (length t.history) (need_on t.used p x))
        (sym (same-placed t s _)) accepted-laid)

    replaced-laid :
        laid (bench s) t (editor.replace_at (space_in t s) e place count cells)
        ≡ placed t s (replaced_on b (number_of s) t.used p place count cells text t.history)
    unfolding editor.replace_at replaced_on
    replaced-laid =
        both_ways (laid (bench s) t) (placed t s) (ltb (length (take b.length text)) (place + count))
        (sym (same-placed t s _))
        (both_ways (laid (bench s) t) (placed t s) (ltb (first_unwritable b.kind cells) (length cells))
        (sym (same-placed t s _)) fitting-laid)

    replaced-is :
        editor.over cells ≡ false →
        outcome_at t (Some s) (replace place count cells)
        ≡ placed t s (replaced_on b (number_of s) t.used p place count cells text t.history)
    replaced-is few = replace-is few ∙ replaced-laid

-- as the code has it: the caller is bench 0, or else bench 1
module _ (t : State) (n : ℕ) (p : Pass) (d : judge_of t n ≡ Ok p) where
  pub first-shared : n ≡ 0 → Shared t.benches.bench0 0 t.used p t.texts.bench0 t.history
  first-shared q = let f = fit-first t n refl d q in shared f f.short-first

  pub second-shared : (n ≡ 0 → ⊥) → Shared t.benches.bench1 1 t.used p t.texts.bench1 t.history
  second-shared q = let f = fit-second t n refl d q in shared f f.short-second

  module _ (place count : ℕ) (cells : List ℕ) (few : editor.over cells ≡ false) where
    pub first-replaced :
        n ≡ 0 →
        replace_of t n place count cells
        ≡ placed t first
        (replaced_on t.benches.bench0 0 t.used p place count cells t.texts.bench0 t.history)
    first-replaced q =
        let f : Fit t first p = fit-first t n refl d q in
        rw q (replaced-is f place count cells f.short-first few)

    pub second-replaced :
        (n ≡ 0 → ⊥) →
        replace_of t n place count cells
        ≡ placed t second
        (replaced_on t.benches.bench1 1 t.used p place count cells t.texts.bench1 t.history)
    second-replaced q =
        let f : Fit t second p = fit-second t n refl d q in
        rw (second-named t n refl d q) (replaced-is f place count cells f.short-second few)

pub replace-long :
    (t : State) (n place count : ℕ) (cells : List ℕ) → editor.over cells ≡ true →
    replace_of t n place count cells ≡ refusing t [] too_long
unfolding outcome_at layout.outcome_of
replace-long t n place count cells q = by (side_of n)
  where
    by : (x : Option Side) → outcome_at t x (replace place count cells) ≡ refusing t [] too_long
    by None = rw q
    by (Some s) = rw q
