-- What is known of the caller's bench, and of where its pass stands, when both were found sound. Assumes nothing.
use Prim.Native.Nat.{ℕ, suc, ◌+◌, ◌≤◌, ◌<◌}
use mathlib.Core.Path.{◌≡◌, sym, ◌∙◌}
use mathlib.Core.Bool.{Bool, true, false, cond, ◌&&◌}
use mathlib.Core.List.{List, ◌∷◌, ◌++◌}
use native.Mathlib.Omega.{arith}
use native.Mathlib.Nat.{zero-add}
use lib.ListN.{length, take, drop, take-append-drop}
use lib.Dec.{leb, eqb}
use borrow.Author.Tests.{leb-true, eqb-true}
use Rattle.answer.proofs.Below.{both}
use Rattle.editor.specs.Records.{Entry, lengths_fit, reached}
use Rattle.ledger.specs.Words.{zeros}
use Rattle.ledger.specs.Parts.{mark_within}
use Rattle.ledger.proofs.Words.{At}
use Rattle.benches.specs.declared.Bench.{Bench}
use Rattle.benches.specs.Words.{Side, at, words, sizes, own}
use Rattle.benches.specs.Benches.{State, bench_sound}
use Rattle.bench_records.specs.declared.Pass.{Pass}
use Rattle.std.specs.Prelude.{None, Some}
use Rattle.bench_records.specs.Passing.{begun, begins}
use Rattle.bench_records.proofs.Passes.{end_of, passed_is, ends-seen, ends-spare, ends_last, ends_next, ends-none}
use Rattle.bench_records.proofs.Places.{placed, placed_at}
use Rattle.bench_records.proofs.Found.{Fit}

-- a sound bench, part by part
pub record Fitting (b : Bench) (text : List ℕ) (es : List Entry) : Type 0 where
  pub opens : b.opening ≤ length text
  pub fits : b.length ≤ length text
  pub blank : zeros (drop b.length text) ≡ true
  pub few : b.standing ≤ length es
  pub lengths : lengths_fit (length text) b.opening es ≡ true
  pub reach : reached b.opening (take b.standing es) ≡ b.length

sound-parts : (b : Bench) (text : List ℕ) (es : List Entry) → bench_sound b text es ≡ true → Fitting b text es
unfolding bench_sound
sound-parts b text es e =
    let t₁ : Bool = leb b.opening (length text) in
    let t₂ : Bool = leb b.length (length text) in
    let t₃ : Bool = zeros (drop b.length text) in
    let t₄ : Bool = leb b.standing (length es) in
    let t₅ : Bool = mark_within (length es) b.saved in
    let t₆ : Bool = lengths_fit (length text) b.opening es in
    let t₇ : Bool = eqb (reached b.opening (take b.standing es)) b.length in
    let q₇ = both (t₁ && t₂ && t₃ && t₄ && t₅ && t₆) t₇ e in
    let q₆ = both (t₁ && t₂ && t₃ && t₄ && t₅) t₆ q₇.0 in
    let q₅ = both (t₁ && t₂ && t₃ && t₄) t₅ q₆.0 in
    let q₄ = both (t₁ && t₂ && t₃) t₄ q₅.0 in
    let q₃ = both (t₁ && t₂) t₃ q₄.0 in
    let q₂ = both t₁ t₂ q₃.0 in
    record {
      opens = leb-true b.opening (length text) q₂.0;
      fits = leb-true b.length (length text) q₂.1;
      blank = q₃.1;
      few = leb-true b.standing (length es) q₄.1;
      lengths = q₆.1;
      reach = eqb-true (reached b.opening (take b.standing es)) b.length q₇.1;
    }

module _ {t : State} {s : Side} {p : Pass} (f : Fit t s p) where
  abbrev b : Bench
  b = at t.benches s

  abbrev text : List ℕ
  text = at t.texts s

  abbrev es : List Entry
  es = own s f.rs

  abbrev start : Pass
  start = begun b.opening t.used

  pub fitting : Fitting b text es
  fitting = sound-parts b text es (f.tiled.sound s)

  -- and of the other as well
  pub lengths-fit : (q : Side) → (at t.benches q).length ≤ length (at t.texts q)
  lengths-fit q = (sound-parts (at t.benches q) (at t.texts q) (own q f.rs) (f.tiled.sound q)).fits

  ended : end_of (length text) b.standing s 0 start f.rs ≡ p
  ended =
      through (lengths_fit (length text) b.opening es) fitting.lengths
      (sym (passed_is (length text) b.standing s f.rs 0 start) ∙ f.passes)
    where
      through : (c : Bool) {q : Pass} → c ≡ true → cond c (Some q) None ≡ Some p → q ≡ p
      through true z e = (cc)
      through false z e = let y : ◌≡◌ {A = ℕ} 0 1 = cc in absurd (omega arith)

  pub pass-seen : p.seen ≡ length es
  pass-seen = rw (← ended) (ends-seen (length text) b.standing s f.rs 0 start ∙ zero-add (length es))

  pub pass-spare : p.spare ≡ sizes (drop b.standing es)
  pass-spare =
      rw (← ended)
      (ends-spare (length text) b.standing s f.rs 0 start b.standing (omega arith)
      ∙ zero-add (sizes (drop b.standing es)))

  pass-last : (k : ℕ) → b.standing ≡ suc k → p.last ≡ begins s k f.rs
  pass-last k q =
      rw (← ended)
      (omega (
        arith,
        (ends_last (length text) b.standing s f.rs 0 start).1 k (omega arith) (omega (arith, fitting.few)),
      ))

  pub pass-next : b.standing < length es → p.next ≡ begins s b.standing f.rs
  pass-next q =
      rw (← ended)
      (omega (arith, (ends_next (length text) b.standing s f.rs 0 start).1 b.standing (omega arith) q))

  pub pass-none : length es ≤ b.standing → p.next ≡ t.used
  pass-none q = rw (← ended) (ends-none (length text) b.standing s f.rs 0 start (omega arith))

  pub history-is : words f.rs ++ drop t.used t.history ≡ t.history
  history-is = rw f.tiled.tiles (take-append-drop t.used t.history)

  own_at :
      (k : ℕ) (e : Entry) (rest : List Entry) → drop k es ≡ e ∷ rest → At t.history (begins s k f.rs + 1) e
  own_at k e rest q =
      rw history-is at (placed_at s k f.rs e (placed s k f.rs e rest q) (drop t.used t.history))

  -- past its first word, the bench's last standing record and its first undone one are a page's
  pub last-at :
      (k : ℕ) (e : Entry) (rest : List Entry) → b.standing ≡ suc k → drop k es ≡ e ∷ rest →
      At t.history (p.last + 1) e
  last-at k e rest n q = rw (pass-last k n) (own_at k e rest q)

  pub next-at :
      (e : Entry) (rest : List Entry) → b.standing < length es → drop b.standing es ≡ e ∷ rest →
      At t.history (p.next + 1) e
  next-at e rest n q = rw (pass-next n) (own_at b.standing e rest q)
