-- A record's words put into the history, one part after another. Assumes nothing.
use Prim.Native.Nat.{ℕ, ◌+◌, ◌-◌, ◌≤◌}
use mathlib.Core.Path.{◌≡◌, refl, ap, ◌∙◌}
use mathlib.Core.List.{List, [], ◌∷◌, ◌++◌, append_assoc}
use native.Mathlib.Omega.{arith}
use lib.ListN.{length, take, drop, length-append}
use lib.Seq.{length-take-le}
use Rattle.ledger.specs.Words.{pad, words_of, zeros}
use Rattle.ledger.proofs.Words.{length-pad, take-pad, zeros-pad}
use Rattle.splice.specs.Splice.{Filled, used_after, spliced_in}
use Rattle.splice.proofs.Splices.{used-end, filled-end}

-- a buffer of n elements that holds these, and 0 past them, and how many they are
pub record Holding (n : ℕ) (elements buffer : List ℕ) (used : ℕ) : Type 0 where
  pub is : buffer ≡ pad n elements
  pub many : used ≡ length elements

-- cells put at the end
module _ {n : ℕ} {w h : List ℕ} {used : ℕ} (o : Holding n w h used) (cells : List ℕ) (room : length w + length cells ≤ n) where
  long : length h ≡ n
  long = ap length o.is ∙ length-pad n w (omega arith)

  held : take used h ≡ w
  held = (λ i. take (o.many i) (o.is i)) ∙ take-pad n w

  filled : Filled used h
  filled = record { fits = omega (arith, long, o.many); blank = (λ i. zeros (drop (o.many i) (o.is i))) ∙ zeros-pad n w }

  pub put-more : {h' : List ℕ} {used' : ℕ} → used' ≡ used_after used used 0 (length cells) (length h) → h' ≡ spliced_in used used 0 cells h → Holding n (w ++ cells) h' used'
  put-more m e =
      let fits : used + length cells ≤ length h = omega (arith, long, o.many) in
      record {
        is = e ∙ filled-end h cells used used 0 filled (omega arith) fits ∙ (λ i. pad (long i) (held i ++ cells));
        many = m ∙ used-end h cells used used 0 filled (omega arith) fits ∙ ap (λ (l : List ℕ). length (l ++ cells)) held;
      }

module _ (h removed added : List ℕ) (used at place : ℕ) (f : Filled used h) (from : at ≤ used) (q : at + (3 + length removed + length added) ≤ length h) where
  abbrev head : List ℕ
  head = place ∷ length removed ∷ length added ∷ []

  module _ (h₁ h₂ h₃ : List ℕ) (n₁ n₂ : ℕ) where
    pub record-put :
        (n₁ ≡ used_after used at (used - at) 3 (length h)) × (h₁ ≡ spliced_in used at (used - at) head h) →
        (n₂ ≡ used_after n₁ n₁ 0 (length removed) (length h₁)) × (h₂ ≡ spliced_in n₁ n₁ 0 removed h₁) → h₃ ≡ spliced_in n₂ n₂ 0 added h₂ →
        h₃ ≡ pad (length h) (take at h ++ words_of (record { place = place; removed = removed; added = added }))
    record-put e₁ e₂ e₃ =
        let front : length (take at h) ≡ at = length-take-le at h (omega (arith, f.fits)) in
        let o₁ : Holding (length h) (take at h ++ head) h₁ n₁ =
        record {
          is = e₁.1 ∙ filled-end h head used at (used - at) f (omega arith) (omega arith);
          many = e₁.0 ∙ used-end h head used at (used - at) f (omega arith) (omega arith);
        } in
        let l₁ : length (take at h ++ head) ≡ at + 3 = simp length-append (omega arith) in
        let o₂ : Holding (length h) (take at h ++ head ++ removed) h₂ n₂ = put-more o₁ removed (omega arith) e₂.0 e₂.1 in
        let l₂ : length (take at h ++ head ++ removed) ≡ at + 3 + length removed = omega (arith, length-append (take at h ++ head) removed) in
        (put-more o₂ added (omega arith) refl e₃).is
        ∙ ap (pad (length h)) (append_assoc (take at h ++ head) removed added ∙ append_assoc (take at h) head (removed ++ added))
