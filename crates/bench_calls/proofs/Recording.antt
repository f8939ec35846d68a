-- A record's words put into the shared history, one part after another. Assumes nothing.
use Prim.Native.Nat.{ℕ, ◌+◌, ◌-◌, ◌≤◌}
use mathlib.Core.Path.{◌≡◌, refl, ap, ◌∙◌}
use mathlib.Core.List.{List, [], ◌∷◌, ◌++◌, append_assoc}
use native.Mathlib.Omega.{arith}
use lib.ListN.{length, take, length-append}
use lib.Seq.{length-take-le}
use Rattle.ledger.specs.Words.{pad, words_of}
use Rattle.splice.specs.Splice.{Filled, used_after, spliced_in}
use Rattle.splice.proofs.Splices.{used-end, filled-end}
use Rattle.page.proofs.Recording.{Holding, put-more}

module _
    (h removed added : List ℕ)
    (used at mine place : ℕ)
    (f : Filled used h)
    (from : at ≤ used)
    (q : at + (4 + length removed + length added) ≤ length h) where
  abbrev head : List ℕ
  head = mine ∷ place ∷ length removed ∷ length added ∷ []

  module _ (h₁ h₂ h₃ : List ℕ) (n₁ n₂ : ℕ) where
    pub record-put :
        (n₁ ≡ used_after used at (used - at) 4 (length h)) × (h₁ ≡ spliced_in used at (used - at) head h) →
        (n₂ ≡ used_after n₁ n₁ 0 (length removed) (length h₁)) × (h₂ ≡ spliced_in n₁ n₁ 0 removed h₁) →
        h₃ ≡ spliced_in n₂ n₂ 0 added h₂ →
        h₃ ≡ pad (length h) (take at h ++ mine ∷ words_of (record { place = place; removed = removed; added = added }))
    record-put e₁ e₂ e₃ =
        let front : length (take at h) ≡ at = length-take-le at h (omega (arith, f.fits)) in
        let o₁ : Holding (length h) (take at h ++ head) h₁ n₁ =
        record {
          is = e₁.1 ∙ filled-end h head used at (used - at) f (omega arith) (omega arith);
          many = e₁.0 ∙ used-end h head used at (used - at) f (omega arith) (omega arith);
        } in
        let l₁ : length (take at h ++ head) ≡ at + 4 = simp length-append (omega arith) in
        let o₂ : Holding (length h) (take at h ++ head ++ removed) h₂ n₂ =
        put-more o₁ removed (omega arith) e₂.0 e₂.1 in
        let l₂ : length (take at h ++ head ++ removed) ≡ at + 4 + length removed =
        omega (arith, length-append (take at h ++ head) removed) in
        (put-more o₂ added (omega arith) refl e₃).is
        ∙ ap (pad (length h))
        (append_assoc (take at h ++ head) removed added ∙ append_assoc (take at h) head (removed ++ added))
