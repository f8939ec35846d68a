-- Numbers by hex digits, one after another. Assumes nothing.
use Prim.Native.Nat.{ℕ, zero, suc, ◌+◌, ◌*◌, ◌/◌, ◌%◌, ◌^◌, ◌<◌, ◌≤◌}
use mathlib.Core.Path.{◌≡◌, refl, ap, ◌∙◌}
use mathlib.Core.List.{List, ◌∷◌}
use native.Mathlib.Omega.{arith}
use native.Mathlib.Numerals.{add-one}
use native.Mathlib.Nat.{add-zero, zero-mul, suc-mul, pow-suc, mod-lt}
use lib.ListN.{length, get_or, drop, set, drop_of_length-le}
use lib.Seq.{drop-cons}
use lib.Dec.{lit<}
use Rattle.answer.specs.Output.{filled}
use Rattle.answer.proofs.Put.{Put, put-start, put_as, put_next, put-done}
use Rattle.reading.specs.Reading.{Rule, Does}
use Rattle.scan.specs.Inner.{nibble, hex_at, hexes_at}

nibble-small : (b : ℕ) → nibble b < 16
nibble-small b = mod-lt (b % 16 + b / 64 * 9) (lit< tt)

-- what a byte does, where it is found
pub at_byte : {S : Type 0} (rule : Rule S) (st : S) {a b : ℕ} {d : Does S} → a ≡ b → rule.byte st b ≡ d → rule.byte
    st a ≡ d
at_byte rule st e f = ap (rule.byte st) e ∙ f

module _ (s : List ℕ) where
  pub hex-suc : (at k : ℕ) {v d : ℕ} → v ≡ hex_at s at k → d ≡ nibble (get_or s (at + k) 0) → v * 16 + d ≡ hex_at s at
      (k + 1)
  unfolding hex_at
  hex-suc at k e f = rw (add-one k, e, f)

  pub hex-none : (at : ℕ) → 0 ≡ hex_at s at 0
  unfolding hex_at
  hex-none at = refl

  pub hex-small : (at k : ℕ) → hex_at s at k < 16 ^ k
  unfolding hex_at
  hex-small at zero = lit< tt
  hex-small at (suc k) =
      omega (arith, hex-small at k, nibble-small (get_or s (at + k) 0), pow-suc 16 k)

  pub hex-two : (at : ℕ) {a b : ℕ} → a ≡ nibble (get_or s at 0) → b ≡ nibble (get_or s (at + 1) 0) → a * 16 + b ≡ hex_at s
      at 2
  unfolding hex_at
  hex-two at e f = rw (e, f, add-zero at) (omega arith)

  pub length-hexes : (at k n : ℕ) → length (hexes_at s at k n) ≡ n
  unfolding hexes_at
  length-hexes at k zero = refl
  length-hexes at k (suc n) = rw (length-hexes (at + k) k n)

  pub hexes-at : (at k n i : ℕ) → i < n → get_or (hexes_at s at k n) i 0 ≡ hex_at s (at + i * k) k
  unfolding hexes_at
  hexes-at at k zero i h = absurd (omega arith)
  hexes-at at k (suc n) zero h = rw (zero-mul k, add-zero at)
  hexes-at at k (suc n) (suc i) h =
      let e : at + k + i * k ≡ at + suc i * k = omega (arith, suc-mul i k) in
      hexes-at (at + k) k n i (omega arith) ∙ ap (λ (j : ℕ). hex_at s j k) e

  -- an output on its way
  module _ (from k n : ℕ) {out₀ out : List ℕ} {i : ℕ} where
    pub read_next : Put (hexes_at s from k n) out₀ out i (drop i (hexes_at s from k n)) → i < n → {v : ℕ} → v ≡ hex_at s
        (from + i * k) k → Put (hexes_at s from k n) out₀ (set out i v) (i + 1) (drop (i + 1) (hexes_at s from k n))
    read_next p h {v} e =
        let l : i < length (hexes_at s from k n) = omega (arith, length-hexes from k n) in
        let next : drop i (hexes_at s from k n) ≡ v ∷ drop (i + 1) (hexes_at s from k n) = rw
        (add-one i, e, ← hexes-at from k n i h) (drop-cons (hexes_at s from k n) i 0 l) in
        put_next (put_as next p)

    pub read-room : Put (hexes_at s from k n) out₀ out i (drop i (hexes_at s from k n)) → i < n → i < length out
    read-room p h = omega (arith, p.same, p.room, length-hexes from k n)

    pub read_done : Put (hexes_at s from k n) out₀ out i (drop i (hexes_at s from k n)) → n ≤ i → out ≡ filled
        (hexes_at s from k n) out₀
    read_done p h = put-done (put_as (drop_of_length-le (hexes_at s from k n) {i = i}
        (omega (arith, length-hexes from k n))) p)

  pub read-start : (from k n : ℕ) (out : List ℕ) → n ≤ length out → Put (hexes_at s from k n) out out 0
      (hexes_at s from k n)
  read-start from k n out h = put-start (hexes_at s from k n) out (omega (arith, length-hexes from k n))
