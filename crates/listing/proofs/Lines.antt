-- What one function after another puts into an output: the first part, the parts of a line, the lines of a listing. Assumes nothing.
use Prim.Native.Nat.{ℕ, ◌+◌, ◌-◌, ◌*◌, ◌≤◌}
use mathlib.Core.Path.{◌≡◌, refl, sym, ap, ◌∙◌}
use mathlib.Core.Bool.{cond}
use mathlib.Core.List.{List, [], ◌∷◌, ◌++◌, append_assoc, append-nil}
use native.Mathlib.Omega.{arith}
use lib.ListN.{length, take, drop, length-append, length-drop}
use lib.Seq.{take_at, drop_at}
use lib.Dec.{eqb}
use borrow.Rule.Slice.PartMut.{put_mid}
use borrow.Author.Tests.{eq-eqb, ne_eqb}
use Rattle.answer.specs.Answer.{numbered}
use Rattle.answer.specs.Output.{filled}
use Rattle.answer.proofs.Below.{cond-case}
use Rattle.answer.proofs.Put.{Put, put_as, put-lent-room, put-lent}
use Rattle.listing.specs.Listing.{decimal, spaced, status_name, count_name, place_name, cells_name, line, answer_lines, listing}
use Rattle.listing.proofs.Digits.{decimal-few, length-spaced}

-- a part that was put at the front
pub put_first :
    {text out out' : List ℕ} {at : ℕ} (part r : List ℕ) → text ≡ part ++ r → length text ≤ length out →
    (at ≡ length part) × (out' ≡ filled part out) → Put text out out' at r
put_first {text} {out} {out'} {at} part r e h (n, f) =
    let k : length part + length r ≡ length text = sym (ap length e ∙ length-append part r) in
    record {
      room = h;
      upto = omega (arith, n);
      left = rw (e, drop_at part r at (sym n));
      front = rw (e, take_at part r at (sym n), n) f;
      same = ap length f ∙ simp (length-append, length-drop) (omega arith);
    }

-- a part that was put into the rest, with what the callee answers
pub put_then :
    {text out₀ out y : List ℕ} {at n : ℕ} (part r : List ℕ) → Put text out₀ out at (part ++ r) →
    (n ≡ length part) × (y ≡ filled part (take (length out - at) (drop at out))) →
    Put text out₀ (put_mid at (length out - at) out y) (at + n) r
put_then part r p (n, f) = rw n (put-lent part r p f)

-- the same for the last part, after which nothing comes
module _ {text out₀ out part : List ℕ} {at : ℕ} (p : Put text out₀ out at part) where
  with_none : Put text out₀ out at (part ++ [])
  with_none = put_as (sym (append-nil part)) p

  pub last-room : length part ≤ length (take (length out - at) (drop at out))
  last-room = put-lent-room part [] with_none

  pub put_last :
      {y : List ℕ} {n : ℕ} → (n ≡ length part) × (y ≡ filled part (take (length out - at) (drop at out))) →
      Put text out₀ (put_mid at (length out - at) out y) (at + n) []
  put_last e = put_then part [] with_none e

module _ (name said : List ℕ) where
  pub line-size : length (line name said) ≡ length name + length said + 2
  line-size = simp length-append (omega arith)

  -- a line's name is put
  pub line-named :
      {out out' : List ℕ} {at : ℕ} → length (line name said) ≤ length out →
      (at ≡ length (name ++ 61 ∷ [])) × (out' ≡ filled (name ++ 61 ∷ []) out) → Put (line name said) out out' at (said ++ 10 ∷ [])
  line-named h e = put_first (name ++ 61 ∷ []) (said ++ 10 ∷ []) (sym (append_assoc name (61 ∷ []) (said ++ 10 ∷ []))) h e

-- what an answer calls its count or place
abbrev pub name_of : ℕ → List ℕ
name_of number = cond (eqb number 0) count_name place_name

pub name-size : (number : ℕ) → length (name_of number) ≡ 5
name-size number = cond-case (λ (name : List ℕ). length name ≡ 5) (eqb number 0) (λ _. refl) (λ _. refl)

module _ (number place : ℕ) where
  -- the lines of an answer, and their size
  pub answer-lines : answer_lines (numbered number place) ≡ line status_name (decimal number) ++ line (name_of number) (decimal place)
  unfolding answer_lines
  answer-lines = refl

  pub answer-length : length (answer_lines (numbered number place)) ≡ length (decimal number) + length (decimal place) + 15
  answer-length = ap length answer-lines ∙ simp (length-append, name-size) (omega arith)

  pub answer-few : length (answer_lines (numbered number place)) ≤ 55
  answer-few = omega (arith, answer-length, decimal-few 20 number, decimal-few 20 place)

  module _ (cells : List ℕ) where
    -- the lines of a listing, and their size
    pub refused-lines : (number ≡ 0 → ⊥) → listing (numbered number place) cells ≡ answer_lines (numbered number place)
    unfolding listing
    refused-lines h = rw (ne_eqb number 0 h, append-nil)

    pub accepted-lines :
        number ≡ 0 → listing (numbered number place) cells ≡ answer_lines (numbered number place) ++ line cells_name (drop 1 (spaced cells))
    unfolding listing
    accepted-lines h = rw (eq-eqb number 0 h)

    pub accepted-size :
        number ≡ 0 → length (listing (numbered number place) cells) ≡ length (answer_lines (numbered number place)) + 7 + (9 * length cells - 1)
    accepted-size h = ap length (accepted-lines h) ∙ simp (length-append, length-drop, length-spaced) (omega arith)
