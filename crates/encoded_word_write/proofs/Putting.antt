-- Parts put into an output one after another. Assumes nothing.
use Prim.Native.Nat.{ℕ, ◌+◌, ◌-◌, ◌/◌, ◌%◌, ◌^◌, ◌≤◌, ◌<◌}
use mathlib.Core.Path.{◌≡◌, refl, sym, ap, ◌∙◌}
use mathlib.Core.List.{List, [], ◌∷◌, ◌++◌, append_assoc, append-nil}
use native.Mathlib.Omega.{arith}
use native.Mathlib.Nat.{div-one}
use lib.ListN.{length, take, drop, set, length-set, length-append, length-drop, drop_of_length-le}
use lib.Seq.{take_all}
use Rattle.parsing.specs.Digits.{digit, digits}
use borrow.Rule.Slice.PartMut.{put_mid}
use Rattle.answer.specs.Output.{filled}
use Rattle.answer.proofs.Put.{Put, put_as, put_next, put-lent}
use Rattle.utf7_write.proofs.Several.{put-from}
use Rattle.encoded_word_write.specs.Inner.{Puts}

pub puts_one : (x at : ℕ) (out : List ℕ) → Puts (x ∷ []) at out (set out at x)
puts_one x at out = (simp length-set, λ text first rest p. put_next p)

-- one part, and another behind it
pub puts-on :
    (a b : List ℕ) (at to : ℕ) (x y z : List ℕ) → Puts a at x y → to ≡ at + length a → Puts b to y z →
    Puts (a ++ b) at x z
puts-on a b at to x y z f e g =
    let n : at + length (a ++ b) ≡ to + length b = omega (arith, length-append a b) in (
      g.0 ∙ f.0,
      λ text first rest p. rw n (g.1 text first rest (rw e (f.1 text first (b ++ rest) (put_as (append_assoc a b rest) p)))),
    )

-- an `=` pair
pub puts-pair :
    (b at : ℕ) (out : List ℕ) {h l : ℕ} → b < 256 → h ≡ digit (b / 16) → l ≡ digit (b % 16) →
    Puts (61 ∷ digits 16 2 b) at out (set (set (set out at 61) (at + 1) h) (at + 2) l)
unfolding digits
puts-pair b at out {h} {l} k e f = (simp length-set, λ text first rest p. three-on text first rest p)
  where
    three-on :
        (text first rest : List ℕ) →
        Put text first out at (61 ∷ digit (b / 16 ^ 1 % 16) ∷ digit (b / 16 ^ 0 % 16) ∷ rest) →
        Put text first (set (set (set out at 61) (at + 1) h) (at + 2) l) (at + 3) rest
    three-on text first rest p =
        let high : b / 16 % 16 ≡ b / 16 = omega arith in
        let two : at + 1 + 1 ≡ at + 2 = omega arith in
        let three : at + 1 + 1 + 1 ≡ at + 3 = omega arith in
        let q : Put text first out at (61 ∷ h ∷ l ∷ rest) = rw (e, f) (rw (high, div-one b) at p) in
        rw (← three, ← two) (put_next (put_next (put_next q)))

-- a part put into the rest of the output, which was lent as `&mut out[at..]`
pub puts-lent :
    (part : List ℕ) (at : ℕ) (out y : List ℕ) → at + length part ≤ length out →
    y ≡ filled part (take (length out - at) (drop at out)) → Puts part at out (put_mid at (length out - at) out y)
puts-lent part at out y h e =
    let s = (put-lent part [] (put_as (sym (append-nil part)) (put-from out part at h)) e).same in
    (s, λ text first rest p. put-lent part rest p e)

-- a part copied to its place
pub puts-part : (part : List ℕ) (at : ℕ) (out : List ℕ) → at + length part ≤ length out → Puts part at out (take at out ++ filled part (drop at out))
puts-part part at out h =
    let n : length (drop at out) ≤ length out - at = omega (arith, length-drop at out) in
    let e : put_mid at (length out - at) out (filled part (drop at out)) ≡ take at out ++ filled part (drop at out) =
    ap (λ (z : List ℕ). take at out ++ z)
    (ap (λ (z : List ℕ). filled part (drop at out) ++ z) (drop_of_length-le (drop at out) n) ∙ append-nil (filled part (drop at out))) in
    rw e at (puts-lent part at out (filled part (drop at out)) h (rw (take_all (length out - at) (drop at out) n) refl))
