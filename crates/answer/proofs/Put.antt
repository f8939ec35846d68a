-- An output on its way: one record for every function that fills an output from the front. Assumes nothing.
use Prim.Native.Nat.{ℕ, suc, ◌+◌, ◌-◌, ◌<◌, ◌≤◌}
use mathlib.Core.Path.{◌≡◌, refl, sym, ap, ◌∙◌}
use mathlib.Core.List.{List, [], ◌∷◌, ◌++◌, append_assoc, append-nil}
use native.Mathlib.Omega.{arith}
use native.Mathlib.Numerals.{add-one}
use native.Mathlib.Nat.{add-zero}
use lib.ListN.{length, get_or, take, drop, set, length-append, length-drop, length-take, length-set, drop_of_length-le}
use lib.Seq.{length-take-le, take_at, drop_at, drop-drop, take-add, get_or-drop, take-length, take_all, take-suc, drop-cons, set_at, append_snoc}
use borrow.Rule.Slice.PartMut.{put_mid}
use Rattle.answer.specs.Output.{filled}
pub use Rattle.answer.specs.Inner.{Put}

pub put-start : (text out : List ℕ) → length text ≤ length out → Put text out out 0 text
put-start text out h = record { room = h; upto = omega arith; left = refl; front = refl; same = refl }

pub put_as : {text out₀ out todo todo' : List ℕ} {at : ℕ} → todo ≡ todo' → Put text out₀ out at todo → Put text out₀ out at todo'
put_as e p = record { room = p.room; upto = p.upto; left = p.left ∙ e; front = p.front; same = p.same }

-- what stands first in a list from a place on stands at the place
pub head_at : {A : Type 0} (l r : List A) (at : ℕ) (x d : A) → drop at l ≡ x ∷ r → get_or l at d ≡ x
head_at {A} l r at x d e = rw add-zero at (sym (get_or-drop at l 0 d)) ∙ ap (λ (k : List A). get_or k 0 d) e

pub tail_at : {A : Type 0} (l r : List A) (at : ℕ) (x : A) → drop at l ≡ x ∷ r → drop (at + 1) l ≡ r
tail_at l r at x e = sym (drop-drop 1 at l) ∙ ap (drop 1) e

-- one element more
put-more :
    (text out : List ℕ) (n x : ℕ) → n < length text → n < length out → get_or text n 0 ≡ x →
    set (take n text ++ drop n out) n x ≡ take (n + 1) text ++ drop (n + 1) out
put-more text out n x h k e =
    ap (λ (r : List ℕ). set (take n text ++ r) n x) (drop-cons out n 0 k)
    ∙ set_at (take n text) (get_or out n 0) (drop (suc n) out) x n (length-take-le n text (omega arith))
    ∙ sym (append_snoc (take n text) x (drop (suc n) out))
    ∙ rw (add-one, take-suc text n 0 h, e)

module _ {text out₀ out r : List ℕ} {at x : ℕ} (p : Put text out₀ out at (x ∷ r)) where
  put_in : at < length text
  put_in = omega (arith, ap length p.left, length-drop at text)

  -- the next element has a place
  pub put-lt : at < length out
  put-lt = omega (arith, put_in, p.same, p.room)

  pub put_next : Put text out₀ (set out at x) (at + 1) r
  put_next =
      record {
        room = p.room;
        upto = omega (arith, put_in);
        left = tail_at text r at x p.left;
        front = rw p.front (put-more text out₀ at x put_in (omega (arith, put_in, p.room)) (head_at text r at x 0 p.left));
        same = simp length-set p.same;
      }

module _ {text out₀ out : List ℕ} {at : ℕ} (part r : List ℕ) (p : Put text out₀ out at (part ++ r)) where
  put-left : length text - at ≡ length part + length r
  put-left = sym (length-drop at text) ∙ ap length p.left ∙ length-append part r

  put-part : (out' : List ℕ) → out' ≡ take at out ++ filled part (drop at out) → Put text out₀ out' (at + length part) r
  put-part out' e =
      let h : length (take at text) ≡ at = length-take-le at text p.upto in
      record {
        room = p.room;
        upto = omega (arith, put-left, p.upto);
        left = sym (drop-drop (length part) at text) ∙ ap (drop (length part)) p.left ∙ drop_at part r (length part) refl;
        front =
            e
            ∙ rw (
              p.front,
              take_at (take at text) (drop at out₀) at h,
              drop_at (take at text) (drop at out₀) at h,
              take-add at (length part) text,
              p.left,
              take_at part r (length part) refl,
              ← drop-drop (length part) at out₀,
              append_assoc (take at text) part (drop (length part) (drop at out₀)),
            );
        same = ap length e ∙ simp (length-append, length-take, length-drop) (omega (arith, put-left, p.upto, p.same, p.room));
      }

  -- the rest of the output, lent on as `&mut out[at..]`, has room for the part and comes back with it in front
  rest-whole : take (length out - at) (drop at out) ≡ drop at out
  rest-whole = take_all (length out - at) (drop at out) (omega (arith, length-drop at out))

  pub put-lent-room : length part ≤ length (take (length out - at) (drop at out))
  put-lent-room = rw rest-whole (omega (arith, length-drop at out, put-left, p.upto, p.same, p.room))

  pub put-lent :
      {y : List ℕ} → y ≡ filled part (take (length out - at) (drop at out)) →
      Put text out₀ (put_mid at (length out - at) out y) (at + length part) r
  put-lent {y} e =
      put-part (put_mid at (length out - at) out y)
      (ap (λ (z : List ℕ). take at out ++ z)
      (ap (λ (z : List ℕ). y ++ z) (drop_of_length-le (drop at out) {i = length out - at} (omega (arith, length-drop at out))) ∙ append-nil y ∙ e ∙ ap (filled part) rest-whole))

module _ {text out₀ out : List ℕ} {at : ℕ} (p : Put text out₀ out at []) where
  pub put-end : at ≡ length text
  put-end = omega (arith, ap length p.left, length-drop at text, p.upto)

  pub put-done : out ≡ filled text out₀
  put-done = p.front ∙ rw (put-end, take-length text)
