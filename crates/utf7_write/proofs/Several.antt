-- Several elements put, one after another. Assumes nothing.
use Prim.Native.Nat.{ℕ, suc, ◌+◌, ◌<◌, ◌≤◌}
use mathlib.Core.Path.{◌≡◌, refl, sym, ap, ◌∙◌}
use mathlib.Core.List.{List, [], ◌∷◌, ◌++◌, append_assoc, append-nil}
use native.Mathlib.Omega.{arith}
use native.Mathlib.Nat.{add-zero}
use native.Mathlib.Numerals.{add-one}
use lib.ListN.{length, get_or, take, drop, set, length-append, take-append-drop}
use lib.Seq.{sets, sets-eq, length-sets, paste, take-paste, drop-paste, take-add, drop-drop, length-take-le, take_at, drop_at, drop-cons, get_or_at}
use Rattle.answer.proofs.Put.{Put, put_as, put_next, put-end, put-done}

pub put-several :
    {text out₀ : List ℕ} (vs r out : List ℕ) (at : ℕ) → Put text out₀ out at (vs ++ r) → Put text out₀ (sets out at vs) (at + length vs) r
put-several [] r out at p = rw (add-zero at) p
put-several (v ∷ vs) r out at p =
    let e : suc at + length vs ≡ at + suc (length vs) = omega arith in
    rw e at (put-several vs r (_) (suc at) (rw add-one at (put_next p)))

-- a block that is copied has its place, and stands in it
module _ {text out₀ out : List ℕ} {at : ℕ} (s r : List ℕ) (n : ℕ) (h : n ≤ length s) (p : Put text out₀ out at (take n s ++ r)) where
  block-length : length (take n s) ≡ n
  block-length = length-take-le n s h

  block-put : Put text out₀ (sets out at (take n s)) (at + n) r
  block-put = rw block-length at (put-several (take n s) r out at p)

  block_room : at + n ≤ length out
  block_room = omega (arith, block-put.upto, p.room, p.same)

  pub put-block : Put text out₀ (paste out at s n) (at + n) r
  put-block =
      let e : sets out at (take n s) ≡ paste out at s n = rw block-length at (sets-eq (take n s) out at (rw block-length block_room)) in
      rw e at block-put

-- a copy, and a copy of what comes next behind it
pub paste-paste :
    (d : List ℕ) (at : ℕ) (s : List ℕ) (n m : ℕ) (bs : List ℕ) {out : List ℕ} {to : ℕ} → out ≡ paste d at s n → to ≡ at + n →
    at + n + m ≤ length d → n + m ≤ length s → take m bs ≡ take m (drop n s) → paste out to bs m ≡ paste d at s (n + m)
paste-paste d at s n m bs o t h k e =
    let a = take-paste d at s n (omega arith) (omega arith) in
    let b = sym (drop-drop m (at + n) (paste d at s n)) ∙ ap (drop m) (drop-paste d at s n (omega arith) (omega arith)) ∙ drop-drop m (at + n) d in
    let q : at + n + m ≡ at + (n + m) = omega arith in
    rw (o, t, a, b, e, append_assoc (take at d) (take n s) (take m (drop n s)), ← take-add n m s, q)

-- a text behind what stands before a place: where it begins, and once it is put
module _ (out vs : List ℕ) (from : ℕ) (h : from + length vs ≤ length out) where
  before-length : length (take from out) ≡ from
  before-length = length-take-le from out (omega arith)

  pub put-from : Put (take from out ++ vs) out out from vs
  put-from =
      record {
        room = rw (length-append (take from out) vs, before-length) h;
        upto = rw (length-append (take from out) vs, before-length) (omega arith);
        left = drop_at (take from out) vs from before-length;
        front = sym (rw (take_at (take from out) vs from before-length) (take-append-drop from out));
        same = refl;
      }

  pub put-sets : {out' : List ℕ} {at : ℕ} → Put (take from out ++ vs) out out' at [] → (at ≡ from + length vs) × (out' ≡ sets out from vs)
  put-sets p =
      let l : length (take from out ++ vs) ≡ from + length vs = length-append (take from out) vs ∙ rw before-length in
      (put-end p ∙ l, put-done p ∙ rw l (sym (sets-eq vs out from h)))

-- what is still to come has a place, and what stands there is as it was
module _ {text out₀ out : List ℕ} {at : ℕ} (todo : List ℕ) (p : Put text out₀ out at todo) where
  pub put_rest : Put text out₀ (sets out at todo) (at + length todo) []
  put_rest = put-several todo [] out at (put_as (sym (append-nil todo)) p)

  pub put-rest-room : at + length todo ≤ length out
  put-rest-room = omega (arith, put_rest.upto, p.room, p.same)

  pub put-ahead : at < length out₀ → get_or out at 0 ≡ get_or out₀ at 0
  put-ahead h =
      rw (p.front, drop-cons out₀ at 0 h) (get_or_at (take at text) (get_or out₀ at 0) (drop (suc at) out₀) 0 at (length-take-le at text p.upto))

-- stores one after another, as the code has their places
pub sets-three : (out : List ℕ) (at x y z : ℕ) → set (set (set out at x) (at + 1) y) (at + 2) z ≡ sets out at (x ∷ y ∷ z ∷ [])
sets-three out at x y z =
    let a : at + 1 ≡ suc at = omega arith in
    let b : at + 2 ≡ suc (suc at) = omega arith in
    ap (λ (k : ℕ). set (set (set out at x) k y) (at + 2) z) a ∙ ap (λ (k : ℕ). set (set (set out at x) (suc at) y) k z) b

pub sets-four : (out : List ℕ) (at x y z w : ℕ) → set (set (set (set out at x) (at + 1) y) (at + 2) z) (at + 3) w ≡ sets out at (x ∷ y ∷ z ∷ w ∷ [])
sets-four out at x y z w =
    let b : at + 3 ≡ suc (suc (suc at)) = omega arith in
    ap (λ (o : List ℕ). set o (at + 3) w) (sets-three out at x y z) ∙ ap (λ (k : ℕ). set (sets out at (x ∷ y ∷ z ∷ [])) k w) b

-- and two behind four
pub sets-six :
    (out : List ℕ) (at x y z w p q : ℕ) →
    set (set (sets out at (x ∷ y ∷ z ∷ w ∷ [])) (at + 4) p) (at + 5) q ≡ sets out at (x ∷ y ∷ z ∷ w ∷ p ∷ q ∷ [])
sets-six out at x y z w p q =
    let o = sets out at (x ∷ y ∷ z ∷ w ∷ []) in
    let a : at + 4 ≡ suc (suc (suc (suc at))) = omega arith in
    let b : at + 5 ≡ suc (suc (suc (suc (suc at)))) = omega arith in
    ap (λ (k : ℕ). set (set o k p) (at + 5) q) a ∙ ap (λ (k : ℕ). set (set o (suc (suc (suc (suc at)))) p) k q) b

-- what was stored is found again, and as many elements stored over it take its place
module _ (l vs : List ℕ) (i : ℕ) (h : i + length vs ≤ length l) where
  rest_of : List ℕ
  rest_of = drop (i + length vs) l

  begin-length : length (take i l) ≡ i
  begin-length = length-take-le i l (omega arith)

  begin : take i (sets l i vs) ≡ take i l
  unfolding rest_of
  begin = rw (sets-eq vs l i h, append_assoc (take i l) vs rest_of) (take_at (take i l) (vs ++ rest_of) i begin-length)

  pub sets-part : take (length vs) (drop i (sets l i vs)) ≡ vs
  unfolding rest_of
  sets-part =
      rw (sets-eq vs l i h, append_assoc (take i l) vs rest_of, drop_at (take i l) (vs ++ rest_of) i begin-length) (take_at vs rest_of (length vs) refl)

  pub sets_over : (ws : List ℕ) → length ws ≡ length vs → sets (sets l i vs) i ws ≡ sets l i ws
  unfolding rest_of
  sets_over ws e =
      let n : length (take i l ++ vs) ≡ i + length vs = length-append (take i l) vs ∙ rw begin-length in
      let b : drop (i + length vs) (sets l i vs) ≡ rest_of = rw (sets-eq vs l i h) (drop_at (take i l ++ vs) rest_of (i + length vs) n) in
      sets-eq ws (sets l i vs) i (rw (e, length-sets l i vs) h) ∙ rw (begin, e, b) (rw e at (sym (sets-eq ws l i (rw e h))))
