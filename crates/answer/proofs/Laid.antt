-- Elements laid into a buffer of which only the front counts. Assumes nothing.
use Prim.Native.Nat.{ℕ, ◌+◌, ◌<◌, ◌≤◌}
use mathlib.Core.Path.{◌≡◌, refl, sym, ap, ◌∙◌}
use mathlib.Core.List.{List, [], ◌∷◌, ◌++◌, append_assoc, append-nil}
use native.Mathlib.Omega.{arith}
use native.Mathlib.Nat.{add-zero}
use native.Mathlib.Numerals.{add-one}
use lib.ListN.{length, get_or, take, set, length-append, length-set}
use lib.Seq.{length-take-le, take-take, take-append-add, take-suc, take-suc-set}
pub use Rattle.answer.specs.Inner.{Laid}

pub laid_none : (n : ℕ) (out : List ℕ) → Laid [] n out out
laid_none n out = record { same = refl; front = rw add-zero (sym (append-nil (take n out))) }

pub laid_one : (n v : ℕ) (out : List ℕ) → n < length out → Laid (v ∷ []) n out (set out n v)
laid_one n v out h = record { same = simp length-set; front = rw add-one (take-suc-set out n v h) }

pub laid_on : {cs ds a b c : List ℕ} {n m : ℕ} → Laid cs n a b → m ≡ n + length cs → Laid ds m b c → Laid (cs ++ ds) n a c
laid_on {cs} {ds} {a} {b} {c} {n} {m} p e q =
    let l : n + length (cs ++ ds) ≡ m + length ds = omega (arith, length-append cs ds) in
    record {
      same = q.same ∙ p.same;
      front = rw l (q.front ∙ rw (e, p.front) (append_assoc (take n a) cs ds));
    }

-- one element more of a list
pub laid_next : (xs : List ℕ) {a b : List ℕ} {n : ℕ} (k : ℕ) → Laid (take k xs) n a b → k < length xs → n + k < length b → Laid (take (k + 1) xs) n a (set b (n + k) (get_or xs k 0))
laid_next xs {a} {b} {n} k p h l =
    let e : length (take k xs) ≡ k = length-take-le k xs (omega arith) in
    rw (add-one k, take-suc xs k 0 h) (laid_on p (rw e refl) (laid_one (n + k) (get_or xs k 0) b l))

-- three elements
pub laid-three : (n u v w : ℕ) (out : List ℕ) → n + 3 ≤ length out → Laid (u ∷ v ∷ w ∷ []) n out (set (set (set out n u) (n + 1) v) (n + 2) w)
laid-three n u v w out h =
    laid_on (laid_on (laid_one n u out (omega arith)) refl (laid_one (n + 1) v (set out n u) (simp length-set (omega arith)))) refl
    (laid_one (n + 2) w (set (set out n u) (n + 1) v) (simp length-set (omega arith)))

-- only the first of them count
pub laid-front : {cs a b : List ℕ} {n : ℕ} (k : ℕ) → Laid cs n a b → n ≤ length a → k ≤ length cs → Laid (take k cs) n a b
laid-front {cs} {a} {b} {n} k p h l =
    let t : length (take n a) ≡ n = length-take-le n a h in
    record {
      same = p.same;
      front =
          rw (length-take-le k cs l)
          (sym (take-take (n + k) (n + length cs) b (omega arith))
          ∙ ap (take (n + k)) p.front
          ∙ rw t at (take-append-add (take n a) cs k));
    }
