-- Comparing the bytes of two lists from their start. Assumes nothing.
use Prim.Native.Nat.{ℕ, ◌<◌, ◌≤◌}
use Prim.Native.Nat.compare.{suc-suc}
use mathlib.Core.Path.{◌≡◌, refl}
use mathlib.Core.Bool.{Bool, true, false, cond, ◌&&◌, false≢true}
use mathlib.Core.List.{List, [], ◌∷◌}
use native.Mathlib.Omega.{arith}
use lib.ListN.{length, get_or}
use lib.Dec.{eqb}
use borrow.Author.Tests.{ne_eqb, eqb-true}
use lib.Pointwise.{pointwise}
use Rattle.std.specs.List.{starts_with}
use Rattle.jp2.specs.Table.{begins, is_list}

guard : (s t : Bool) → cond s t false ≡ true → (s ≡ true) × (t ≡ true)
guard true t e = (refl, e)
guard false t e = absurd (false≢true e)

-- what `starts_with` and `==` answer
and-cond : (s t : Bool) → cond s t false ≡ (s && t)
and-cond true t = refl
and-cond false t = refl

pub begins-std : (bytes l : List ℕ) → begins bytes l ≡ starts_with eqb l bytes
unfolding begins
begins-std [] l = refl
begins-std (b ∷ bytes) [] = refl
begins-std (b ∷ bytes) (a ∷ l) = rw (begins-std bytes l) (and-cond (eqb b a) _)

and-assoc : (s t u : Bool) → (cond s t false && u) ≡ (s && (t && u))
and-assoc true t u = refl
and-assoc false t u = refl

pub is_list-std : (bytes l : List ℕ) → is_list bytes l ≡ pointwise eqb bytes l
unfolding begins
is_list-std [] [] = refl
is_list-std [] (a ∷ l) = ne_eqb 0 (length (a ∷ l)) (λ e. absurd (omega (arith, e)))
is_list-std (b ∷ bytes) [] = refl
is_list-std (b ∷ bytes) (a ∷ l) =
    rw (← is_list-std bytes l, suc-suc (length bytes) (length l)) (and-assoc (eqb b a) (begins bytes l) (eqb (length bytes) (length l)))

-- bytes that begin a list are no longer than it, and start as it does
pub begins-length : (bytes l : List ℕ) → begins bytes l ≡ true → length bytes ≤ length l
unfolding begins
begins-length [] l e = omega arith
begins-length (b ∷ bytes) [] e = absurd (false≢true e)
begins-length (b ∷ bytes) (a ∷ l) e = omega (arith, begins-length bytes l (guard (eqb b a) (begins bytes l) e).1)

pub begins-first : (bytes l : List ℕ) → 0 < length bytes → begins bytes l ≡ true → get_or bytes 0 0 ≡ get_or l 0 0
unfolding begins
begins-first [] l h e = absurd (omega arith)
begins-first (b ∷ bytes) [] h e = absurd (false≢true e)
begins-first (b ∷ bytes) (a ∷ l) h e = eqb-true b a (guard (eqb b a) (begins bytes l) e).0

-- bytes that begin a list of their length are that list
pub begins-whole : (bytes l : List ℕ) → begins bytes l ≡ true → length bytes ≡ length l → bytes ≡ l
unfolding begins
begins-whole [] [] e n = refl
begins-whole [] (a ∷ l) e n = absurd (omega arith)
begins-whole (b ∷ bytes) [] e n = absurd (false≢true e)
begins-whole (b ∷ bytes) (a ∷ l) e n =
    let q = guard (eqb b a) (begins bytes l) e in
    rw (eqb-true b a q.0, begins-whole bytes l q.1 (omega arith))
