-- Laws of the records of two benches and of their words. Assumes nothing.
use Prim.Native.Nat.{ℕ, zero, suc, ◌+◌, ◌≤◌}
use mathlib.Core.Path.{◌≡◌, refl, sym, ap}
use mathlib.Core.Bool.{Bool, true, false, cond}
use mathlib.Core.List.{List, [], ◌∷◌, ◌++◌, append_assoc}
use Rattle.std.specs.Prelude.{Some}
use native.Mathlib.Omega.{arith}
use lib.ListN.{length, take, drop, length-append}
use lib.Seq.{take-append_seam, drop-append_seam, drop-append-add, take-nil, drop-nil}
use lib.Dec.{leb}
use borrow.Author.Tests.{le-leb}
use Rattle.editor.specs.Records.{Entry}
use Rattle.benches.specs.Words.{Side, first, second, number_of, side_of, same, Both, at, put, Record, words, sizes}
use Rattle.benches.specs.Words.{records_in, own, kept}

abbrev pub other : Side → Side
other first = second
other second = first

pub side-number : (s : Side) → side_of (number_of s) ≡ Some s
side-number first = refl
side-number second = refl

-- what holds of a side and of the other holds of both
pub by_side : (P : Side → Type 0) (s : Side) → P s → P (other s) → (p : Side) → P p
by_side P first a b first = a
by_side P first a b second = b
by_side P second a b first = b
by_side P second a b second = a

-- what is put at a side is there, and the other side stays
pub at-put : {A : Type 0} (p : Both A) (s : Side) (a : A) → at (put p s a) s ≡ a
at-put p first a = refl
at-put p second a = refl

pub at_other : {A : Type 0} (p : Both A) (s : Side) (a : A) → at (put p s a) (other s) ≡ at p (other s)
at_other p first a = refl
at_other p second a = refl

-- the records found in the words of records are those records
pub records-words : (n : ℕ) (rs : List Record) → length (words rs) ≤ n → records_in n (words rs) ≡ Some rs
unfolding records_in
records-words zero [] h = refl
records-words zero (r ∷ rs) h = absurd (omega arith)
records-words (suc n) [] h = refl
records-words (suc n) (x ∷ rs) h =
    let r : List ℕ = x.entry.removed in
    let a : List ℕ = x.entry.added in
    let all : List ℕ = r ++ (a ++ words rs) in
    let fits : leb (length r + length a) (length all) ≡ true =
    le-leb (length r + length a) (length all) (simp length-append (omega arith)) in
    let rest : records_in n (words rs) ≡ Some rs = records-words n rs (omega (arith, simp length-append at h)) in
    simp (
      append_assoc,
      take-append_seam,
      drop-append_seam,
      drop-append-add,
      fits,
      rest,
      side-number x.bench,
    )

pub words_append : (rs qs : List Record) → words (rs ++ qs) ≡ words rs ++ words qs
words_append [] qs = refl
words_append (r ∷ rs) qs = simp (words_append rs qs, append_assoc)

module _ (s : Side) where
  -- a law of records goes by whether the first is the bench's own
  pub by-bench :
      (r : Record) (P : Bool → Type 0) → (same s r.bench ≡ true → P true) → (same s r.bench ≡ false → P false) →
      P (same s r.bench)
  by-bench r P f g = by (same s r.bench) refl
    where
      by : (t : Bool) → same s r.bench ≡ t → P t
      by true e = f e
      by false e = g e

  abbrev own_with : Record → List Record → Bool → List Entry
  own_with r rs t = cond t (r.entry ∷ own s rs) (own s rs)

  abbrev kept_with : Record → List Record → List Record → Bool → List Record
  kept_with r mine others t = cond t mine (r ∷ others)

  pub own-append : (rs qs : List Record) → own s (rs ++ qs) ≡ own s rs ++ own s qs
  unfolding own
  own-append [] qs = refl
  own-append (r ∷ rs) qs =
      by-bench r (λ t. own_with r (rs ++ qs) t ≡ own_with r rs t ++ own s qs)
      (λ _. ap (λ (l : List Entry). r.entry ∷ l) (own-append rs qs)) (λ _. own-append rs qs)

  -- of the bench whose undone steps are dropped the first records stay
  pub own-kept : (n : ℕ) (rs : List Record) → own s (kept s n rs) ≡ take n (own s rs)
  unfolding own kept
  own-kept n [] = sym (take-nil n)
  own-kept zero (r ∷ rs) =
      by-bench r (λ t. own s (kept_with r (kept s zero rs) (kept s zero rs) t) ≡ take zero (own_with r rs t))
      (λ _. own-kept zero rs) (λ e. rw e (own-kept zero rs))
  own-kept (suc n) (r ∷ rs) =
      by-bench r (λ t. own s (kept_with r (r ∷ kept s n rs) (kept s (suc n) rs) t) ≡ take (suc n) (own_with r rs t))
      (λ e. rw e (ap (λ (l : List Entry). r.entry ∷ l) (own-kept n rs))) (λ e. rw e (own-kept (suc n) rs))

  -- and the words that go are those of its other records
  pub words-kept :
      (n : ℕ) (rs : List Record) → length (words (kept s n rs)) + sizes (drop n (own s rs)) ≡ length (words rs)
  unfolding own kept
  words-kept n [] = rw drop-nil
  words-kept zero (r ∷ rs) =
      by-bench r
      (λ t.
      length (words (kept_with r (kept s zero rs) (kept s zero rs) t)) + sizes (drop zero (own_with r rs t))
      ≡ length (words (r ∷ rs)))
      (λ _. simp length-append (omega (arith, words-kept zero rs)))
      (λ _. simp length-append (omega (arith, words-kept zero rs)))
  words-kept (suc n) (r ∷ rs) =
      by-bench r
      (λ t.
      length (words (kept_with r (r ∷ kept s n rs) (kept s (suc n) rs) t)) + sizes (drop (suc n) (own_with r rs t))
      ≡ length (words (r ∷ rs)))
      (λ _. simp length-append (omega (arith, words-kept n rs)))
      (λ _. simp length-append (omega (arith, words-kept (suc n) rs)))

-- the other bench keeps all of its records
other-not : (s p : Side) → same s p ≡ true → same (other s) p ≡ false
other-not first first e = refl
other-not first second e = sym e
other-not second first e = sym e
other-not second second e = refl

module _ (s : Side) where
  pub own-other : (n : ℕ) (rs : List Record) → own (other s) (kept s n rs) ≡ own (other s) rs
  unfolding own kept
  own-other n [] = refl
  own-other zero (r ∷ rs) =
      by-bench s r (λ t. own (other s) (kept_with s r (kept s zero rs) (kept s zero rs) t) ≡ own (other s) (r ∷ rs))
      (λ e. rw (other-not s r.bench e) (own-other zero rs)) (λ _. rw (own-other zero rs))
  own-other (suc n) (r ∷ rs) =
      by-bench s r
      (λ t. own (other s) (kept_with s r (r ∷ kept s n rs) (kept s (suc n) rs) t) ≡ own (other s) (r ∷ rs))
      (λ _. rw (own-other n rs)) (λ _. rw (own-other (suc n) rs))

-- a new record of a bench is its own, and none of the other's
pub own_new : (s : Side) (e : Entry) → own s (record { bench = s; entry = e } ∷ []) ≡ e ∷ []
unfolding own
own_new first e = refl
own_new second e = refl

pub other-new : (s : Side) (e : Entry) → own (other s) (record { bench = s; entry = e } ∷ []) ≡ []
unfolding own
other-new first e = refl
other-new second e = refl
