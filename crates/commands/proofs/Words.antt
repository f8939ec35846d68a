-- The words of a line: where a stretch ends, and two lists of bytes compared from their start. Assumes nothing.
use Prim.Native.Nat.{ℕ, suc, ◌+◌, ◌-◌, ◌<◌, ◌≤◌}
use mathlib.Core.Path.{◌≡◌, refl, sym, ap, ◌∙◌}
use mathlib.Core.Bool.{Bool, true, false, beq, cond, not, ◌&&◌, and-false}
use mathlib.Core.List.{List, [], ◌∷◌}
use native.Mathlib.Omega.{arith}
use native.Mathlib.Numerals.{add-one}
use lib.ListN.{length, get_or, take, drop, length-drop, drop_of_length-le}
use lib.Seq.{drop-cons}
use lib.Dec.{eqb}
use Rattle.std.specs.Cmp.Lexicographic.{pointwise}
use Rattle.answer.proofs.Below.{cond-case}
use Rattle.commands.specs.Lines.{blank, stretch, same, verb_of, said_in}
use Rattle.commands.specs.declared.Verb.{Verb}

-- a byte belongs to a stretch of blanks, or of bytes that are none
abbrev pub belongs : Bool → ℕ → Bool
belongs blanks b = cond blanks (blank b) (not (blank b))

both : (r blanks : Bool) → cond blanks r (not r) ≡ not (not (beq r blanks))
both true true = refl
both true false = refl
both false true = refl
both false false = refl

-- what the test of a byte says
pub belongs-beq : (r blanks v : Bool) (b : ℕ) → r ≡ blank b → not (beq r blanks) ≡ v → belongs blanks b ≡ not v
belongs-beq r blanks v b e h = ap (λ (x : Bool). cond blanks x (not x)) (sym e) ∙ (both r blanks ∙ ap not h)

pub stretch-most : (blanks : Bool) (l : List ℕ) → stretch blanks l ≤ length l
unfolding stretch
stretch-most blanks [] = omega arith
stretch-most blanks (b ∷ bs) =
    cond-case (λ (k : ℕ). k ≤ suc (length bs)) (belongs blanks b) (λ _. omega (arith, stretch-most blanks bs)) (λ _. omega arith)

-- where a stretch ends stands no place past the line
pub end-within :
    (blanks : Bool) (line : List ℕ) (from : ℕ) → from ≤ length line → from + stretch blanks (drop from line) ≤ length line
end-within blanks line from h = omega (arith, stretch-most blanks (drop from line), length-drop from line)

-- the bytes between two places are of one stretch
pub record Stretching (blanks : Bool) (line : List ℕ) (from at : ℕ) : Type 0 where
  pub so : from + stretch blanks (drop from line) ≡ at + stretch blanks (drop at line)

pub stretch-start : (blanks : Bool) (line : List ℕ) (from : ℕ) → Stretching blanks line from from
stretch-start blanks line from = record { so = refl }

module _ {blanks : Bool} {line : List ℕ} {from at : ℕ} (s : Stretching blanks line from at) where
  module _ (h : at < length line) where
    pub stretch-stop : belongs blanks (get_or line at 0) ≡ false → at ≡ from + stretch blanks (drop from line)
    unfolding stretch
    stretch-stop e = let z : stretch blanks (drop at line) ≡ 0 = rw (drop-cons line at 0 h, e) in omega (arith, s.so)

    pub stretch-on : belongs blanks (get_or line at 0) ≡ true → Stretching blanks line from (at + 1)
    unfolding stretch
    stretch-on e = record { so = s.so ∙ rw (drop-cons line at 0 h, e, add-one) (omega arith) }

  pub stretch-end : length line ≤ at → at ≡ from + stretch blanks (drop from line)
  unfolding stretch
  stretch-end h = omega (arith, s.so, ap (stretch blanks) (drop_of_length-le line h))

-- a line's command, by where its first word begins and ends and what follows begins
pub said-by :
    (line : List ℕ) {from to rest : ℕ} {verb : Verb} → from ≡ 0 + stretch true line → to ≡ from + stretch false (drop from line) →
    rest ≡ to + stretch true (drop to line) → verb ≡ verb_of (take (to - from) (drop from line)) →
    record { verb = verb; rest = rest } ≡ said_in line
unfolding said_in
said-by line {from} {to} {rest} {verb} f t r v =
    let q : from ≡ stretch true line = omega arith in
    let s : to - from ≡ stretch false (drop from line) = omega arith in
    rw (v, r, s, t, q)

-- two lists of other lengths
pub not_same : (word name : List ℕ) → (length word ≡ length name → ⊥) → false ≡ same word name
unfolding same
not_same [] [] h = absurd (h refl)
not_same [] (y ∷ ys) h = refl
not_same (x ∷ xs) [] h = refl
not_same (x ∷ xs) (y ∷ ys) h = rw (← not_same xs ys (λ e. h (ap suc e)), and-false (eqb x y))

-- what `==` computes
pub same-pointwise : (word name : List ℕ) → pointwise eqb word name ≡ same word name
unfolding same
same-pointwise [] [] = refl
same-pointwise [] (y ∷ ys) = refl
same-pointwise (x ∷ xs) [] = refl
same-pointwise (x ∷ xs) (y ∷ ys) = ap (λ b. eqb x y && b) (same-pointwise xs ys)
