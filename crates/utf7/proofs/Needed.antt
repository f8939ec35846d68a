-- "a run with six or more bits left over holds a letter that nobody needed": the others have just the letters that their units need.
-- Assumes nothing.
use Prim.Native.Nat.{ℕ, ◌+◌, ◌-◌, ◌*◌, ◌%◌, ◌<◌}
use mathlib.Core.Path.{◌≡◌, refl, sym, ap, ◌∙◌}
use mathlib.Core.Bool.{Bool, true, false, true≢false}
use mathlib.Core.List.{List, [], ◌∷◌, ◌++◌, append-nil, map}
use native.Mathlib.Omega.{arith}
use lib.ListN.{length, replicate, length-append, length-map}
use lib.Dec.{ltb, lit<}
use borrow.Author.Tests.{ltb-true}
use Rattle.answer.specs.Lists.{Each}
use Rattle.answer.proofs.Below.{both, cond-case}
use Rattle.bits.specs.Bits.{all_zero, bits_of, groups, full, left_over, filler}
use Rattle.bits.proofs.Groups.{length-bits_of, full-bits, full-left}
use Rattle.alphabet.specs.Letters.{value_of, set_b, slash, letter_of}
use Rattle.alphabet.proofs.Letters.{Sign, slash-sign, letter-value}
use Rattle.reading.specs.Reading.{Does, give, go, bad, Ending, Reading, accepted, on_read, read_from, reading}
use Rattle.reading.proofs.Walk.{walk-read, no-fault}
use Rattle.utf7.specs.Rule.{Shift, outside, opening, run, utf7}
use Rattle.utf7.specs.Rule.{may_end, outside_does, end_does, low_does, byte_does, ends_in}
use Rattle.utf7.specs.Writing.{letters}
use Rattle.utf7.specs.Needed.{letters_first, Needed, OnRun, RunsNeeded}
use Rattle.utf7.proofs.Round.{Letters, whole_run}

-- zeros that fill the last group of six, and are fewer than six, are the filler
zeros : (bs : List Bool) (n : ℕ) → all_zero bs ≡ true → length bs ≡ n → bs ≡ replicate n false
unfolding all_zero
zeros [] n z e = rw (← e)
zeros (true ∷ bs) n z e = absurd (true≢false (sym z))
zeros (false ∷ bs) n z e = rw (← e, ← zeros bs (length bs) z refl)

left-filler : (bs left : List Bool) → all_zero left ≡ true → length left < 6 → (length bs + length left) % 6 ≡ 0 → left ≡ filler 6 bs
unfolding filler
left-filler bs left z few e = zeros left ((6 - length bs % 6) % 6) z (omega arith)

-- of either alphabet
module _ (last : ℕ) (s : Sign last) where
  -- letters are those of their values
  values_low : (ls : List ℕ) → Letters last ls → Each (λ x. x < 64) (map (value_of last) ls)
  unfolding set_b
  values_low [] h = tt
  values_low (b ∷ ls) h = (ltb-true (value_of last b) 64 h.0, values_low ls h.1)

  letters-back : (ls : List ℕ) → Letters last ls → map (letter_of last) (map (value_of last) ls) ≡ ls
  letters-back [] h = refl
  letters-back (b ∷ ls) h = rw (letter-value last s b h.0, letters-back ls h.1)

  -- letters that hold units and a few zeros
  pub letters-needed :
      (ls units : List ℕ) (left : List Bool) → Letters last ls → bits_of 6 (map (value_of last) ls) ≡ bits_of 16 units ++ left → all_zero left ≡ true →
      length left < 6 → letters last (bits_of 16 units) ≡ ls
  unfolding letters
  letters-needed ls units left h whole z few =
      let xs = map (value_of last) ls in
      let sizes : length ls * 6 ≡ length units * 16 + length left = omega (arith, simp (length-append, length-bits_of, length-map) at (ap length whole)) in
      let f : left ≡ filler 6 (bits_of 16 units) = left-filler (bits_of 16 units) left z few (rw length-bits_of (omega (arith, sizes))) in
      rw (← f, ← whole, ← append-nil (bits_of 6 xs), full-bits 6 (lit< tt) xs [] (values_low ls h) (lit< tt)) (letters-back ls h)

-- the bits of a run's letters
abbrev run_bits : List ℕ → List Bool
run_bits ls = bits_of 6 (map (value_of slash) ls)

-- where a run is over: at the end, or before a byte that is no letter
abbrev Over : List ℕ → Type 0
Over [] = Unit
Over (b ∷ bs) = set_b slash b ≡ false

-- only a run that may end is accepted
abbrev Well : List Bool → Ending → Type 0
Well f e = e ≡ accepted → may_end f ≡ true

run_ends : (size : ℕ) (f : List Bool) → Well f (ends_in size (run f))
unfolding ends_in
run_ends size f = cond-case (Well f) (may_end f) (λ t _. t) (λ _ k. no-fault _ _ k)

byte-ends : (b : ℕ) (at : ℕ) (f : List Bool) (rest : Shift → Reading) → set_b slash b ≡ false → Well f (on_read (byte_does (run f) b) at rest).ending
unfolding byte_does low_does end_does
byte-ends b at f rest o =
    let P : Does Shift → Type 0 = λ m. Well f (on_read m at rest).ending in
    cond-case P (ltb b 128) (λ _. rw o (cond-case P (may_end f) (λ t _. t) (λ _ k. no-fault _ _ k))) (λ _ k. no-fault _ _ k)

ends-well : (rest : List ℕ) (at : ℕ) (f : List Bool) → Over rest → Well f (read_from utf7 rest at (run f)).ending
unfolding read_from
ends-well [] at f o = run_ends at f
ends-well (b ∷ rest) at f o = byte-ends b at f (read_from utf7 rest (at + 1)) o

-- a run that is read from outside to its end, which is accepted
run-letters-needed :
    (ls rest : List ℕ) (at : ℕ) → 0 < length ls → Letters slash ls → Over rest →
    (read_from utf7 (43 ∷ (ls ++ rest)) at outside).ending ≡ accepted → Needed ls
unfolding may_end
run-letters-needed ls rest at some h o a =
    let bs = run_bits ls in
    let w = walk-read (whole_run ls some h) rest at (at + length (43 ∷ ls)) refl in
    let e : may_end (left_over 16 bs) ≡ true = ends-well rest _ (left_over 16 bs) o (ap (λ (r : Reading). r.ending) (sym w) ∙ a) in
    let f = both (all_zero (left_over 16 bs)) _ e in
    letters-needed slash slash-sign ls (full 16 bs) (left_over 16 bs) h (sym (full-left 16 bs)) f.0 (ltb-true _ _ f.1)

-- the letters behind a sign, and what ends them
record Behind (bs : List ℕ) : Type 0 where
  rest : List ℕ
  whole : letters_first bs ++ rest ≡ bs
  all : Letters slash (letters_first bs)
  over : Over rest

behind : (bs : List ℕ) → Behind bs
unfolding letters_first
behind [] = record { rest = []; whole = refl; all = tt; over = tt }
behind (b ∷ bs) = told (set_b slash b) refl (behind bs)
  where
    told : (t : Bool) → set_b slash b ≡ t → Behind bs → Behind (b ∷ bs)
    told true e r = record { rest = r.rest; whole = rw (e, r.whole); all = rw e (e, r.all); over = r.over }
    told false e r = record { rest = b ∷ bs; whole = rw e; all = rw e tt; over = e }

opened-by :
    (ls rest : List ℕ) (at : ℕ) → Letters slash ls → Over rest →
    (read_from utf7 (ls ++ rest) (at + 1) opening).ending ≡ accepted → Needed ls
unfolding read_from byte_does low_does outside_does letters bits_of full groups filler
opened-by [] rest at h o a = refl
opened-by (b ∷ ls) rest at h o a = run-letters-needed (b ∷ ls) rest at (omega arith) h o a

needed-does :
    (m : Does Shift) (bs : List ℕ) (at : ℕ) →
    ((shift : Shift) → (read_from utf7 bs (at + 1) shift).ending ≡ accepted → RunsNeeded bs shift) →
    (on_read m at (read_from utf7 bs (at + 1))).ending ≡ accepted → OnRun m bs (RunsNeeded bs)
needed-does (give v shift) bs at ih a = ih shift a
needed-does (go outside) bs at ih a = (tt, ih outside a)
needed-does (go opening) bs at ih a =
    let r = behind bs in
    (opened-by (letters_first bs) r.rest at r.all r.over (rw r.whole a), ih opening a)
needed-does (go (run pending)) bs at ih a = (tt, ih (run pending) a)
needed-does (bad k) bs at ih a = no-fault k at a

needed-from :
    (bs : List ℕ) (at : ℕ) (shift : Shift) → (read_from utf7 bs at shift).ending ≡ accepted → RunsNeeded bs shift
unfolding read_from RunsNeeded
needed-from [] at shift a = tt
needed-from (b ∷ bs) at shift a = needed-does (byte_does shift b) bs at (needed-from bs (at + 1)) a

-- every run of an accepted text, wherever it stands, has exactly the letters that its units need
pub runs-needed : (text : List ℕ) → (reading utf7 text).ending ≡ accepted → RunsNeeded text outside
unfolding reading
runs-needed text a = needed-from text 0 outside a
