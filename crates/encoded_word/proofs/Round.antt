-- What is written as a subject line reads back as the same units. Assumes nothing.
use Prim.Native.Nat.{ℕ, zero, suc, ◌+◌, ◌-◌, ◌*◌, ◌/◌, ◌%◌, ◌^◌, ◌<◌, ◌≤◌}
use mathlib.Core.Path.{◌≡◌, refl, sym, ap, ◌∙◌, subst}
use mathlib.Core.Bool.{Bool, true, false, cond, not, ◌&&◌, ◌||◌, false≢true}
use mathlib.Core.List.{List, [], ◌∷◌, ◌++◌, append_assoc, append-nil, map}
use native.Mathlib.Omega.{arith}
use native.Mathlib.Nat.{add_assoc, add-zero, zero-add}
use lib.ListN.{length, get_or, take, drop, length-append}
use lib.Dec.{ltb, leb, eqb, lit<}
use borrow.Author.Tests.{ltb-true, ltb-false, leb-true, eqb-true, lt-ltb, le-leb, ne_eqb, eqb-false}
use Rattle.answer.specs.Lists.{Each}
use Rattle.answer.proofs.Below.{cond-case, both, all_below, below}
use Rattle.reading.specs.Reading.{Does, give, go, bad, accepted, Rule, reading}
use Rattle.reading.proofs.Walk.{Walk, stay, gives, goes, walk-on, walk-whole}
use Rattle.utf7.specs.Sets.{member}
use Rattle.utf7.specs.Rule.{Shift, outside, utf7, byte_does}
use Rattle.utf7.specs.Rule.{ends_in as utf7-ends_in}
use Rattle.utf7.specs.Writing.{IsUnit, writing}
use Rattle.utf7.specs.declared.Style.TheVariants.{Header}
use Rattle.utf7.proofs.Round.{writing-walk}
use Rattle.answer.specs.Bytes.{bytes}
use Rattle.alphabet.specs.Letters.{within}
use Rattle.parsing.specs.Digits.{digit, value_of, digits}
use Rattle.parsing.proofs.Digits.{value-digit}
use Rattle.encoded_word.specs.Writing.{itself, spelled, q_text, word_start, word_end, joint, word_of, fits, greatest}
use Rattle.encoded_word.specs.Writing.{share_of, may_take, shares, joined, line_of}
use Rattle.encoded_word.specs.Rule.{Part, start, head, text, equals, half, tail, behind, most, fed, at_equals}
use Rattle.encoded_word.specs.Rule.{text_does, part_does, ends_in, subject}

-- the last character of a byte's spelling feeds that byte, and leads on
abbrev Last : ℕ → ℕ → Shift → List ℕ → Part Shift → Type 0
Last n b st cs end =
    (from : Part Shift) (c : ℕ) (faulty : ℕ → Does (Part Shift)) →
    part_does utf7 from c ≡ fed n faulty (utf7.byte st b) → Walk subject from (c ∷ []) cs end

abbrev Spelling : ℕ → ℕ → Shift → List ℕ → Part Shift → List ℕ → Type 0
Spelling n b st cs end l = n + length l ≤ most → Last (n + length l) b st cs end → Walk subject (text n st) l cs end

not-member : (x y z : Bool) → not (x || (y || (z || false))) ≡ true → (x ≡ false) × (y ≡ false) × (z ≡ false)
not-member false false false e = (refl, refl, refl)
not-member true y z e = absurd (false≢true e)
not-member false true z e = absurd (false≢true e)
not-member false false true e = absurd (false≢true e)

pub itself-apart : (b : ℕ) → itself b ≡ true → (eqb b 61 ≡ false) × (eqb b 63 ≡ false) × (eqb b 95 ≡ false)
unfolding itself
itself-apart b t =
    not-member (eqb b 61) (eqb b 63) (eqb b 95) (both (within 33 126 b) (not (member (bytes "=?_") b)) t).1

module _ (n b : ℕ) (st : Shift) (cs : List ℕ) (end : Part Shift) where
  by-space : b ≡ 32 → Spelling n b st cs end (95 ∷ [])
  unfolding part_does text_does
  by-space e h k = k (text n st) 95 bad (rw (le-leb (n + 1) 63 h, e))

  by_itself : itself b ≡ true → Spelling n b st cs end (b ∷ [])
  unfolding part_does text_does
  by_itself t h k =
      let q = itself-apart b t in
      k (text n st) b bad (rw (q.1, q.0, le-leb (n + 1) 63 h, q.2, t))

  by-pair : b < 256 → Spelling n b st cs end (61 ∷ digits 16 2 b)
  unfolding part_does text_does digits
  by-pair l h k =
      let x : ℕ = b / 16 % 16 in
      let y : ℕ = b / 1 % 16 in
      let hx : x < 16 = omega arith in
      let hy : y < 16 = omega arith in
      let e : 16 * x + y ≡ b = omega arith in
      let one : part_does utf7 (text n st) 61 ≡ go (equals (n + 3) st) = rw (le-leb (n + 3) 63 h) in
      let two : part_does utf7 (equals (n + 3) st) (digit x) ≡ go (half (n + 3) x st) =
      rw (value-digit x hx, lt-ltb x 16 hx) in
      goes one (goes two (k (half (n + 3) x st) (digit y) at_equals (rw (value-digit y hy, lt-ltb y 16 hy, e))))

  spelling : b < 256 → Spelling n b st cs end (spelled b)
  unfolding spelled
  spelling l =
      cond-case (Spelling n b st cs end) (eqb b 32) (λ t. by-space (eqb-true b 32 t))
      (λ _. cond-case (Spelling n b st cs end) (itself b) by_itself (λ _. by-pair l))

-- a byte that UTF-7 takes is below 128
abbrev Taken : Does Shift → Type 0
Taken (give v st) = Unit
Taken (go st) = Unit
Taken (bad k) = ⊥

low_byte : (st : Shift) (b : ℕ) (m : Does Shift) → utf7.byte st b ≡ m → Taken m → b < 256
unfolding byte_does
low_byte st b m e t =
    cond-case (λ (x : Does Shift). Taken x → b < 256) (ltb b 128) (λ y _. omega (arith, ltb-true b 128 y))
    (λ _ z. absurd z) (subst Taken (sym e) t)

-- the Q text of bytes feeds them all
module _ (b : ℕ) (bs : List ℕ) (n : ℕ) (st : Shift) where
  q-byte :
      (cs cs' : List ℕ) (st' end : Shift) → b < 256 → n + length (q_text (b ∷ bs)) ≤ most →
      Last (n + length (spelled b)) b st cs (text (n + length (spelled b)) st') →
      (let m = n + length (spelled b) in m + length (q_text bs) ≤ most →
      Walk subject (text m st') (q_text bs) cs' (text (m + length (q_text bs)) end)) →
      Walk subject (text n st) (q_text (b ∷ bs)) (cs ++ cs') (text (n + length (q_text (b ∷ bs))) end)
  unfolding q_text
  q-byte cs cs' st' end l h k w =
      let t : length (spelled b ++ q_text bs) ≡ length (spelled b) + length (q_text bs) =
      length-append (spelled b) (q_text bs) in
      let m : ℕ = n + length (spelled b) in
      let i : n + length (spelled b ++ q_text bs) ≡ m + length (q_text bs) = omega arith in
      rw i (walk-on (spelling n b st cs (text m st') l (omega arith) k) (w (omega arith)))

q-walk :
    {st end : Shift} {bs cs : List ℕ} → Walk utf7 st bs cs end → (n : ℕ) → n + length (q_text bs) ≤ most →
    Walk subject (text n st) (q_text bs) cs (text (n + length (q_text bs)) end)
unfolding q_text
q-walk stay n h = rw add-zero stay
q-walk {end = end} (gives {st = st} {st' = st'} {b = b} {v = v} {bs = bs} {cs = cs} e w) n h =
    q-byte b bs n st (v ∷ []) cs st' end (low_byte st b (give v st') e tt) h
    (λ from c f q. gives (q ∙ ap (fed (n + length (spelled b)) f) e) stay) (q-walk w (n + length (spelled b)))
q-walk {end = end} (goes {st = st} {st' = st'} {b = b} {bs = bs} {cs = cs} e w) n h =
    q-byte b bs n st [] cs st' end (low_byte st b (go st') e tt) h
    (λ from c f q. goes (q ∙ ap (fed (n + length (spelled b)) f) e) stay) (q-walk w (n + length (spelled b)))

-- the bytes of `=?utf-7?Q?`, of `?=`, of CR LF SP
pub start-walk : Walk subject start word_start [] (text 0 outside)
unfolding part_does
start-walk =
    goes refl (goes refl
    (goes refl (goes refl (goes refl (goes refl (goes refl (goes refl (goes refl (goes refl stay)))))))))

pub head_walk : Walk subject (head word_start) word_start [] (text 0 outside)
unfolding part_does
head_walk =
    goes refl (goes refl
    (goes refl (goes refl (goes refl (goes refl (goes refl (goes refl (goes refl (goes refl stay)))))))))

pub joint-walk : Walk subject behind joint [] (head word_start)
unfolding part_does
joint-walk = goes refl (goes refl (goes refl stay))

end-walk : (n : ℕ) → 0 < n → Walk subject (text n outside) word_end [] behind
unfolding part_does text_does utf7-ends_in
end-walk n h =
    let one : part_does utf7 (text n outside) 63 ≡ go tail = rw (ne_eqb n 0 (λ e. omega arith)) in
    goes one (goes refl stay)

-- a walk has a byte for every cell
walk-few : {S : Type 0} {rule : Rule S} {st end : S} {bs cs : List ℕ} → Walk rule st bs cs end → length cs ≤ length bs
walk-few stay = omega arith
walk-few (gives e w) = omega (arith, walk-few w)
walk-few (goes e w) = omega (arith, walk-few w)

-- a word that fits is read as its units, from the line's start or from between words
module _ (us : List ℕ) (some : 0 < length us) (units : Each IsUnit us) (h : fits us ≡ true) where
  word-walk :
      (from : Part Shift) → Walk subject from word_start [] (text 0 outside) → Walk subject from (word_of us) us behind
  unfolding word_of fits
  word-walk from w =
      let q : List ℕ = q_text (writing Header us) in
      let few : length q ≤ most = omega (arith, leb-true (length (word_of us)) 75 h, length-append q word_end) in
      let inner = q-walk (writing-walk Header tt us units) 0 (omega arith) in
      rw append-nil at (walk-on w (walk-on inner (end-walk (0 + length q) (omega (arith, walk-few inner)))))

-- what shares of units must be
abbrev pub Good : List ℕ → Type 0
Good us = (0 < length us) × Each IsUnit us × (fits us ≡ true)

abbrev pub flat : List (List ℕ) → List ℕ
flat [] = []
flat (us ∷ rest) = us ++ flat rest

-- a line of such words, "however units are shared among them"
line_walk :
    (from : Part Shift) → Walk subject from word_start [] (text 0 outside) → (us : List ℕ) (rest : List (List ℕ)) →
    Each Good (us ∷ rest) → Walk subject from (joined (map word_of (us ∷ rest))) (flat (us ∷ rest)) behind
unfolding joined
line_walk from w us [] g = rw append-nil (word-walk us g.0.0 g.0.1 g.0.2 from w)
line_walk from w us (vs ∷ rest) g =
    walk-on (word-walk us g.0.0 g.0.1 g.0.2 from w)
    (walk-on joint-walk (line_walk (head word_start) head_walk vs rest g.1))

pub line_reads :
    (shared : List (List ℕ)) → Each Good shared →
    reading subject (joined (map word_of shared)) ≡ record { cells = flat shared; ending = accepted }
unfolding ends_in joined
line_reads [] g = walk-whole stay (λ size. refl)
line_reads (us ∷ rest) g = walk-whole (line_walk start start-walk us rest g) (λ size. refl)
