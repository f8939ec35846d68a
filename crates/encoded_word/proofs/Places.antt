-- 21 stands at "the first byte no such line can have there, or the length". Assumes nothing.
use Prim.Native.Nat.{ℕ, zero, suc, ◌+◌, ◌-◌, ◌*◌, ◌<◌, ◌≤◌}
use mathlib.Core.Path.{◌≡◌, refl, sym, ap, ◌∙◌}
use mathlib.Core.Bool.{Bool, true, false, cond}
use mathlib.Core.List.{List, [], ◌∷◌, ◌++◌}
use native.Mathlib.Omega.{arith}
use lib.ListN.{length}
use lib.Dec.{ltb, leb, eqb, lit<, lit≤}
use borrow.Author.Tests.{ltb-true, leb-true, eq-eqb, ne_eqb}
use Rattle.answer.proofs.Below.{cond-case}
use Rattle.reading.specs.Reading.{Does, give, go, bad, Ending, accepted, fault, Rule, Reading, on_read, read_from}
use Rattle.reading.specs.Reading.{reading}
use Rattle.answer.specs.Bytes.{bytes}
use Rattle.parsing.specs.Parsing.{FirstFault}
use Rattle.parsing.specs.Digits.{value_of}
use Rattle.encoded_word.specs.Writing.{itself, word_start}
use Rattle.encoded_word.specs.Rule.{Part, start, head, text, equals, half, tail, behind, faulty, most, fed}
use Rattle.encoded_word.specs.Rule.{at_equals, text_does, part_does, ended, ends_in, line_rule, any_text}
use Rattle.encoded_word.proofs.Alive.{Alive, Goes, first-fault}
use Rattle.encoded_word.proofs.Faulty.{faulty-reads}

abbrev words : Rule (Part Unit)
words = line_rule any_text

-- states of a line that can go on
abbrev Open : Part Unit → Type 0
Open start = Unit
Open (head []) = ⊥
Open (head (x ∷ xs)) = Unit
Open (text n st) = n ≤ most
Open (equals n st) = (0 < n) × (n ≤ most)
Open (half n d st) = (0 < n) × (n ≤ most)
Open tail = Unit
Open behind = Unit
Open (faulty k back) = ⊥

abbrev GoesOn : Does (Part Unit) → Type 0
GoesOn = Goes words Open

keeps : (p : Part Unit) (b : ℕ) → Open p → GoesOn (part_does any_text p b)
unfolding part_does text_does
keeps start b h = cond-case GoesOn (eqb b 61) (λ _. tt) (λ _. tt)
keeps (head []) b h = tt
keeps (head (x ∷ [])) b h = cond-case GoesOn (eqb b x) (λ _. lit≤ tt) (λ _. tt)
keeps (head (x ∷ y ∷ xs)) b h = cond-case GoesOn (eqb b x) (λ _. tt) (λ _. tt)
keeps (text n st) b h =
    cond-case GoesOn (eqb b 63) (λ _. cond-case GoesOn (eqb n 0) (λ _. tt) (λ _. tt))
    (λ _. cond-case GoesOn (eqb b 61)
    (λ _. cond-case GoesOn (leb (n + 3) most) (λ t. (omega arith, leb-true (n + 3) most t)) (λ _. tt))
    (λ _. cond-case GoesOn (leb (n + 1) most)
    (λ t. cond-case GoesOn (eqb b 95) (λ _. leb-true (n + 1) most t)
    (λ _. cond-case GoesOn (itself b) (λ _. leb-true (n + 1) most t) (λ _. tt))) (λ _. tt)))
keeps (equals n st) b h = cond-case GoesOn (ltb (value_of b) 16) (λ _. h) (λ _. tt)
keeps (half n d st) b h = cond-case GoesOn (ltb (value_of b) 16) (λ _. h.1) (λ _. tt)
keeps tail b h = cond-case GoesOn (eqb b 61) (λ _. tt) (λ _. tt)
keeps behind b h = cond-case GoesOn (eqb b 13) (λ _. tt) (λ _. tt)
keeps (faulty k back) b h = absurd h

-- a way on to an accepted line
abbrev Way : Part Unit → Type 0
Way p = (bs : List ℕ) × ((at : ℕ) → (read_from words bs at p).ending ≡ accepted)

text-way : (n : ℕ) (st : Unit) → Way (text n st)
unfolding read_from part_does text_does itself ends_in
text-way zero st = (bytes "a?=", (λ at. refl))
text-way (suc n) st = (bytes "?=", (λ at. rw (ne_eqb (suc n) 0 (λ e. omega arith))))

head-way : (x : ℕ) (xs : List ℕ) → Way (head (x ∷ xs))
unfolding read_from part_does
head-way x [] =
    let w = text-way 0 tt in
    (x ∷ w.0, (λ at. rw (eq-eqb x x refl) (w.1 (at + 1))))
head-way x (y ∷ xs) =
    let w = head-way y xs in
    (x ∷ w.0, (λ at. rw (eq-eqb x x refl) (w.1 (at + 1))))

leads : (p : Part Unit) → Open p → Way p
unfolding read_from part_does text_does value_of ends_in
leads start h = ([], (λ at. refl))
leads (head []) h = absurd h
leads (head (x ∷ xs)) h = head-way x xs
leads (text n st) h = text-way n st
leads (equals n st) h = (bytes "00?=", (λ at. rw (ne_eqb n 0 (λ e. omega (arith, h.0)))))
leads (half n d st) h = (bytes "0?=", (λ at. rw (ne_eqb n 0 (λ e. omega (arith, h.0)))))
leads tail h = (bytes "=", (λ at. refl))
leads behind h = ([], (λ at. refl))
leads (faulty k back) h = absurd h

ends : (size : ℕ) (p : Part Unit) (k place : ℕ) → Open p → ends_in size p ≡ fault k place → place ≡ size
unfolding ends_in
ends size start k place h e = cc
ends size (head xs) k place h e = cc
ends size (text n st) k place h e = cc
ends size (equals n st) k place h e = cc
ends size (half n d st) k place h e = cc
ends size tail k place h e = cc
ends size behind k place h e = cc
ends size (faulty j back) k place h e = absurd h

-- a line that is refused for its words is refused at the first byte that no line of words can have there
pub first-bad :
    (line : List ℕ) (k place : ℕ) → (reading words line).ending ≡ fault k place →
    FirstFault (λ (_ : Unit {0}) l. (reading words l).ending ≡ accepted) line place
first-bad = first-fault words (record { keeps = keeps; leads = leads; ends = ends }) tt

-- the same line without its text's reader
module _ {S : Type 0} (inner : Rule S) where
  abbrev bare : Part S → Part Unit
  bare start = start
  bare (head xs) = head xs
  bare (text n st) = text n tt
  bare (equals n st) = equals n tt
  bare (half n d st) = half n d tt
  bare tail = tail
  bare behind = behind
  bare (faulty k back) = faulty k back

  -- what a byte does with it and without: as much, unless the reader itself finds a fault
  data Alike : Does (Part S) → Does (Part Unit) → Type 0 where
    gives : {v w : ℕ} {p : Part S} {q : Part Unit} → bare p ≡ q → Alike (give v p) (give w q)
    takes : {w : ℕ} {p : Part S} {q : Part Unit} → bare p ≡ q → Alike (go p) (give w q)
    goes : {p : Part S} {q : Part Unit} → bare p ≡ q → Alike (go p) (go q)
    both : {k : ℕ} → Alike (bad k) (bad k)
    own : {k : ℕ} {m : Does (Part Unit)} → k < 21 → Alike (bad k) m
    owned : {k j : ℕ} {m : Does (Part Unit)} → k < 21 → Alike (go (faulty k j)) m

  alike-cond :
      (t : Bool) {a b : Does (Part S)} {c d : Does (Part Unit)} → Alike a c → Alike b d →
      Alike (cond t a b) (cond t c d)
  alike-cond true x y = x
  alike-cond false x y = y

  -- the reader's own numbers are other than 21
  abbrev pub Below21 : Does S → Type 0
  Below21 (give v st) = Unit
  Below21 (go st) = Unit
  Below21 (bad k) = k < 21

  abbrev pub EndBelow21 : Ending → Type 0
  EndBelow21 accepted = Unit
  EndBelow21 (fault k place) = k < 21

  alike-char : (n b : ℕ) (m : Does S) → Below21 m → Alike (fed n bad m) (give b (text n tt))
  alike-char n b (give v st) h = gives refl
  alike-char n b (go st) h = takes refl
  alike-char n b (bad k) h = own h

  alike-pair : (n b : ℕ) (m : Does S) → Below21 m → Alike (fed n at_equals m) (give b (text n tt))
  alike-pair n b (give v st) h = gives refl
  alike-pair n b (go st) h = takes refl
  alike-pair n b (bad k) h = owned h

  alike_end : (e : Ending) → EndBelow21 e → Alike (ended e) (go tail)
  alike_end accepted h = goes refl
  alike_end (fault k place) h = own h

  module _ (others : (st : S) (b : ℕ) → Below21 (inner.byte st b)) (at-end : (st : S) → EndBelow21 (inner.end 0 st)) where
    alike : (p : Part S) (b : ℕ) → Alike (part_does inner p b) (part_does any_text (bare p) b)
    unfolding part_does text_does
    alike start b = alike-cond (eqb b 61) (goes refl) both
    alike (head []) b = both
    alike (head (x ∷ [])) b = alike-cond (eqb b x) (goes refl) both
    alike (head (x ∷ y ∷ xs)) b = alike-cond (eqb b x) (goes refl) both
    alike (text n st) b =
        alike-cond (eqb b 63) (alike-cond (eqb n 0) both (alike_end (inner.end 0 st) (at-end st)))
        (alike-cond (eqb b 61) (alike-cond (leb (n + 3) most) (goes refl) both)
        (alike-cond (leb (n + 1) most)
        (alike-cond (eqb b 95) (alike-char (n + 1) 32 (inner.byte st 32) (others st 32))
        (alike-cond (itself b) (alike-char (n + 1) b (inner.byte st b) (others st b)) both)) both))
    alike (equals n st) b = alike-cond (ltb (value_of b) 16) (goes refl) both
    alike (half n d st) b =
        alike-cond (ltb (value_of b) 16)
        (alike-pair n (16 * d + value_of b) (inner.byte st (16 * d + value_of b)) (others st (16 * d + value_of b))) both
    alike tail b = alike-cond (eqb b 61) (goes refl) both
    alike behind b = alike-cond (eqb b 13) (goes refl) both
    alike (faulty k back) b = goes refl

    alike-ends : (size : ℕ) (p : Part S) → ends_in size p ≡ ends_in size (bare p)
    unfolding ends_in
    alike-ends size start = refl
    alike-ends size (head xs) = refl
    alike-ends size (text n st) = refl
    alike-ends size (equals n st) = refl
    alike-ends size (half n d st) = refl
    alike-ends size tail = refl
    alike-ends size behind = refl
    alike-ends size (faulty k back) = refl

    other : {X : Type 0} (k i place : ℕ) → k < 21 → fault k i ≡ fault 21 place → X
    other k i place h e =
        let z : k ≡ 21 = cc in
        absurd (omega arith)

    alike_read :
        {m : Does (Part S)} {m' : Does (Part Unit)} → Alike m m' →
        (at place : ℕ) (rest : Part S → Reading) (rest' : Part Unit → Reading) →
        ((p : Part S) → (rest p).ending ≡ fault 21 place → (rest' (bare p)).ending ≡ fault 21 place) →
        ((k j : ℕ) → (rest (faulty k j)).ending ≡ fault k (at + 1 - j)) →
        (on_read m at rest).ending ≡ fault 21 place → (on_read m' at rest').ending ≡ fault 21 place
    alike_read (gives {p = p} q) at place rest rest' ih still e = rw (← q) (ih p e)
    alike_read (takes {p = p} q) at place rest rest' ih still e = rw (← q) (ih p e)
    alike_read (goes {p = p} q) at place rest rest' ih still e = rw (← q) (ih p e)
    alike_read both at place rest rest' ih still e = e
    alike_read (own {k = k} h) at place rest rest' ih still e = other k at place h e
    alike_read (owned {k = k} {j = j} h) at place rest rest' ih still e =
        other k (at + 1 - j) place h (sym (still k j) ∙ e)

    same_from :
        (bs : List ℕ) (at place : ℕ) (p : Part S) → (read_from (line_rule inner) bs at p).ending ≡ fault 21 place →
        (read_from words bs at (bare p)).ending ≡ fault 21 place
    unfolding read_from
    same_from [] at place p e = sym (alike-ends at p) ∙ e
    same_from (b ∷ bs) at place p e =
        alike_read (alike p b) at place (read_from (line_rule inner) bs (at + 1)) (read_from words bs (at + 1))
        (same_from bs (at + 1) place) (λ k j. ap (λ (r : Reading). r.ending) (faulty-reads inner bs (at + 1) k j)) e

    -- "21 (bad word, at the first byte no such line can have there, or the length)"
    pub first-21 :
        (line : List ℕ) (place : ℕ) → (reading (line_rule inner) line).ending ≡ fault 21 place →
        FirstFault (λ (_ : Unit {0}) l. (reading words l).ending ≡ accepted) line place
    unfolding reading
    first-21 line place e = first-bad line 21 place (same_from line 0 place start e)
