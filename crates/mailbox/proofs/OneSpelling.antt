-- "A name has one spelling only": writing what an accepted name reads as gives that very name. Assumes nothing.
use Prim.Native.Nat.{ℕ, ◌+◌, ◌*◌, ◌<◌, ◌≤◌}
use mathlib.Core.Path.{◌≡◌, refl, sym, ap, ◌∙◌}
use mathlib.Core.Bool.{Bool, true, false, cond, true≢false}
use mathlib.Core.List.{List, [], ◌∷◌, ◌++◌, append_assoc, append-nil, map}
use native.Mathlib.Omega.{arith}
use lib.ListN.{length, take, drop, length-append, length-map, take-append-drop}
use lib.Seq.{length-take-le}
use lib.Dec.{ltb, eqb}
use borrow.Author.Tests.{ltb-true, ltb-false, eqb-true, ne_eqb}
use Rattle.answer.specs.Lists.{Each}
use Rattle.answer.proofs.Below.{cond-case}
use Rattle.bits.specs.Bits.{bits, number, all_zero, bits_of}
use Rattle.bits.proofs.Bits as bit
use Rattle.bits.proofs.Bits.{length-bits}
use Rattle.bits.proofs.Groups.{length-bits_of}
use Rattle.alphabet.specs.Letters.{value_of, set_b, comma}
use Rattle.alphabet.proofs.Letters.{comma-sign}
use Rattle.reading.specs.Reading.{Does, give, bad, accepted, Reading, on_read, read_from, reading}
use Rattle.reading.proofs.Walk.{no-fault}
use Rattle.utf7.specs.Sets.{printable, own}
use Rattle.utf7.specs.Writing.{Piece, self, sign, stretch, extend, pieces, letters, spell, spell_all, writing}
use Rattle.utf7.specs.declared.Style.TheVariants.{Name}
use Rattle.utf7.proofs.Pieces.{Unstretched}
use Rattle.utf7.proofs.Round.{Letters}
use Rattle.utf7.proofs.Needed.{letters-needed}
use Rattle.mailbox.specs.Rule.{Shift, outside, opening, run, outside_does, gives_unit, unit_does, close_does, low_does, byte_does, ends_in, mailbox}
use Rattle.mailbox.proofs.Round.{Other, Clear}

-- what stands for itself, and the ampersand
self-piece : (b : ℕ) (us : List ℕ) → eqb b 38 ≡ false → printable b ≡ true → pieces Name (b ∷ us) ≡ self b ∷ pieces Name us
unfolding pieces own
self-piece b us n p = simp (n, p)

sign-piece : (us : List ℕ) → pieces Name (38 ∷ us) ≡ sign ∷ pieces Name us
unfolding pieces own
sign-piece us = refl

-- other units, before pieces that do not begin with a stretch, are one stretch
other-piece : (u : ℕ) (us : List ℕ) → Other u → pieces Name (u ∷ us) ≡ extend u (pieces Name us)
unfolding pieces own
other-piece u us o = simp (o, ne_eqb u 38 (λ e. true≢false (ap printable (sym e) ∙ o)))

extend-clear : (u : ℕ) (ps : List Piece) → Unstretched ps → extend u ps ≡ stretch (u ∷ []) ∷ ps
extend-clear u [] h = refl
extend-clear u (self v ∷ ps) h = refl
extend-clear u (sign ∷ ps) h = refl
extend-clear u (stretch us ∷ ps) h = absurd h

stretch-piece :
    (us later : List ℕ) → 0 < length us → Each Other us → Unstretched (pieces Name later) → pieces Name (us ++ later) ≡ stretch us ∷ pieces Name later
stretch-piece [] later some o c = absurd (omega arith)
stretch-piece (u ∷ []) later some o c = other-piece u later o.0 ∙ extend-clear u (pieces Name later) c
stretch-piece (u ∷ v ∷ us) later some o c =
    other-piece u (v ∷ (us ++ later)) o.0 ∙ ap (extend u) (stretch-piece (v ∷ us) later (omega arith) o.1 c)

-- letters behind pending bits, the other units that they hold, and the bits left over
record Held (pending : List Bool) (ls units : List ℕ) (left : List Bool) : Type 0 where
  set : Letters comma ls
  others : Each Other units
  whole : pending ++ bits_of 6 (map (value_of comma) ls) ≡ bits_of 16 units ++ left

-- where a run may be closed, and what may stand behind it
record Closes (left : List Bool) (later : List ℕ) : Type 0 where
  zero : all_zero left ≡ true
  few : length left < 6
  behind : Unstretched (pieces Name later)

held-letter :
    (b : ℕ) (pending left : List Bool) (ls units : List ℕ) → set_b comma b ≡ true → Held (pending ++ bits 6 (value_of comma b)) ls units left →
    Held pending (b ∷ ls) units left
unfolding bits_of
held-letter b pending left ls units h c =
    record {
      set = (h, c.set);
      others = c.others;
      whole = sym (append_assoc pending (bits 6 (value_of comma b)) (bits_of 6 (map (value_of comma) ls))) ∙ c.whole;
    }

held-unit :
    (bs left : List Bool) (ls units : List ℕ) → 16 ≤ length bs → Other (number (take 16 bs)) → Held (drop 16 bs) ls units left →
    Held bs ls (number (take 16 bs) ∷ units) left
unfolding bits_of
held-unit bs left ls units g o c =
    let more = bits_of 6 (map (value_of comma) ls) in
    let e : bits 16 (number (take 16 bs)) ≡ take 16 bs = bit.spelled (take 16 bs) 16 (number (take 16 bs)) (length-take-le 16 bs g) refl in
    record {
      set = c.set;
      others = (o, c.others);
      whole = rw (e, append_assoc (take 16 bs) (bits_of 16 units) left, ← c.whole, ← append_assoc (take 16 bs) (drop 16 bs) more, take-append-drop 16 bs);
    }

-- a whole run is written as it stood
module _ (left : List Bool) (ls units later : List ℕ) (c : Held [] ls units left) (k : Closes left later) where
  sizes : length ls * 6 ≡ length units * 16 + length left
  sizes = omega (arith, simp (length-append, length-bits_of, length-map) at (ap length c.whole))

  run-letters : letters comma (bits_of 16 units) ≡ ls
  run-letters = letters-needed comma comma-sign ls units left c.set c.whole k.zero k.few

  run-written : 0 < length ls → writing Name (units ++ later) ≡ 38 ∷ (ls ++ 45 ∷ writing Name later)
  unfolding writing spell_all spell
  run-written some =
      rw (stretch-piece units later (omega (arith, sizes, k.few)) c.others k.behind, run-letters, append_assoc ls (45 ∷ []) (spell_all Name (pieces Name later)))

-- bytes read in a run with pending bits, and the cells that they give: the rest of the run, and the spelling of later cells
data Runs (pending : List Bool) : List ℕ → List ℕ → Type 0 where
  closing : {left : List Bool} {ls units later : List ℕ} → Held pending ls units left → Closes left later → Runs pending (ls ++ 45 ∷ writing Name later) (units ++ later)

runs-letter :
    {bs us : List ℕ} (pending : List Bool) (b : ℕ) → set_b comma b ≡ true → Runs (pending ++ bits 6 (value_of comma b)) bs us → Runs pending (b ∷ bs) us
runs-letter pending b s (closing {left} {ls} {units} c k) = closing {ls = b ∷ ls} (held-letter b pending left ls units s c) k

runs-unit : {bs us : List ℕ} (q : List Bool) → 16 ≤ length q → Other (number (take 16 q)) → Runs (drop 16 q) bs us → Runs q bs (number (take 16 q) ∷ us)
runs-unit q g o (closing {left} {ls} {units} c k) = closing {units = number (take 16 q) ∷ units} (held-unit q left ls units g o c) k

runs-minus : (pending : List Bool) (us : List ℕ) → Closes pending us → Runs pending (45 ∷ writing Name us) us
unfolding bits_of
runs-minus pending us k = closing {ls = []} {units = []} (record { set = tt; others = tt; whole = append-nil pending }) k

run-spelled : {bs us : List ℕ} (b : ℕ) → set_b comma b ≡ true → Runs (bits 6 (value_of comma b)) bs us → writing Name us ≡ 38 ∷ b ∷ bs
run-spelled b s (closing {left} {ls} {units} {later} c k) =
    run-written left (b ∷ ls) units later (held-letter b [] left ls units s c) k (omega arith)

-- what the bytes from a state on are, by the cells that they give
abbrev Spells : Shift → List ℕ → List ℕ → Type 0
Spells (outside after) bs us = (writing Name us ≡ bs) × Clear after (pieces Name us)
Spells (opening after) bs us = (writing Name us ≡ 38 ∷ bs) × Clear after (pieces Name us)
Spells (run pending) bs us = Runs pending bs us

clear_self : (after : Bool) (b : ℕ) (ps : List Piece) → Clear after (self b ∷ ps)
clear_self true b ps = tt
clear_self false b ps = tt

clear-sign : (after : Bool) (ps : List Piece) → Clear after (sign ∷ ps)
clear-sign true ps = tt
clear-sign false ps = tt

-- the readings of bytes, from every state
abbrev SpellsFrom : List ℕ → (Shift → Reading) → Type 0
SpellsFrom bs rest = (shift : Shift) → (rest shift).ending ≡ accepted → Spells shift bs (rest shift).cells

-- one byte, by what the bytes behind it are
module _ (b : ℕ) (bs : List ℕ) (at : ℕ) (rest : Shift → Reading) (ih : SpellsFrom bs rest) where
  abbrev Told : Shift → Does Shift → Type 0
  Told shift m = (on_read m at rest).ending ≡ accepted → Spells shift (b ∷ bs) (on_read m at rest).cells

  outside_told : (after : Bool) → Told (outside after) (outside_does after b)
  unfolding outside_does writing spell_all spell
  outside_told after =
      cond-case (Told (outside after)) (eqb b 38) (λ t h. rw (eqb-true b 38 t) (ih (opening after) h))
      (λ n.
      cond-case (Told (outside after)) (printable b)
      (λ p h. rw (self-piece b (rest (outside false)).cells n p, (ih (outside false) h).0) (refl, clear_self after b _))
      (λ _ h. no-fault _ _ h))

  sign-told : (after : Bool) → Told (opening after) (cond (eqb b 45) (give 38 (outside false)) (bad 2))
  unfolding writing spell_all spell
  sign-told after =
      cond-case (Told (opening after)) (eqb b 45)
      (λ t h. rw (sign-piece (rest (outside false)).cells, (ih (outside false) h).0, eqb-true b 45 t) (refl, clear-sign after _))
      (λ _ h. no-fault _ _ h)

  first-told : set_b comma b ≡ true → Told (opening false) (unit_does (bits 6 (value_of comma b)))
  unfolding unit_does
  first-told s =
      let q = bits 6 (value_of comma b) in
      cond-case (Told (opening false)) (ltb (length q) 16) (λ _ h. (run-spelled b s (ih (run q) h), tt))
      (λ t. absurd (omega (arith, ltb-false (length q) 16 t, length-bits 6 (value_of comma b))))

  unit-told : (pending : List Bool) → set_b comma b ≡ true → Told (run pending) (unit_does (pending ++ bits 6 (value_of comma b)))
  unfolding unit_does gives_unit
  unit-told pending s =
      let q = pending ++ bits 6 (value_of comma b) in
      cond-case (Told (run pending)) (ltb (length q) 16) (λ _ h. runs-letter pending b s (ih (run q) h))
      (λ t.
      cond-case (Told (run pending)) (printable (number (take 16 q))) (λ _ h. no-fault _ _ h)
      (λ o h. runs-letter pending b s (runs-unit q (ltb-false (length q) 16 t) o (ih (run (drop 16 q)) h))))

  close-told : (pending : List Bool) → b ≡ 45 → Told (run pending) (close_does pending)
  unfolding close_does
  close-told pending q =
      cond-case (Told (run pending)) (all_zero pending)
      (λ z.
      cond-case (Told (run pending)) (ltb (length pending) 6)
      (λ l h.
      let s = ih (outside true) h in
      rw (q, ← s.0) (runs-minus pending _ (record { zero = z; few = ltb-true (length pending) 6 l; behind = s.1 })))
      (λ _ h. no-fault _ _ h))
      (λ _ h. no-fault _ _ h)

  low_told : (shift : Shift) → Told shift (low_does shift b)
  unfolding low_does
  low_told (outside after) = outside_told after
  low_told (opening true) = cond-case (Told (opening true)) (set_b comma b) (λ _ h. no-fault _ _ h) (λ _. sign-told true)
  low_told (opening false) = cond-case (Told (opening false)) (set_b comma b) first-told (λ _. sign-told false)
  low_told (run pending) =
      cond-case (Told (run pending)) (set_b comma b) (unit-told pending)
      (λ _. cond-case (Told (run pending)) (eqb b 45) (λ t. close-told pending (eqb-true b 45 t)) (λ _ h. no-fault _ _ h))

  byte-told : (shift : Shift) → Told shift (byte_does shift b)
  unfolding byte_does
  byte-told shift = cond-case (Told shift) (ltb b 128) (λ _. low_told shift) (λ _ h. no-fault _ _ h)

from : (bs : List ℕ) (at : ℕ) → SpellsFrom bs (read_from mailbox bs at)
unfolding read_from ends_in writing pieces spell_all
from [] at (outside true) h = (refl, tt)
from [] at (outside false) h = (refl, tt)
from [] at (opening after) h = no-fault _ _ h
from [] at (run pending) h = no-fault _ _ h
from (b ∷ bs) at shift h = byte-told b bs at (read_from mailbox bs (at + 1)) (from bs (at + 1)) shift h

pub spelled : (text : List ℕ) → (reading mailbox text).ending ≡ accepted → writing Name (reading mailbox text).cells ≡ text
unfolding reading
spelled text h = (from text 0 (outside false) h).0

-- equal units mean equal bytes
pub one-spelling :
    (a b : List ℕ) → (reading mailbox a).ending ≡ accepted → (reading mailbox b).ending ≡ accepted → (reading mailbox a).cells ≡ (reading mailbox b).cells →
    a ≡ b
one-spelling a b h k e = sym (spelled a h) ∙ ap (writing Name) e ∙ spelled b k
