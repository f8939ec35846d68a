-- The grammar's single bytes are the reader's. Assumes nothing.
use Prim.Native.Nat.{ℕ, ◌<◌, ◌≤◌}
use mathlib.Core.Path.{◌≡◌, refl, ◌∙◌}
use mathlib.Core.Bool.{Bool, true, false, cond, ◌&&◌}
use mathlib.Core.List.{[], ◌∷◌}
use native.Mathlib.Omega.{arith}
use lib.Dec.{leb, eqb}
use borrow.Author.Tests.{leb-true, le-leb}
use Rattle.answer.specs.Bytes.{bytes}
use Rattle.answer.specs.Lists.{Each}
use Rattle.answer.proofs.Below.{both}
use Rattle.reading.specs.Reading.{give}
use Rattle.jp2.specs.Rule.{state, graphic, cell_of, single_does, between_does, byte_does}
use Rattle.jp2.specs.Writable.{ascii}
use Rattle.jp2.proofs.Sets.{single, differs, graphic-range}
use Rattle.jp2.proofs.Sends.{phase_of, byte-between}
use Rattle.jp2_grammar.specs.Notation.{Standing, passed, OneOf}
use Rattle.jp2_grammar.specs.Grammar.{one-of-94, single-byte-char}

pub graphic-in : (b : ℕ) → 33 ≤ b → b ≤ 126 → graphic b ≡ true
unfolding graphic
graphic-in b l u = rw (le-leb 33 b l, le-leb b 126 u)

pub one-graphic : {p : Standing} {b : ℕ} → graphic b ≡ true → one-of-94 p (b ∷ []) (passed p)
one-graphic {b = b} h =
    let q = graphic-range b h in
    OneOf.value q.0 q.1

pub ascii-in : (b : ℕ) → b ≤ 127 → Each (λ c. eqb b c ≡ false) (bytes "␛␏␎") → ascii b ≡ true
unfolding ascii
ascii-in b l n = rw (le-leb b 127 l, n.0, n.1.0, n.1.1.0)

pub ascii-most : (c : ℕ) → ascii c ≡ true → c ≤ 127
unfolding ascii
ascii-most c h = leb-true c 127 (both (leb c 127) _ h).0

-- a byte that is neither ESC, SI nor SO, and no LF after CR
pub one_char :
    {p : Standing} {b : ℕ} → ascii b ≡ true → (p.after_return && eqb b 10) ≡ false →
    single-byte-char p (b ∷ []) (record { set = p.set; designated = p.designated; after_return = eqb b 13 })
unfolding ascii
one_char {b = b} h n =
    single-byte-char.char (ascii-most b h) n
    (differs ascii b 27 h refl, (differs ascii b 15 h refl, (differs ascii b 14 h refl, tt)))

-- what it does to the reader, with either single-byte set in G0
pub byte-char :
    (g0 g2 c : ℕ) (cr : Bool) → single g0 ≡ true → ascii c ≡ true →
    byte_does (state g0 g2 (phase_of cr)) c
    ≡ give (cell_of (cond (graphic c) g0 6) c) (state g0 (cond (cr && eqb c 10) 0 g2) (phase_of (eqb c 13)))
unfolding between_does single_does ascii
byte-char g0 g2 c cr s h =
    byte-between g0 g2 cr c (omega (arith, ascii-most c h))
    ∙ simp (differs ascii c 27 h refl, s, differs ascii c 14 h refl, differs ascii c 15 h refl)
