-- Reading goes through what is written, cell by cell, and ends with ASCII in G0. Assumes nothing.
use Prim.Native.Nat.{ℕ, ◌+◌, ◌*◌, ◌/◌, ◌%◌, ◌<◌, ◌≤◌}
use mathlib.Core.Path.{◌≡◌, refl, ◌∙◌}
use mathlib.Core.Bool.{Bool, true, false, cond, ◌&&◌, and-false, and_self_left}
use mathlib.Core.List.{List, [], ◌∷◌}
use native.Mathlib.Omega.{arith}
use native.Mathlib.Nat.{div-add-mod'}
use lib.Dec.{leb, eqb, lit<}
use borrow.Author.Tests.{leb-true, lt-ltb, le-ltb, eqb-true}
use Rattle.answer.specs.Lists.{Each}
use Rattle.answer.proofs.Below.{both, cond-case}
use Rattle.reading.specs.Reading.{give, go, accepted, reading}
use Rattle.reading.proofs.Walk.{Walk, stay, gives, goes, walk-on, walk-whole, Arrives, arrives-on}
use Rattle.jp2.specs.Table.{row_at, begins, sent, first_where, designations, row_of_number}
use Rattle.jp2.specs.Rule.{State, plain, first, shifted, escape, state, graphic, cell_of, single_does, first_does, second_does, between_does, shifted_does, escape_does, byte_does, jp2}
use Rattle.jp2.specs.Writable.{set_of, code_of, pair_set, shift_set, ascii, writable}
use Rattle.jp2.specs.Writing.{Force, force, designating, spell, force_after, write_from, writing}
use Rattle.jp2.proofs.Sets.{Writable, single, differs, graphic-range, graphic-ascii, pair-apart, Kind, of-ascii, of-roman, of_pair, of_shift, kind-of}
use Rattle.jp2.proofs.Sends.{phase_of, byte-between}
use Rattle.jp2.proofs.Rows.{row-found, set_walk}
use Rattle.jp2.proofs.Ends.{Rests, Last, last-ends}

-- what the bytes of a cell do
ascii-low : (c : ℕ) → ascii c ≡ true → c < 128
unfolding ascii
ascii-low c h = omega (arith, leb-true c 127 (both (leb c 127) _ h).0)

pub byte-single :
    (g0 g2 c : ℕ) (cr : Bool) → single g0 ≡ true → ascii c ≡ true → cond (graphic c) g0 6 ≡ g0 →
    byte_does (state g0 g2 (phase_of cr)) c ≡ give (cell_of g0 c) (state g0 (cond (cr && eqb c 10) 0 g2) (phase_of (eqb c 13)))
unfolding between_does single_does ascii
byte-single g0 g2 c cr s h e =
    byte-between g0 g2 cr c (ascii-low c h) ∙ simp (differs ascii c 27 h refl, s, differs ascii c 14 h refl, differs ascii c 15 h refl, e)

module _ (g0 g2 a : ℕ) (h : graphic a ≡ true) where
  pub byte-first : (cr : Bool) → eqb g0 6 ≡ false → eqb g0 14 ≡ false → byte_does (state g0 g2 (phase_of cr)) a ≡ go (state g0 g2 (first a))
  unfolding between_does first_does graphic
  byte-first cr s t = byte-between g0 g2 cr a (omega (arith, graphic-range a h)) ∙ simp (differs graphic a 27 h refl, s, t, h)

  pub byte-second : (b : ℕ) → byte_does (state g0 g2 (first b)) a ≡ give (cell_of g0 (b * 256 + a)) (state g0 g2 plain)
  unfolding byte_does second_does
  byte-second b = simp (lt-ltb a 128 (omega (arith, graphic-range a h)), h)

pub byte-n : (g0 g2 : ℕ) → eqb g2 0 ≡ false → byte_does (state g0 g2 (escape (27 ∷ []))) 78 ≡ go (state g0 g2 shifted)
unfolding byte_does escape_does begins
byte-n g0 g2 e = rw e

pub byte-shifted : (g0 g2 c : ℕ) → 32 ≤ c → c ≤ 127 → byte_does (state g0 g2 shifted) c ≡ give (cell_of g2 c) (state g0 g2 plain)
unfolding byte_does shifted_does
byte-shifted g0 g2 c h k = simp (lt-ltb c 128 (omega arith), le-ltb c 32 h)

-- the reader's state where the writer has sets in force: a CR counts only while ASCII is in G0
abbrev state_of : Force → State
state_of f = state f.g0 f.g2 (phase_of f.cr)

abbrev Fine : Force → Type 0
Fine f = (eqb f.g0 6 && f.cr) ≡ f.cr

module _ (f : Force) (n : ℕ) (known : row_of_number n < 9) where
  designate-g0 :
      (t : Bool) → eqb f.g0 n ≡ t → shift_set n ≡ false →
      Walk jp2 (state_of f) (cond t [] (sent (row_at (row_of_number n)))) [] (state n f.g2 (phase_of (t && f.cr)))
  designate-g0 true e s = rw (← eqb-true f.g0 n e) stay
  designate-g0 false e s = rw s at (set_walk f.g0 f.g2 n f.cr known)

  designate-g2 :
      (t : Bool) → eqb f.g2 n ≡ t → shift_set n ≡ true →
      Walk jp2 (state_of f) (cond t [] (sent (row_at (row_of_number n)))) [] (state f.g0 n (phase_of (t && f.cr)))
  designate-g2 true e s = rw (← eqb-true f.g2 n e) stay
  designate-g2 false e s = rw s at (set_walk f.g0 f.g2 n f.cr known)

  g0-walk : shift_set n ≡ false → Walk jp2 (state_of f) (designating f.g0 n) [] (state n f.g2 (phase_of (eqb f.g0 n && f.cr)))
  unfolding designating
  g0-walk = designate-g0 (eqb f.g0 n) refl

  g2-walk : shift_set n ≡ true → Walk jp2 (state_of f) (designating f.g2 n) [] (state f.g0 n (phase_of (eqb f.g2 n && f.cr)))
  unfolding designating
  g2-walk = designate-g2 (eqb f.g2 n) refl

-- a cell of each kind
module _ (f : Force) where
  abbrev Spelled : ℕ → ℕ → Type 0
  Spelled n c = Walk jp2 (state_of f) (spell f n c) (cell_of n c ∷ []) (state_of (force_after f n c))

  plain_walk : (c : ℕ) → Fine f → row_of_number 6 < 9 → ascii c ≡ true → Spelled 6 c
  unfolding spell force_after shift_set pair_set
  plain_walk c fine known h =
      walk-on (rw fine at (g0-walk f 6 known refl))
      (gives (byte-single 6 f.g2 c f.cr refl h (cond-case (λ n. n ≡ 6) (graphic c) (λ _. refl) (λ _. refl))) stay)

  roman-walk : (c : ℕ) → row_of_number 14 < 9 → graphic c ≡ true → Spelled 14 c
  unfolding spell force_after shift_set pair_set graphic
  roman-walk c known h =
      let e = byte-single 14 f.g2 c (eqb f.g0 14 && f.cr) refl (graphic-ascii c h) (rw h) in
      simp and-false
      (walk-on (g0-walk f 14 known refl) (gives (simp (differs graphic c 10 h refl, differs graphic c 13 h refl, and-false) at e) stay))

  module _ (n c : ℕ) (known : row_of_number n < 9) where
    pair-walk : pair_set n ≡ true → graphic (c / 256) ≡ true → graphic (c % 256) ≡ true → Spelled n c
    unfolding spell force_after
    pair-walk p h k =
        let q = pair-apart n p in
        simp (q.2, p, q.0, and-false)
        (walk-on (g0-walk f n known q.2)
        (goes (byte-first n f.g2 (c / 256) h (eqb f.g0 n && f.cr) q.0 q.1)
        (gives (rw (div-add-mod' c 256) at (byte-second n f.g2 (c % 256) k (c / 256))) stay)))

    shift-walk : shift_set n ≡ true → 32 ≤ c → c ≤ 127 → Spelled n c
    unfolding spell force_after shift_set between_does
    shift-walk s h k =
        simp s
        (walk-on (g2-walk f n known s)
        (goes (byte-between f.g0 n (eqb f.g2 n && f.cr) 27 (lit< tt))
        (goes (byte-n f.g0 n (differs shift_set n 0 s refl)) (gives (byte-shifted f.g0 n c h k) stay))))

  spell-walk : {n c : ℕ} → Fine f → row_of_number n < 9 → Kind n c → Spelled n c
  spell-walk {c = c} fine known (of-ascii h) = plain_walk c fine known h
  spell-walk {c = c} fine known (of-roman h) = roman-walk c known h
  spell-walk {n} {c} fine known (of_pair p h k) = pair-walk n c known p h k
  spell-walk {n} {c} fine known (of_shift s h k) = shift-walk n c known s h k

  fine-after : (n c : ℕ) → Fine (force_after f n c)
  unfolding force_after
  fine-after n c = cond-case Fine (shift_set n) (λ _. and-false (eqb f.g0 6)) (λ _. and_self_left (eqb n 6) (eqb c 13))

rests : (cr : Bool) → Rests (phase_of cr)
rests cr = cond-case Rests cr (λ _. tt) (λ _. tt)

writes-walk : (vs : List ℕ) (f : Force) → Fine f → Each Writable vs → Arrives jp2 Last (state_of f) (write_from vs f) vs
unfolding write_from writable row_of_number first_where designations shift_set
writes-walk [] f fine h =
    record {
      end = state 6 f.g2 (phase_of (eqb f.g0 6 && f.cr));
      walk = g0-walk f 6 (lit< tt) refl;
      last = record { ascii = refl; rests = rests (eqb f.g0 6 && f.cr) };
    }
writes-walk (v ∷ vs) f fine h =
    let n = set_of v in
    let c = code_of v in
    let w = spell-walk f fine (row-found n c h.0) (kind-of n c h.0) in
    arrives-on (rw (div-add-mod' v 65536) at w) (writes-walk vs (force_after f n c) (fine-after f n c) h.1)

-- reading leads through what is written, gives the cells, and ends with ASCII in G0
pub writing-walk : (cells : List ℕ) → Each Writable cells → Arrives jp2 Last jp2.start (writing cells) cells
unfolding writing
writing-walk cells h = writes-walk cells (force 6 0 false) refl h

-- what is written reads back as the same cells
pub round_trip : (cells : List ℕ) → Each Writable cells → reading jp2 (writing cells) ≡ record { cells = cells; ending = accepted }
round_trip cells h =
    let a = writing-walk cells h in
    walk-whole a.walk (last-ends a.end a.last)
