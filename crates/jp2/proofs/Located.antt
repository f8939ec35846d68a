-- The bytes of a JP-2 cell, read with the sets in force before them, make that cell, and no shorter end of them does.
-- Assumes nothing.
use Prim.Native.Nat.{ℕ, zero, suc, ◌+◌, ◌*◌, ◌<◌, ◌≤◌}
use mathlib.Core.Path.{◌≡◌, refl, sym, ap, ◌∙◌}
use mathlib.Core.Bool.{Bool, true, false, cond, ◌&&◌, ◌||◌, false≢true}
use mathlib.Core.List.{List, [], ◌∷◌, ◌++◌}
use mathlib.Core.Logic.{inl, inr}
use native.Mathlib.Omega.{arith}
use lib.ListN.{length}
use lib.Dec.{ltb, eqb, lit<, lit≤}
use borrow.Author.Tests.{ltb-true, ltb-false, eqb-true, ne_eqb}
use Rattle.answer.specs.Lists.{Each}
use Rattle.answer.proofs.Below.{both, cond-case}
use Rattle.reading.specs.Reading.{Does, give, on_read, read_from}
use Rattle.reading.specs.Spans.{Takes, marked_in}
use Rattle.reading.specs.Located.{cells_from, Least, Located}
use Rattle.reading.proofs.Located.{cells-by, least-short, least-one, Anew, MakesDoes, Making, located}
use Rattle.jp2.specs.Table.{row_at, begins, is_list, row_of_escape, row_begun_by}
use Rattle.jp2.specs.Rule.{Phase, plain, return, first, shifted, escape, State, state, graphic, cell_of, single_does, first_does, second_does, between_does, shifted_does, escape_does, in_phase, byte_does, jp2}
use Rattle.jp2.specs.Spans.{span_in}
use Rattle.jp2.specs.Located.{between}
use Rattle.jp2.specs.Writable.{pair_set, shift_set}
use Rattle.jp2.proofs.Begins.{begins-whole}
use Rattle.jp2.proofs.Sets.{either, graphic-range, single, base_set, shift-case, pair-apart}
use Rattle.jp2.proofs.Sends.{phase_of, byte-between}
use Rattle.jp2.proofs.Kept.{SoundState, jp2-kept}

-- the bytes of the cell in the making
abbrev phase_since : Phase → List ℕ
phase_since plain = []
phase_since return = []
phase_since (first a) = a ∷ []
phase_since shifted = 27 ∷ 78 ∷ []
phase_since (escape bytes) = bytes

abbrev since : State → List ℕ
since st = phase_since st.phase

-- it began between cells, with the same sets in force
record From (base st : State) : Type 0 where
  cr : Bool
  so : base ≡ state st.g0 st.g2 (phase_of cr)

from_on : {base : State} {g0 g2 : ℕ} {p q : Phase} → From base (state g0 g2 p) → From base (state g0 g2 q)
from_on f = record { cr = f.cr; so = f.so }

-- JP-2 has no runs
abbrev no_run : State → ℕ → Bool
no_run st b = false

abbrev MakesBy : State → State → ℕ → Does State → Type 0
MakesBy = MakesDoes jp2 between no_run span_in since From

abbrev Begins : State → Type 0
Begins = Anew jp2 between no_run span_in since From

begins-plain : (g0 g2 : ℕ) → Begins (state g0 g2 plain)
begins-plain g0 g2 = record { none = refl; rests = refl; begun = record { cr = false; so = refl } }

begins-after : (g0 g2 : ℕ) (cr : Bool) → Begins (state g0 g2 (phase_of cr))
begins-after g0 g2 true = record { none = refl; rests = refl; begun = record { cr = true; so = refl } }
begins-after g0 g2 false = begins-plain g0 g2

-- no set for ESC N is one of single bytes
single-apart : (n : ℕ) → single n ≡ true → shift_set n ≡ true → ⊥
single-apart n s h = shift-case (λ n. single n ≡ true → ⊥) n false≢true false≢true h s

none-given : (v : ℕ) → ◌≡◌ {A = List ℕ} [] (v ∷ []) → ⊥
none-given v e = omega (arith, ap length e)

-- what a byte gives between cells
module _ (g0 g2 : ℕ) (cr : Bool) (c : ℕ) (high : 32 ≤ c) (low : c < 128) where
  no-escape : eqb c 27 ≡ false
  no-escape = ne_eqb c 27 (λ e. omega arith)

  single-gives :
      single g0 ≡ true →
      byte_does (state g0 g2 (phase_of cr)) c
      ≡ give (cell_of (cond (graphic c) g0 6) c) (state g0 (cond (cr && eqb c 10) 0 g2) (phase_of (eqb c 13)))
  unfolding between_does single_does
  single-gives s =
      byte-between g0 g2 cr c low
      ∙ simp (no-escape, s, ne_eqb c 14 (λ e. omega arith), ne_eqb c 15 (λ e. omega arith))

  pair_goes : pair_set g0 ≡ true → byte_does (state g0 g2 (phase_of cr)) c ≡ first_does g0 g2 c
  unfolding between_does
  pair_goes p = byte-between g0 g2 cr c low ∙ simp (no-escape, (pair-apart g0 p).0, (pair-apart g0 p).1)

  -- half a pair gives nothing
  pair-none : pair_set g0 ≡ true → (v : ℕ) → cells_from jp2 (state g0 g2 (phase_of cr)) (c ∷ []) ≡ v ∷ [] → ⊥
  unfolding read_from first_does
  pair-none p v =
      let P : Does State → Type 0 = λ m. (on_read m 0 (read_from jp2 [] 1)).cells ≡ v ∷ [] → ⊥ in
      rw (cells-by jp2 (state g0 g2 (phase_of cr)) c [] (first_does g0 g2 c) (pair_goes p))
      (cond-case P (graphic c) (λ _. none-given v) (λ _. none-given v))

pair-least :
    (g0 g2 : ℕ) (cr : Bool) (a c v : ℕ) → pair_set g0 ≡ true → 32 ≤ c → c < 128 →
    Least jp2 (state g0 g2 (phase_of cr)) (a ∷ c ∷ []) v
pair-least g0 g2 cr a c v p high low zero h e = absurd (omega arith)
pair-least g0 g2 cr a c v p high low (suc zero) h e = pair-none g0 g2 cr c high low p v e
pair-least g0 g2 cr a c v p high low (suc (suc k)) h e =
    least-short jp2 (state g0 g2 (phase_of cr)) (a ∷ c ∷ []) v (suc (suc k)) (omega arith) e

-- a cell of G2 is none that its last bytes give without ESC: those are of a set of G0
module _
    (g0 g2 : ℕ) (cr : Bool) (lower : base_set g0 ≡ true) (upper : shift_set g2 ≡ true)
    (c : ℕ) (high : 32 ≤ c) (low : c < 128) where
  abbrev base : State
  base = state g0 g2 (phase_of cr)

  abbrev Given : List ℕ → Type 0
  Given cells = cells ≡ cell_of g2 c ∷ []

  other-set : (n d : ℕ) (vs : List ℕ) → (n ≡ g2 → ⊥) → d < 65536 → Given (cell_of n d ∷ vs) → ⊥
  other-set n d vs apart few e =
      let q : cell_of n d ≡ cell_of g2 c = cc in
      apart (omega arith)

  of-single :
      single g0 ≡ true → (d : ℕ) → 32 ≤ d → d < 128 → (rest : List ℕ) → Given (cells_from jp2 base (d ∷ rest)) → ⊥
  of-single s d h l rest =
      let n = cond (graphic d) g0 6 in
      let t : single n ≡ true = cond-case (λ n. single n ≡ true) (graphic d) (λ _. s) (λ _. refl) in
      rw (cells-by jp2 base d rest _ (single-gives g0 g2 cr d h l s))
      (other-set n d _ (λ q. single-apart g2 (rw q at t) upper) (omega arith))

  of_pair : pair_set g0 ≡ true → Given (cells_from jp2 base (78 ∷ c ∷ [])) → ⊥
  unfolding read_from first_does second_does byte_does graphic
  of_pair p =
      let P : Does State → Type 0 = λ m. Given (on_read m 1 (read_from jp2 [] 2)).cells → ⊥ in
      let apart : g0 ≡ g2 → ⊥ = λ e. false≢true (sym (pair-apart g0 p).2 ∙ rw e upper) in
      rw (cells-by jp2 base 78 (c ∷ []) _ (pair_goes g0 g2 cr 78 (lit≤ tt) (lit< tt) p))
      (cond-case P (ltb c 128)
      (λ _. cond-case P (graphic c) (λ _. other-set g0 (78 * 256 + c) [] apart (omega arith)) (λ _. none-given _))
      (λ _. none-given _))

  shift-least : Least jp2 base (27 ∷ 78 ∷ c ∷ []) (cell_of g2 c)
  shift-least zero h e = absurd (omega arith)
  shift-least (suc zero) h e =
      either (single g0) (pair_set g0) lower (λ s. of-single s 78 (lit≤ tt) (lit< tt) (c ∷ []) e) (λ p. of_pair p e)
  shift-least (suc (suc zero)) h e =
      either (single g0) (pair_set g0) lower (λ s. of-single s c high low [] e)
      (λ p. pair-none g0 g2 cr c high low p _ e)
  shift-least (suc (suc (suc k))) h e =
      least-short jp2 base (27 ∷ 78 ∷ c ∷ []) _ (suc (suc (suc k))) (omega arith) e

-- what each byte does to the cell in the making
module _ (base : State) (g0 g2 b : ℕ) where
  between-makes :
      (p : Phase) (cr : Bool) → From base (state g0 g2 p) → phase_since p ≡ [] → Takes (span_in (state g0 g2 p) b) 1 →
      MakesBy base (state g0 g2 p) b (between_does g0 g2 cr b)
  unfolding between_does single_does first_does
  between-makes p cr f none last =
      let P = MakesBy base (state g0 g2 p) b in
      cond-case P (eqb b 27) (λ e. inl (record { more = rw (none, eqb-true b 27 e); inside = refl; begun = from_on f }))
      (λ _. cond-case P (eqb g0 6 || eqb g0 14)
      (λ _. cond-case P (eqb b 14 || eqb b 15) (λ _. tt)
      (λ _. (begins-after g0 _ (eqb b 13), λ _. (rw none last, rw none (least-one jp2 base b _)))))
      (λ _. cond-case P (graphic b) (λ _. inl (record { more = rw none; inside = refl; begun = from_on f })) (λ _. tt)))

  escape-makes :
      (bytes : List ℕ) → From base (state g0 g2 (escape bytes)) →
      MakesBy base (state g0 g2 (escape bytes)) b (escape_does g0 g2 (bytes ++ b ∷ []))
  unfolding escape_does
  escape-makes bytes f =
      let P = MakesBy base (state g0 g2 (escape bytes)) b in
      let l = bytes ++ b ∷ [] in
      cond-case P (is_list l (27 ∷ 78 ∷ []))
      (λ e.
      let q = both (begins l (27 ∷ 78 ∷ [])) _ e in
      let same = sym (begins-whole l (27 ∷ 78 ∷ []) q.0 (eqb-true (length l) 2 q.1)) in
      cond-case P (eqb g2 0) (λ _. tt) (λ _. inl (record { more = same; inside = refl; begun = from_on f })))
      (λ _. cond-case P (ltb (row_of_escape l) 9)
      (λ _. inr (cond-case Begins (eqb (row_at (row_of_escape l)).to 2) (λ _. begins-plain _ _) (λ _. begins-plain _ _)))
      (λ _. cond-case P (ltb (row_begun_by l) 9) (λ _. inl (record { more = refl; inside = refl; begun = from_on f }))
      (λ _. tt)))

  phase-makes :
      (p : Phase) → SoundState (state g0 g2 p) → b < 128 → From base (state g0 g2 p) →
      MakesBy base (state g0 g2 p) b (in_phase p g0 g2 b)
  unfolding second_does shifted_does span_in
  phase-makes plain s low f = between-makes plain false f refl (λ at. refl)
  phase-makes return s low f = between-makes return true f refl (λ at. refl)
  phase-makes (first a) s low f =
      cond-case (MakesBy base (state g0 g2 (first a)) b) (graphic b)
      (λ g.
      let high : 32 ≤ b = omega (arith, (graphic-range b g).0) in
      (begins-plain g0 g2, λ _. (λ at. refl, rw f.so (pair-least g0 g2 f.cr a b _ s.within.1 high low))))
      (λ _. tt)
  phase-makes shifted s low f =
      cond-case (MakesBy base (state g0 g2 shifted) b) (ltb b 32) (λ _. tt)
      (λ t.
      let high = ltb-false b 32 t in
      (begins-plain g0 g2, λ _. (λ at. refl, rw f.so (shift-least g0 g2 f.cr s.lower s.within b high low))))
  phase-makes (escape bytes) s low f = escape-makes bytes f

byte-makes : (base st : State) (b : ℕ) → SoundState st → From base st → MakesBy base st b (byte_does st b)
unfolding byte_does
byte-makes base st b s f =
    cond-case (MakesBy base st b) (ltb b 128)
    (λ t. phase-makes base st.g0 st.g2 b st.phase s (ltb-true b 128 t) f) (λ _. tt)

jp2-making : Making jp2 between no_run span_in SoundState
jp2-making = record { since = since; From = From; starts = begins-plain 6 0; makes = byte-makes }

-- every cell of every text
pub cells-located : (text : List ℕ) → Each (Located jp2 between text) (marked_in jp2 span_in text)
cells-located text = located jp2-kept jp2-making text
