-- The bytes of JP-2's cells: in order, and no two cells share one. Assumes nothing.
use Prim.Native.Nat.{ℕ, ◌+◌}
use mathlib.Core.Path.{◌≡◌, refl}
use mathlib.Core.Bool.{Bool, true, false, cond, ◌||◌}
use mathlib.Core.List.{List, [], ◌∷◌, ◌++◌}
use native.Mathlib.Omega.{arith}
use lib.ListN.{length}
use lib.Dec.{ltb, eqb}
use Rattle.answer.proofs.Below.{cond-case}
use Rattle.reading.specs.Reading.{Does, go}
use Rattle.reading.specs.Spans.{Takes, marked_in, InOrder}
use Rattle.reading.proofs.Spans.{Gives, LeadDoes, alone, Marks, in_order}
use Rattle.jp2.specs.Table.{row_at, is_list, row_of_escape, row_begun_by}
use Rattle.jp2.specs.Rule.{Phase, plain, return, first, shifted, escape, State, state, graphic, single_does, first_does, second_does, between_does, shifted_does, escape_does, in_phase, byte_does, jp2}
use Rattle.jp2.specs.Spans.{span_in}
use Rattle.jp2.proofs.Kept.{SoundState, jp2-kept}

-- so many bytes before the next one are of the cell in the making; an escape may be ESC N
abbrev phase_lead : Phase → ℕ
phase_lead plain = 0
phase_lead return = 0
phase_lead (first a) = 1
phase_lead shifted = 2
phase_lead (escape bytes) = 1

abbrev lead : State → ℕ
lead st = phase_lead st.phase

abbrev Leads : State → ℕ → Does State → Type 0
Leads = LeadDoes 3 lead lead span_in

-- a byte in a state, with the sets of that state in force
module _ (st : State) (b g0 g2 : ℕ) where
  -- a cell with all the bytes that led to it, after which the reader is between cells
  whole : (count g2' : ℕ) (phase : Phase) → phase_lead phase ≡ 0 → Takes (span_in st b) count → count ≡ lead st + 1 → Gives 3 lead lead span_in st (state g0 g2' phase) b
  whole count g2' phase none last e = alone 3 lead lead span_in st (state g0 g2' phase) b count last (omega arith) (omega arith) (omega arith) none none

  between-leads : (cr : Bool) → lead st ≡ 0 → Takes (span_in st b) 1 → Leads st b (between_does g0 g2 cr b)
  unfolding between_does single_does first_does
  between-leads cr none last =
      cond-case (Leads st b) (eqb b 27) (λ _. (omega arith, omega arith))
      (λ _. cond-case (Leads st b) (eqb g0 6 || eqb g0 14)
      (λ _. cond-case (Leads st b) (eqb b 14 || eqb b 15) (λ _. tt)
      (λ _. whole 1 _ (cond (eqb b 13) return plain) (cond-case (λ p. phase_lead p ≡ 0) (eqb b 13) (λ _. refl) (λ _. refl)) last (omega arith)))
      (λ _. cond-case (Leads st b) (graphic b) (λ _. (omega arith, omega arith)) (λ _. tt)))

  escape-leads : (bytes : List ℕ) → lead st ≡ 1 → Leads st b (escape_does g0 g2 bytes)
  unfolding escape_does
  escape-leads bytes one =
      cond-case (Leads st b) (is_list bytes (27 ∷ 78 ∷ [])) (λ _. cond-case (Leads st b) (eqb g2 0) (λ _. tt) (λ _. (omega arith, omega arith)))
      (λ _. cond-case (Leads st b) (ltb (row_of_escape bytes) 9)
      (λ _. cond-case (λ s. Leads st b (go s)) (eqb (row_at (row_of_escape bytes)).to 2) (λ _. (omega arith, omega arith)) (λ _. (omega arith, omega arith)))
      (λ _. cond-case (Leads st b) (ltb (row_begun_by bytes) 9) (λ _. (omega arith, omega arith)) (λ _. tt)))

phase-leads : (p : Phase) (g0 g2 b : ℕ) → Leads (state g0 g2 p) b (in_phase p g0 g2 b)
unfolding second_does shifted_does span_in
phase-leads plain g0 g2 b = between-leads (state g0 g2 plain) b g0 g2 false refl (λ at. refl)
phase-leads return g0 g2 b = between-leads (state g0 g2 return) b g0 g2 true refl (λ at. refl)
phase-leads (first a) g0 g2 b =
    cond-case (Leads (state g0 g2 (first a)) b) (graphic b) (λ _. whole (state g0 g2 (first a)) b g0 g2 2 g2 plain refl (λ at. refl) refl) (λ _. tt)
phase-leads shifted g0 g2 b =
    cond-case (Leads (state g0 g2 shifted) b) (ltb b 32) (λ _. tt) (λ _. whole (state g0 g2 shifted) b g0 g2 3 g2 plain refl (λ at. refl) refl)
phase-leads (escape bytes) g0 g2 b = escape-leads (state g0 g2 (escape bytes)) b g0 g2 (bytes ++ b ∷ []) refl

byte-leads : (st : State) (b : ℕ) → Leads st b (byte_does st b)
unfolding byte_does
byte-leads st b = cond-case (Leads st b) (ltb b 128) (λ _. phase-leads st.phase st.g0 st.g2 b) (λ _. tt)

jp2-marks : Marks jp2 span_in SoundState 3
jp2-marks = record { lead = lead; fresh = lead; starts = (refl, refl); leads = λ st b _. byte-leads st b }

-- begin < end <= the text's length; a later cell neither begins nor ends before an earlier one; and no two share a byte, for none has more than three
pub spans-ordered : (text : List ℕ) → InOrder 3 (length text) (marked_in jp2 span_in text)
spans-ordered text = in_order jp2-kept jp2-marks text
