-- What reading keeps: the sets in force are of the table, and every cell that is read is writable. Assumes nothing.
use Prim.Native.Nat.{ℕ, ◌+◌, ◌*◌, ◌/◌, ◌%◌, ◌<◌, ◌≤◌}
use mathlib.Core.Path.{◌≡◌, refl}
use mathlib.Core.Bool.{Bool, true, false, cond, ◌&&◌, ◌||◌, or-true, or_assoc}
use mathlib.Core.List.{List, [], ◌∷◌, ◌++◌}
use native.Mathlib.Omega.{arith}
use lib.ListN.{length, get_or, length-append}
use lib.Dec.{ltb, eqb, lit<}
use borrow.Author.Tests.{ltb-true, ltb-false, le-leb, eqb-true}
use Rattle.answer.specs.Lists.{Each}
use Rattle.answer.proofs.Below.{cond-case}
use Rattle.reading.specs.Reading.{Does, reading}
use Rattle.reading.proofs.Laws.{SoundDoes, SoundEnd, Kept, good-reading}
use Rattle.jp2.specs.Table.{row_at, is_list, row_of_escape, row_begun_by}
use Rattle.jp2.specs.Rule.{Phase, plain, return, first, shifted, escape, State, state, designated, graphic, cell_of, single_does, first_does, second_does, between_does, shifted_does, escape_does, in_phase, byte_does, end_phase, ends_in, jp2}
use Rattle.jp2.specs.Writable.{pair_set, shift_set, ascii, codes}
use Rattle.jp2.proofs.Table.{table-rule, row-to, begun-starts, begun-short}
use Rattle.jp2.proofs.Sets.{Writable, single, base_set, either, graphic-range, codes-pair, codes-shift, cell-writable}

-- the numbers that G2 may have: nothing is in it at first
abbrev pub in_g2 : ℕ → Bool
in_g2 n = eqb n 0 || shift_set n

-- ESC and at most two bytes more
pub record Short (bytes : List ℕ) : Type 0 where
  pub some : 0 < length bytes
  pub few : length bytes < 4
  pub starts : get_or bytes 0 0 ≡ 27

-- a pair is begun only while one of their sets is in G0, ESC N is taken only while a set is in G2, and an escape is not whole
abbrev pub SoundPhase : Phase → ℕ → ℕ → Type 0
SoundPhase plain g0 g2 = Unit
SoundPhase return g0 g2 = Unit
SoundPhase (first a) g0 g2 = (graphic a ≡ true) × (pair_set g0 ≡ true)
SoundPhase shifted g0 g2 = shift_set g2 ≡ true
SoundPhase (escape bytes) g0 g2 = Short bytes

-- bytes that begin a row and are none
pub begun : (bytes : List ℕ) → 0 < length bytes → row_begun_by bytes < 9 → 9 ≤ row_of_escape bytes → Short bytes
begun bytes some h k = record { some = some; few = begun-short bytes some h k; starts = begun-starts bytes some h }

pub record SoundState (st : State) : Type 0 where
  pub lower : base_set st.g0 ≡ true
  pub upper : in_g2 st.g2 ≡ true
  pub within : SoundPhase st.phase st.g0 st.g2

after-single : (t : Bool) (g0 g2 : ℕ) → SoundPhase (cond t return plain) g0 g2
after-single true g0 g2 = tt
after-single false g0 g2 = tt

abbrev Keeps : Does State → Type 0
Keeps m = SoundDoes SoundState Writable m

module _ (g0 g2 : ℕ) (h0 : base_set g0 ≡ true) (h2 : in_g2 g2 ≡ true) where
  sound : (p : Phase) → SoundPhase p g0 g2 → SoundState (state g0 g2 p)
  sound p h = record { lower = h0; upper = h2; within = h }

  sound-designated : (t : Bool) (n : ℕ) → shift_set n ≡ t → (t || base_set n) ≡ true → SoundState (cond t (state g0 n plain) (state n g2 plain))
  sound-designated true n e h = record { lower = h0; upper = rw (e, or-true); within = tt }
  sound-designated false n e h = record { lower = h; upper = h2; within = tt }

  sound-row : (i : ℕ) → i < 9 → SoundState (designated g0 g2 (row_at i))
  sound-row i h =
      rw (row-to i h) (sound-designated (shift_set (row_at i).number) (row_at i).number refl (table-rule i h).belongs)

  keeps-escape : (bytes : List ℕ) → 0 < length bytes → Keeps (escape_does g0 g2 bytes)
  unfolding escape_does
  keeps-escape bytes some =
      let i = row_of_escape bytes in
      cond-case Keeps (is_list bytes (27 ∷ 78 ∷ [])) (λ _. cond-case Keeps (eqb g2 0) (λ _. lit< tt) (λ e. sound shifted (rw e at h2)))
      (λ _. cond-case Keeps (ltb i 9) (λ e. sound-row i (ltb-true i 9 e))
      (λ k. cond-case Keeps (ltb (row_begun_by bytes) 9) (λ e. sound (escape bytes) (begun bytes some (ltb-true _ 9 e) (ltb-false _ 9 k))) (λ _. lit< tt)))

  module _ (b : ℕ) (low : b < 128) where
    single-writable : single g0 ≡ true → eqb b 27 ≡ false → (eqb b 14 || eqb b 15) ≡ false → Writable (cell_of (cond (graphic b) g0 6) b)
    unfolding codes ascii
    single-writable s e t =
        let a : ascii b ≡ true = rw (le-leb b 127 (omega arith), ← or_assoc, t, e) in
        let w : (n : ℕ) → codes n b ≡ true → Writable (cell_of n b) = λ n. cell-writable n b (omega arith) in
        cond-case (λ n. Writable (cell_of n b)) (graphic b)
        (λ g. either (eqb g0 6) (eqb g0 14) s (λ q. w g0 (rw (eqb-true g0 6 q) a)) (λ q. w g0 (rw (eqb-true g0 14 q) g)))
        (λ _. w 6 a)

    keeps-single : (cr : Bool) → single g0 ≡ true → eqb b 27 ≡ false → Keeps (single_does g0 g2 cr b)
    unfolding single_does
    keeps-single cr s e =
        cond-case Keeps (eqb b 14 || eqb b 15) (λ _. lit< tt)
        (λ t.
        let k : in_g2 (cond (cr && eqb b 10) 0 g2) ≡ true = cond-case (λ n. in_g2 n ≡ true) (cr && eqb b 10) (λ _. refl) (λ _. h2) in
        (single-writable s e t, record { lower = h0; upper = k; within = after-single (eqb b 13) g0 _ }))

    keeps-between : (cr : Bool) → Keeps (between_does g0 g2 cr b)
    unfolding between_does first_does
    keeps-between cr =
        cond-case Keeps (eqb b 27) (λ _. sound (escape (27 ∷ [])) (record { some = lit< tt; few = lit< tt; starts = refl }))
        (λ e. cond-case Keeps (single g0) (λ s. keeps-single cr s e)
        (λ s. cond-case Keeps (graphic b) (λ g. sound (first b) (g, rw s at h0)) (λ _. lit< tt)))

    keeps-second : (a : ℕ) → graphic a ≡ true → pair_set g0 ≡ true → Keeps (second_does g0 g2 a b)
    unfolding second_does
    keeps-second a h p =
        let q : (a * 256 + b) / 256 ≡ a = omega arith in
        let r : (a * 256 + b) % 256 ≡ b = omega arith in
        let few : a * 256 + b < 65536 = omega (arith, graphic-range a h) in
        cond-case Keeps (graphic b) (λ g. (cell-writable g0 (a * 256 + b) few (rw (codes-pair g0 (a * 256 + b) p, q, r, h, g)), sound plain tt)) (λ _. lit< tt)

    keeps-shifted : shift_set g2 ≡ true → Keeps (shifted_does g0 g2 b)
    unfolding shifted_does
    keeps-shifted s =
        cond-case Keeps (ltb b 32) (λ _. lit< tt)
        (λ e. (cell-writable g2 b (omega arith) (rw (codes-shift g2 b s, le-leb 32 b (ltb-false b 32 e), le-leb b 127 (omega arith))), sound plain tt))

    keeps-phase : (p : Phase) → SoundPhase p g0 g2 → Keeps (in_phase p g0 g2 b)
    keeps-phase plain h = keeps-between false
    keeps-phase return h = keeps-between true
    keeps-phase (first a) h = keeps-second a h.0 h.1
    keeps-phase shifted h = keeps-shifted h
    keeps-phase (escape bytes) h = keeps-escape (bytes ++ b ∷ []) (simp length-append (omega arith))

keeps-byte : (st : State) (b : ℕ) → SoundState st → Keeps (byte_does st b)
unfolding byte_does
keeps-byte st b h =
    cond-case Keeps (ltb b 128) (λ e. keeps-phase st.g0 st.g2 h.lower h.upper b (ltb-true b 128 e) st.phase h.within) (λ _. lit< tt)

keeps-end : (p : Phase) (g0 size : ℕ) → SoundEnd (end_phase p g0 size)
keeps-end plain g0 size = cond-case SoundEnd (eqb g0 6) (λ _. tt) (λ _. lit< tt)
keeps-end return g0 size = cond-case SoundEnd (eqb g0 6) (λ _. tt) (λ _. lit< tt)
keeps-end (first a) g0 size = lit< tt
keeps-end shifted g0 size = lit< tt
keeps-end (escape bytes) g0 size = lit< tt

-- a fault at the end has a number
pub ends-sound : (size : ℕ) (st : State) → SoundEnd (ends_in size st)
unfolding ends_in
ends-sound size st = keeps-end st.phase st.g0 size

pub jp2-kept : Kept jp2 SoundState Writable
unfolding ends_in
jp2-kept =
    record {
      starts = record { lower = refl; upper = refl; within = tt };
      keeps = keeps-byte;
      ends = λ size st _. ends-sound size st;
    }

-- every cell that is read is writable
pub cells-writable : (s : List ℕ) → Each Writable (reading jp2 s).cells
cells-writable s = (good-reading jp2-kept s).0
