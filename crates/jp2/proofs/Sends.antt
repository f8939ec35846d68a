-- Bytes that are read as a row of the table: a computed test of them, and reading along them. Assumes nothing.
use Prim.Native.Nat.{ℕ, ◌<◌}
use mathlib.Core.Path.{◌≡◌, ◌∙◌, refl}
use mathlib.Core.Bool.{Bool, true, false, cond, ◌&&◌, not, false≢true}
use mathlib.Core.List.{List, [], ◌∷◌, ◌++◌}
use lib.Dec.{ltb, eqb, lit<}
use borrow.Author.Tests.{eqb-true, lt-ltb}
use Rattle.answer.proofs.Below.{both}
use Rattle.reading.specs.Reading.{go}
use Rattle.reading.proofs.Walk.{Walk, stay, goes}
use Rattle.jp2.specs.Table.{designations, row_at, begins, is_list, first_where, row_of_escape, row_begun_by}
use Rattle.jp2.specs.Rule.{State, Phase, plain, return, escape, state, designated, between_does, escape_does, byte_does, jp2}

-- bytes that are not ESC N: they are the row i; or they begin a row, and are none
abbrev is_shift : List ℕ → Bool
is_shift bytes = is_list bytes (27 ∷ 78 ∷ [])

abbrev complete : List ℕ → ℕ → Bool
complete bytes i = not (is_shift bytes) && eqb (row_of_escape bytes) i

abbrev begun : List ℕ → Bool
begun bytes = not (is_shift bytes) && (not (ltb (row_of_escape bytes) 9) && ltb (row_begun_by bytes) 9)

-- the bytes up to one of a row, and those after it
abbrev leads : List ℕ → List ℕ → ℕ → Bool
leads done [] i = complete done i
leads done (b ∷ rest) i = begun done && (ltb b 128 && leads (done ++ b ∷ []) rest i)

abbrev pub sends : List ℕ → ℕ → Bool
sends [] i = false
sends (b ∷ rest) i = eqb b 27 && leads (27 ∷ []) rest i

abbrev pub phase_of : Bool → Phase
phase_of cr = cond cr return plain

pub byte-between :
    (g0 g2 : ℕ) (cr : Bool) (b : ℕ) → b < 128 → byte_does (state g0 g2 (phase_of cr)) b ≡ between_does g0 g2 cr b
unfolding byte_does
byte-between g0 g2 true b h = rw (lt-ltb b 128 h)
byte-between g0 g2 false b h = rw (lt-ltb b 128 h)

neither : (a b : Bool) → (not a && b) ≡ true → (a ≡ false) × (b ≡ true)
neither true b e = absurd (false≢true e)
neither false b e = (refl, e)

module _ (g0 g2 i : ℕ) (known : i < 9) where
  completes : (bytes : List ℕ) → complete bytes i ≡ true → escape_does g0 g2 bytes ≡ go (designated g0 g2 (row_at i))
  unfolding escape_does
  completes bytes h =
      let q = neither (is_shift bytes) _ h in
      rw (q.0, eqb-true (row_of_escape bytes) i q.1, lt-ltb i 9 known)

  begins-row : (bytes : List ℕ) → begun bytes ≡ true → escape_does g0 g2 bytes ≡ go (state g0 g2 (escape bytes))
  unfolding escape_does
  begins-row bytes h =
      let q = neither (is_shift bytes) _ h in
      let r = neither (ltb (row_of_escape bytes) 9) _ q.1 in
      rw (q.0, r.0, r.1)

  leads-walk :
      (st : State) (b : ℕ) (done rest : List ℕ) → byte_does st b ≡ escape_does g0 g2 done → leads done rest i ≡ true →
      Walk jp2 st (b ∷ rest) [] (designated g0 g2 (row_at i))
  leads-walk st b done [] e t = goes (e ∙ completes done t) stay
  leads-walk st b done (c ∷ rest) e t =
      let q = both (begun done) _ t in
      let r = both (ltb c 128) _ q.1 in
      goes (e ∙ begins-row done q.0)
      (leads-walk (state g0 g2 (escape done)) c (done ++ c ∷ []) rest (unfold byte_does in rw r.0) r.1)

  -- ESC between cells, also after CR
  esc : (cr : Bool) → byte_does (state g0 g2 (phase_of cr)) 27 ≡ escape_does g0 g2 (27 ∷ [])
  unfolding between_does escape_does begins first_where designations row_of_escape row_begun_by
  esc cr = byte-between g0 g2 cr 27 (lit< tt)

  pub sends-walk :
      (cr : Bool) (l : List ℕ) → sends l i ≡ true →
      Walk jp2 (state g0 g2 (phase_of cr)) l [] (designated g0 g2 (row_at i))
  sends-walk cr [] t = absurd (false≢true t)
  sends-walk cr (b ∷ rest) t =
      let q = both (eqb b 27) _ t in
      rw (eqb-true b 27 q.0) (leads-walk _ 27 (27 ∷ []) rest (esc cr) q.1)
