-- A run as it is written: the sign, the values of its letters, the letters, '-'. Assumes nothing.
use Prim.Native.Nat.{ℕ, ◌+◌, ◌*◌, ◌/◌, ◌%◌, ◌<◌, ◌≤◌}
use mathlib.Core.Path.{◌≡◌, refl, sym, ◌∙◌}
use mathlib.Core.List.{List, [], ◌∷◌, ◌++◌, map}
use native.Mathlib.Omega.{arith}
use lib.ListN.{length, take, drop, set, length-append, length-map, length-set}
use lib.Seq.{sets, sets-eq}
use Rattle.answer.specs.Output.{filled}
use Rattle.answer.proofs.Put.{Put, put_next, put-done}
use Rattle.bits.specs.Bits.{bits_of}
use Rattle.alphabet.specs.Letters.{letter_of}
use Rattle.utf7.specs.Sets.{sign_of, last_of}
use Rattle.utf7.specs.Writing.{IsUnit, stretch, spell}
use Rattle.utf7.specs.declared.Style.{Style}
use Rattle.utf7_write.specs.Values.{values}
use Rattle.utf7_write.proofs.Values.{letters-values, one}
use Rattle.utf7_write.proofs.Several.{put-several, sets-part, sets_over}

module _ (style : Style) (us : List ℕ) {s last : ℕ} (p : s ≡ sign_of style) (q : last ≡ last_of style) where
  abbrev vs : List ℕ
  vs = values (bits_of 16 us)

  abbrev ls : List ℕ
  ls = map (letter_of last) vs

  values_length : length ls ≡ length vs
  values_length = simp length-map

  run-spelled : spell style (stretch us) ≡ s ∷ (ls ++ 45 ∷ [])
  unfolding spell
  run-spelled = rw (← p, ← q, letters-values last (bits_of 16 us))

  run_length : length (spell style (stretch us)) ≡ 1 + length vs + 1
  run_length = rw (run-spelled, length-append ls (45 ∷ []), values_length) (omega arith)

  module _ (out : List ℕ) (h : length (spell style (stretch us)) ≤ length out) where
    abbrev o : List ℕ
    o = set out 0 s

    -- each part has its room
    pub values-room : 1 + length vs ≤ length o
    values-room = simp length-set (omega (arith, run_length))

    pub close-room : 1 + length vs < length o
    close-room = simp length-set (omega (arith, run_length))

    -- the letters stand where their values stood
    pub turned : sets (sets o 1 vs) 1 (map (letter_of last) (take (length vs) (drop 1 (sets o 1 vs)))) ≡ sets o 1 ls
    turned = rw (sets-part o vs 1 values-room) (sets_over o vs 1 values-room ls values_length)

  pub run-done :
      (out : List ℕ) → length (spell style (stretch us)) ≤ length out →
      (1 + length vs + 1 ≡ length (spell style (stretch us))) × (set (sets (set out 0 s) 1 ls) (1 + length vs) 45 ≡ filled (spell style (stretch us)) out)
  run-done [] h = absurd (omega (arith, run_length))
  run-done (x ∷ out) h =
      let t : List ℕ = ls ++ 45 ∷ [] in
      let k : length (s ∷ t) ≤ length (s ∷ out) = rw run-spelled at h in
      let w : Put (s ∷ t) (s ∷ out) (s ∷ out) 1 t = record { room = k; upto = omega arith; left = refl; front = refl; same = refl } in
      let z = put_next (put-several ls (45 ∷ []) (s ∷ out) 1 w) in
      (sym run_length, rw run-spelled (rw values_length at (put-done z)))

-- the run of one unit, letter by letter
module _ (style : Style) (u : ℕ) (h : IsUnit u) {s last x y z : ℕ} (p : s ≡ sign_of style) (q : last ≡ last_of style) (a : x ≡ letter_of last (u / 1024)) (b : y ≡ letter_of last (u / 16 % 64)) (c : z ≡ letter_of last (u % 16 * 4)) where
  one-spelled : spell style (stretch (u ∷ [])) ≡ s ∷ x ∷ y ∷ z ∷ 45 ∷ []
  one-spelled =
      let v : u % 1024 / 16 ≡ u / 16 % 64 = omega arith in
      let w : u % 1024 % 16 * 4 ≡ u % 16 * 4 = omega arith in
      run-spelled style (u ∷ []) p q ∙ rw (one u h, v, w, a, b, c)

  pub one-done :
      (out : List ℕ) → length (spell style (stretch (u ∷ []))) ≤ length out →
      set (set (set (set (set out 0 s) 1 x) 2 y) 3 z) 4 45 ≡ filled (spell style (stretch (u ∷ []))) out
  one-done out k = rw one-spelled (sets-eq (s ∷ x ∷ y ∷ z ∷ 45 ∷ []) out 0 (rw one-spelled at k))
