-- Reading a single byte, and a pair. Assumes nothing.
use Prim.Native.Nat.{ℕ, ◌+◌, ◌*◌, ◌<◌}
use mathlib.Core.Path.{◌≡◌, refl, ap, ◌∙◌}
use mathlib.Core.Bool.{Bool, true, false, cond, ◌||◌, not, true≢false}
use mathlib.Core.List.{List, [], ◌∷◌}
use native.Mathlib.Omega.{arith}
use native.Mathlib.Nat.{add-zero}
use lib.ListN.{length, get_or, drop}
use lib.Seq.{get_or-drop}
use lib.Dec.{eqb, lit<}
use borrow.Author.Tests.{eqb-true, ne_eqb, le-leb, lt-ltb}
use Rattle.reading.specs.Reading.{bad, fault, push, read_from}
use Rattle.reading.proofs.Walk.{Walk, stay, gives, goes, walk-on}
use Rattle.jp2.specs.Rule.{plain, return, first, state, graphic, cell_of, jp2}
use Rattle.jp2.specs.Rule.{single_does, first_does, second_does, between_does, byte_does, ends_in}
use Rattle.jp2.specs.Writable.{ascii, pair_set}
use Rattle.jp2.proofs.Sets.{graphic-range, pair-apart}
use Rattle.jp2.proofs.Sends.{phase_of, byte-between}
use Rattle.jp2.proofs.Round.{byte-first, byte-second}
use Rattle.jp2_grammar.proofs.Bytes.{byte-char, ascii-most}
use Rattle.jp2_plain.specs.Inner.{single, byte_at, Stands, fault_at, g2_after, read_at, Shorter}
use Rattle.jp2_plain.proofs.Stands.{stands-none, stands-more, onward, stray}

-- behind a CR: as between cells, with G2 cleared if LF follows
return-does :
    (g0 g2 b : ℕ) → single g0 ≡ true →
    byte_does (state g0 g2 return) b ≡ byte_does (state g0 (cond (eqb b 10) 0 g2) plain) b
unfolding byte_does between_does single_does
return-does g0 g2 b h = by_byte (eqb b 10) refl
  where
    by_byte :
        (t : Bool) → eqb b 10 ≡ t →
        byte_does (state g0 g2 return) b ≡ byte_does (state g0 (cond (eqb b 10) 0 g2) plain) b
    by_byte true e = rw (eqb-true b 10 e, h)
    by_byte false e = rw (e, h)

return-list :
    (bs : List ℕ) (at g0 g2 : ℕ) → single g0 ≡ true →
    read_from jp2 bs at (state g0 g2 return) ≡ read_from jp2 bs at (state g0 (cond (eqb (get_or bs 0 255) 10) 0 g2) plain)
unfolding read_from ends_in
return-list [] at g0 g2 h = refl
return-list (b ∷ bs) at g0 g2 h = rw (return-does g0 g2 b h)

return-reads :
    (text : List ℕ) (at g0 g2 b : ℕ) → single g0 ≡ true →
    read_from jp2 (drop at text) at (state g0 g2 (phase_of (eqb b 13)))
    ≡ read_at text at g0 (g2_after g2 b (byte_at text at))
return-reads text at g0 g2 b h = by-return (eqb b 13) refl
  where
    by-return :
        (t : Bool) → eqb b 13 ≡ t →
        read_from jp2 (drop at text) at (state g0 g2 (phase_of (eqb b 13)))
        ≡ read_at text at g0 (g2_after g2 b (byte_at text at))
    by-return true e = rw e (rw (get_or-drop, add-zero) at (return-list (drop at text) at g0 g2 h))
    by-return false e = rw e

-- a byte below 128 that is neither ESC nor a code of ASCII is SO or SI
shifts : (b : ℕ) → b < 128 → (b ≡ 27 → ⊥) → ascii b ≡ false → (eqb b 14 || eqb b 15) ≡ true
unfolding ascii
shifts b low n t = by-test (eqb b 14) (eqb b 15) (rw (le-leb b 127 (omega arith), ne_eqb b 27 n) at t)
  where
    by-test : (x y : Bool) → not (x || (y || false)) ≡ false → (x || y) ≡ true
    by-test true y e = refl
    by-test false true e = refl
    by-test false false e = absurd (true≢false e)

module _ (text : List ℕ) (at : ℕ) (h : at < length text) where
  here : Stands text at []
  here = stands-none text at (omega arith)

  module _ {b : ℕ} (q : b ≡ byte_at text at) where
    -- ESC
    pub escapes : b ≡ 27 → Stands text at (27 ∷ [])
    escapes e = stands-more here (add-zero at) (rw e at q) (lit< tt)

    -- a byte that stands nowhere between cells, by what the rule says of it
    nowhere :
        (g0 g2 : ℕ) {k : ℕ} → (b < 128 → byte_does (state g0 g2 plain) b ≡ bad 3) → k ≡ fault_at text at 3 →
        read_at text at g0 g2 ≡ record { cells = []; ending = fault k at }
    nowhere g0 g2 does n = stray here (add-zero at) q stay (λ l. absurd (omega arith)) does n

    module _ (g0 g2 : ℕ) (m : single g0 ≡ true) where
      pub single-stray :
          {k : ℕ} → (b ≡ 27 → ⊥) → ascii b ≡ false → k ≡ fault_at text at 3 →
          read_at text at g0 g2 ≡ record { cells = []; ending = fault k at }
      unfolding between_does single_does
      single-stray n t =
          nowhere g0 g2 (λ low. byte-between g0 g2 false b low ∙ rw (ne_eqb b 27 n, m, shifts b low n t))

      pub single-cell :
          ascii b ≡ true →
          Shorter text at (at + 1)
          × (read_at text at g0 g2
          ≡ push (cell_of (cond (graphic b) g0 6) b) (read_at text (at + 1) g0 (g2_after g2 b (byte_at text (at + 1)))))
      single-cell t =
          let w = onward (stands-more here (add-zero at) q (omega (arith, ascii-most b t))) (lit< tt)
          (gives (byte-char g0 g2 b false m t) stay) in
          (w.0, w.1 ∙ ap (push (cell_of (cond (graphic b) g0 6) b)) (return-reads text (at + 1) g0 g2 b m))

    module _ (g0 g2 : ℕ) (m : pair_set g0 ≡ true) where
      pub first-stray :
          {k : ℕ} → (b ≡ 27 → ⊥) → graphic b ≡ false → k ≡ fault_at text at 3 →
          read_at text at g0 g2 ≡ record { cells = []; ending = fault k at }
      unfolding between_does first_does
      first-stray n t =
          let o = pair-apart g0 m in
          nowhere g0 g2 (λ low. byte-between g0 g2 false b low ∙ rw (ne_eqb b 27 n, o.0, o.1, t))

      module _ (g : graphic b ≡ true) where
        one : Stands text at (b ∷ [])
        one = stands-more here (add-zero at) q (omega (arith, graphic-range b g))

        begun : Walk jp2 (state g0 g2 plain) (b ∷ []) [] (state g0 g2 (first b))
        begun =
            let o = pair-apart g0 m in
            goes (byte-first g0 g2 b g false o.0 o.1) stay

        module _ {c : ℕ} (r : c ≡ byte_at text (at + 1)) where
          pub second-stray :
              {k : ℕ} → graphic c ≡ false → k ≡ fault_at text (at + 1) 3 →
              read_at text at g0 g2 ≡ record { cells = []; ending = fault k (at + 1) }
          unfolding ends_in byte_does second_does
          second-stray t = stray one refl r begun (λ _. refl) (λ low. rw (lt-ltb c 128 low, t))

          pub pair-cell :
              graphic c ≡ true →
              Shorter text at (at + 2)
              × (read_at text at g0 g2 ≡ push (cell_of g0 (b * 256 + c)) (read_at text (at + 2) g0 g2))
          pair-cell t =
              onward (stands-more one refl r (omega (arith, graphic-range c t))) (lit< tt)
              (walk-on begun (gives (byte-second g0 g2 c t b) stay))
