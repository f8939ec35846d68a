-- Reading an escape: as far as it was read, to its end, and to a byte that fits none. Assumes nothing.
use Prim.Native.Nat.{ℕ, ◌+◌, ◌<◌}
use mathlib.Core.Path.{◌≡◌, refl, sym, ◌∙◌}
use mathlib.Core.Bool.{Bool, true, false, ◌&&◌, true≢false}
use mathlib.Core.List.{List, [], ◌∷◌, ◌++◌}
use native.Mathlib.Omega.{arith}
use lib.ListN.{length, drop, length-append}
use lib.Dec.{leb, ltb, lit<}
use borrow.Author.Tests.{lt-ltb, ne_eqb, le-leb, leb-true, leb-false}
use Rattle.answer.specs.Bytes.{bytes}
use Rattle.answer.proofs.Below.{both}
use Rattle.reading.specs.Reading.{bad, fault, push, read_from}
use Rattle.reading.proofs.Walk.{Walk, stay, gives, goes, walk-on}
use Rattle.jp2.specs.Table.{designations, row_at, sent, begins, first_where, row_of_escape, row_begun_by}
use Rattle.jp2.specs.Rule.{plain, shifted, escape, state, cell_of, designated, jp2}
use Rattle.jp2.specs.Rule.{between_does, shifted_does, escape_does, byte_does, ends_in}
use Rattle.jp2.proofs.Table.{row-walk}
use Rattle.jp2.proofs.Round.{byte-n, byte-shifted}
use Rattle.jp2_plain.specs.Inner.{byte_at, Stands, fault_at, read_at, Shorter}
use Rattle.jp2_plain.proofs.Stands.{stands-more, onward, stray}

-- the one of two tests that fails
left_false : (a : Bool) {b : Bool} → b ≡ true → (a && b) ≡ false → a ≡ false
left_false true e f = absurd (true≢false (sym e ∙ f))
left_false false e f = refl

-- an escape that was begun
abbrev Begun : ℕ → ℕ → List ℕ → Type 0
Begun g0 g2 s = Walk jp2 (state g0 g2 plain) s [] (state g0 g2 (escape s))

module _ (g0 g2 : ℕ) where
  pub esc : Begun g0 g2 (bytes "␛")
  unfolding byte_does between_does
  esc = goes refl stay

  pub paren : Begun g0 g2 (bytes "␛(")
  unfolding byte_does between_does escape_does begins first_where designations row_of_escape row_begun_by
  paren = goes refl (goes refl stay)

  pub dollar : Begun g0 g2 (bytes "␛$")
  unfolding byte_does between_does escape_does begins first_where designations row_of_escape row_begun_by
  dollar = goes refl (goes refl stay)

  pub dot : Begun g0 g2 (bytes "␛.")
  unfolding byte_does between_does escape_does begins first_where designations row_of_escape row_begun_by
  dot = goes refl (goes refl stay)

  pub dollar-paren : Begun g0 g2 (bytes "␛$(")
  unfolding byte_does between_does escape_does begins first_where designations row_of_escape row_begun_by
  dollar-paren = goes refl (goes refl (goes refl stay))

-- a row of the table that is complete
pub row_read :
    {text s : List ℕ} {at b v : ℕ} → Stands text at s → b ≡ byte_at text (at + length s) → b ≡ v → v < 128 → (k : ℕ) →
    k < 9 → sent (row_at k) ≡ s ++ v ∷ [] → (g0 g2 : ℕ) →
    let j = at + length (s ++ v ∷ []) in
    Shorter text at j × (read_at text at g0 g2 ≡ read_from jp2 (drop j text) j (designated g0 g2 (row_at k)))
row_read {s = s} {v = v} p q e low k known z g0 g2 =
    onward (stands-more p refl (sym e ∙ q) low) (omega (arith, length-append s (v ∷ [])))
    (rw z at (row-walk g0 g2 k known false))

-- a byte that goes on with no escape
pub unknown :
    {text s : List ℕ} {at b m g0 g2 : ℕ} → Stands text at s → b ≡ byte_at text (at + length s) → Begun g0 g2 s →
    (b < 128 → byte_does (state g0 g2 (escape s)) b ≡ bad 5) → m ≡ fault_at text (at + length s) 5 →
    read_at text at g0 g2 ≡ record { cells = []; ending = fault m (at + length s) }
unfolding ends_in
unknown p q w does n = stray p refl q w (λ _. refl) does n

module _ (g0 g2 b : ℕ) where
  abbrev Unknown : List ℕ → Type 0
  Unknown s = b < 128 → byte_does (state g0 g2 (escape s)) b ≡ bad 5

  pub none-esc : (b ≡ 40 → ⊥) → (b ≡ 36 → ⊥) → (b ≡ 46 → ⊥) → (b ≡ 78 → ⊥) → Unknown (bytes "␛")
  unfolding byte_does escape_does begins first_where designations row_of_escape row_begun_by
  none-esc p q r n low = rw (lt-ltb b 128 low, ne_eqb b 78 n, ne_eqb b 40 p, ne_eqb b 36 q, ne_eqb b 46 r)

  pub none-paren : (b ≡ 66 → ⊥) → (b ≡ 74 → ⊥) → Unknown (bytes "␛(")
  unfolding byte_does escape_does begins first_where designations row_of_escape row_begun_by
  none-paren p q low = rw (lt-ltb b 128 low, ne_eqb b 66 p, ne_eqb b 74 q)

  pub none-dollar : (b ≡ 64 → ⊥) → (b ≡ 65 → ⊥) → (b ≡ 66 → ⊥) → (b ≡ 40 → ⊥) → Unknown (bytes "␛$")
  unfolding byte_does escape_does begins first_where designations row_of_escape row_begun_by
  none-dollar p q r n low = rw (lt-ltb b 128 low, ne_eqb b 64 p, ne_eqb b 66 r, ne_eqb b 65 q, ne_eqb b 40 n)

  pub none-dollar-paren : (b ≡ 67 → ⊥) → (b ≡ 68 → ⊥) → Unknown (bytes "␛$(")
  unfolding byte_does escape_does begins first_where designations row_of_escape row_begun_by
  none-dollar-paren p q low = rw (lt-ltb b 128 low, ne_eqb b 67 p, ne_eqb b 68 q)

  pub none-dot : (b ≡ 65 → ⊥) → (b ≡ 70 → ⊥) → Unknown (bytes "␛.")
  unfolding byte_does escape_does begins first_where designations row_of_escape row_begun_by
  none-dot p q low = rw (lt-ltb b 128 low, ne_eqb b 65 p, ne_eqb b 70 q)

-- ESC N with nothing in G2
pub shift-empty :
    {text : List ℕ} {at g2 : ℕ} → Stands text at (bytes "␛N") → g2 ≡ 0 → (g0 : ℕ) →
    read_at text at g0 g2 ≡ record { cells = []; ending = fault 6 (at + 1) }
unfolding read_from byte_does between_does escape_does begins
shift-empty p e g0 = rw (p.so, e)

-- .. with a set there, and the byte behind it
module _ {text : List ℕ} {at g2 : ℕ} (p : Stands text at (bytes "␛N")) (some : g2 ≡ 0 → ⊥) where
  shift : (g0 : ℕ) → Walk jp2 (state g0 g2 plain) (bytes "␛N") [] (state g0 g2 shifted)
  shift g0 = walk-on (esc g0 g2) (goes (byte-n g0 g2 (ne_eqb g2 0 some)) stay)

  module _ {b : ℕ} (q : b ≡ byte_at text (at + 2)) where
    pub shift-stray :
        {m : ℕ} → (leb 32 b && leb b 127) ≡ false → m ≡ fault_at text (at + 2) 3 → (g0 : ℕ) →
        read_at text at g0 g2 ≡ record { cells = []; ending = fault m (at + 2) }
    unfolding ends_in byte_does shifted_does
    shift-stray t n g0 =
        stray p refl q (shift g0) (λ _. refl) (λ low. rw (lt-ltb b 128 low, below-32 low t)) n
      where
        below-32 : b < 128 → (leb 32 b && leb b 127) ≡ false → ltb b 32 ≡ true
        below-32 low t = lt-ltb b 32 (leb-false 32 b (left_false (leb 32 b) (le-leb b 127 (omega arith)) t))

    pub shift-cell :
        (leb 32 b && leb b 127) ≡ true → (g0 : ℕ) →
        Shorter text at (at + 3) × (read_at text at g0 g2 ≡ push (cell_of g2 b) (read_at text (at + 3) g0 g2))
    shift-cell t g0 =
        let w = both (leb 32 b) _ t in
        let l = leb-true 32 b w.0 in
        let u = leb-true b 127 w.1 in
        onward (stands-more p refl q (omega arith)) (lit< tt)
        (walk-on (shift g0) (gives (byte-shifted g0 g2 b l u) stay))
