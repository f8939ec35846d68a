-- What the reader accepts, taken apart: a byte of its own, a pair, ESC N and a byte, or a row of the table. Assumes
-- nothing.
use Prim.Native.Nat.{ℕ, ◌≤◌, ◌<◌}
use mathlib.Core.Path.{◌≡◌, refl, ap, ◌∙◌}
use mathlib.Core.Bool.{Bool, true, false, cond, ◌&&◌, ◌||◌, or_assoc}
use mathlib.Core.List.{List, [], ◌∷◌, ◌++◌, append_assoc}
use native.Mathlib.Omega.{arith}
use lib.ListN.{length}
use lib.Dec.{ltb, eqb}
use borrow.Author.Tests.{eqb-true, ltb-true, ltb-false, le-leb}
use Rattle.answer.proofs.Below.{both}
use Rattle.reading.specs.Reading.{Does, give, go, bad}
use Rattle.reading.proofs.Walk.{Walk, stay, gives, goes}
use Rattle.jp2.specs.Table.{no_row, designations, row_at, sent, begins, is_list, row_of_escape, row_begun_by}
use Rattle.jp2.specs.Rule.{State, plain, first, shifted, escape, state, designated, graphic, jp2}
use Rattle.jp2.specs.Rule.{single_does, first_does, second_does, between_does, shifted_does, escape_does, byte_does}
use Rattle.jp2.specs.Writable.{ascii}
use Rattle.jp2.proofs.Search.{found-passes}
use Rattle.jp2.proofs.Begins.{begins-whole}
use Rattle.jp2.proofs.Sets.{single}
use Rattle.jp2.proofs.Sends.{phase_of}
use Rattle.jp2.proofs.Ends.{Last}

abbrev Onto : Does State → (State → Type 0) → Type 0
Onto (give v st) P = P st
Onto (go st) P = P st
Onto (bad k) P = ⊥

-- the reader accepts the bytes from a state
unfoldable pub Ends : List ℕ → State → Type 0
Ends [] st = Last st
Ends (b ∷ bs) st = Onto (byte_does st b) (Ends bs)

pub walk_ends : {st end : State} {s cs : List ℕ} → Walk jp2 st s cs end → Last end → Ends s st
unfolding Ends
walk_ends stay l = l
walk_ends (gives e w) l = rw e (walk_ends w l)
walk_ends (goes e w) l = rw e (walk_ends w l)

-- where a `cond` does not go to a fault, by its sides
by-test :
    {X : Type 0} (P : State → Type 0) (t : Bool) (a b : Does State) → (t ≡ true → Onto a P → X) →
    (t ≡ false → Onto b P → X) → Onto (cond t a b) P → X
by-test P true a b f g h = f refl h
by-test P false a b f g h = g refl h

-- a byte is taken, and the rest is accepted from a state
pub record Takes (Fits : ℕ → Type 0) (st : State) (s : List ℕ) : Type 0 where
  pub byte : ℕ
  pub rest : List ℕ
  pub so : s ≡ byte ∷ rest
  pub fits : Fits byte
  pub ends : Ends rest st

-- an escape is ESC N and a byte, or a row of the table
pub data Sequence (g0 g2 : ℕ) (s : List ℕ) : Type 0 where
  row :
      (i : ℕ) (rest : List ℕ) → i < 9 → s ≡ sent (row_at i) ++ rest → Ends rest (designated g0 g2 (row_at i)) →
      Sequence g0 g2 s
  shift :
      (c : ℕ) (rest : List ℕ) → eqb g2 0 ≡ false → (32 ≤ c) × (c ≤ 127) → s ≡ 27 ∷ 78 ∷ c ∷ rest →
      Ends rest (state g0 g2 plain) → Sequence g0 g2 s

is-list : (a b : List ℕ) → is_list a b ≡ true → a ≡ b
is-list a b e =
    let q = both (begins a b) (eqb (length a) (length b)) e in
    begins-whole a b q.0 (eqb-true _ _ q.1)

is_row : (bytes : List ℕ) → row_of_escape bytes < 9 → bytes ≡ sent (row_at (row_of_escape bytes))
unfolding row_of_escape designations
is_row bytes h = is-list bytes _ (found-passes (λ d. is_list bytes (sent d)) designations no_row h)

module _ (g0 g2 : ℕ) where
  shifted-ends :
      (s : List ℕ) → Ends s (state g0 g2 shifted) → Takes (λ c. (32 ≤ c) × (c ≤ 127)) (state g0 g2 plain) s
  unfolding Ends byte_does shifted_does
  shifted-ends [] h = absurd h.rests
  shifted-ends (c ∷ rest) h =
      by-test (Ends rest) (ltb c 128) _ _
      (λ e. by-test (Ends rest) (ltb c 32) _ _ (λ _ k. absurd k)
      (λ t k. record {
        byte = c;
        rest = rest;
        so = refl;
        fits = (ltb-false c 32 t, omega (arith, ltb-true c 128 e));
        ends = k;
      }))
      (λ _ k. absurd k) h

  pub second-ends :
      (a : ℕ) (s : List ℕ) → Ends s (state g0 g2 (first a)) → Takes (λ b. graphic b ≡ true) (state g0 g2 plain) s
  unfolding Ends byte_does second_does
  second-ends a [] h = absurd h.rests
  second-ends a (b ∷ rest) h =
      by-test (Ends rest) (ltb b 128) _ _
      (λ _. by-test (Ends rest) (graphic b) _ _
      (λ y k. record { byte = b; rest = rest; so = refl; fits = y; ends = k }) (λ _ k. absurd k))
      (λ _ k. absurd k) h

  pub escape-ends : (s done : List ℕ) → Ends s (state g0 g2 (escape done)) → Sequence g0 g2 (done ++ s)
  unfolding Ends byte_does escape_does
  escape-ends [] done h = absurd h.rests
  escape-ends (b ∷ s) done h =
      let bytes = done ++ b ∷ [] in
      rw (← append_assoc done (b ∷ []) s)
      (by-test (Ends s) (ltb b 128) _ _
      (λ _. by-test (Ends s) (is_list bytes (27 ∷ 78 ∷ [])) _ _
      (λ e. by-test (Ends s) (eqb g2 0) _ _ (λ _ k. absurd k)
      (λ z k.
      let q = shifted-ends s k in
      let n = ap (λ (l : List ℕ). l ++ s) (is-list bytes (27 ∷ 78 ∷ []) e) in
      shift q.byte q.rest z q.fits (n ∙ ap (λ (l : List ℕ). 27 ∷ 78 ∷ l) q.so) q.ends))
      (λ _. by-test (Ends s) (ltb (row_of_escape bytes) 9) _ _
      (λ e k.
      let i = ltb-true (row_of_escape bytes) 9 e in
      row (row_of_escape bytes) s i (ap (λ (l : List ℕ). l ++ s) (is_row bytes i)) k)
      (λ _. by-test (Ends s) (ltb (row_begun_by bytes) 9) _ _ (λ _ k. escape-ends s bytes k) (λ _ k. absurd k))))
      (λ _ k. absurd k) h)

-- a byte between cells: ESC, a single byte, or the first of a pair
pub data Byte (g0 g2 : ℕ) (cr : Bool) (b : ℕ) (bs : List ℕ) : Type 0 where
  esc : b ≡ 27 → Ends bs (state g0 g2 (escape (27 ∷ []))) → Byte g0 g2 cr b bs
  char :
      single g0 ≡ true → ascii b ≡ true → Ends bs (state g0 (cond (cr && eqb b 10) 0 g2) (phase_of (eqb b 13))) →
      Byte g0 g2 cr b bs
  pair : single g0 ≡ false → graphic b ≡ true → Ends bs (state g0 g2 (first b)) → Byte g0 g2 cr b bs

not_three : (b : ℕ) → b < 128 → eqb b 27 ≡ false → (eqb b 14 || eqb b 15) ≡ false → ascii b ≡ true
unfolding ascii
not_three b l e t = rw (le-leb b 127 (omega arith), ← or_assoc, t, e)

pub byte-ends :
    (g0 g2 : ℕ) (cr : Bool) (b : ℕ) (bs : List ℕ) → Ends (b ∷ bs) (state g0 g2 (phase_of cr)) → Byte g0 g2 cr b bs
unfolding Ends byte_does between_does single_does first_does
byte-ends g0 g2 cr b bs h =
    by-test (Ends bs) (ltb b 128) _ _ (λ l. between (ltb-true b 128 l)) (λ _ k. absurd k) (low cr h)
  where
    low :
        (cr : Bool) → Ends (b ∷ bs) (state g0 g2 (phase_of cr)) →
        Onto (cond (ltb b 128) (between_does g0 g2 cr b) (bad 1)) (Ends bs)
    low true h = h
    low false h = h

    between : b < 128 → Onto (between_does g0 g2 cr b) (Ends bs) → Byte g0 g2 cr b bs
    between l =
        by-test (Ends bs) (eqb b 27) _ _ (λ e k. esc (eqb-true b 27 e) k)
        (λ e. by-test (Ends bs) (single g0) _ _
        (λ s. by-test (Ends bs) (eqb b 14 || eqb b 15) _ _ (λ _ k. absurd k) (λ t k. char s (not_three b l e t) k))
        (λ s. by-test (Ends bs) (graphic b) _ _ (λ g k. pair s g k) (λ _ k. absurd k)))
