-- The numbers of the faults that a text of a format can have. Assumes nothing.
use Prim.Native.Nat.{ℕ, ◌+◌}
use mathlib.Core.Path.{◌≡◌, refl}
use mathlib.Core.Bool.{Bool, true, false, cond, ◌||◌}
use mathlib.Core.List.{List, [], ◌∷◌, ◌++◌}
use lib.ListN.{length, take}
use lib.Dec.{ltb, eqb}
use Rattle.bits.specs.Bits.{number, all_zero}
use Rattle.alphabet.specs.Letters.{set_b, slash, comma}
use Rattle.reading.specs.Reading.{Does, give, go, bad, Ending, accepted, fault, Rule}
use Rattle.reading.specs.Reading.{Reading, on_read, read_from, reading}
use Rattle.utf7.specs.Sets.{member, direct, printable}
use Rattle.utf7.specs.Rule as u
use Rattle.jp2.specs.Table.{is_list, row_of_escape, row_begun_by}
use Rattle.jp2.specs.Rule as j
use Rattle.mailbox.specs.Rule as m
use Rattle.codec.specs.declared.Format.{Format}
use Rattle.codec.specs.declared.Format.TheVariants.{Utf7, Jp2, Mailbox}
use Rattle.codec.specs.Kinds.{reading_of}
use Rattle.codec.specs.Demand.{faults_in}

-- a fault, of a byte or at the end, has one of the numbers
abbrev Known : {S : Type 0} → List ℕ → Does S → Type 0
Known numbers (give v st) = Unit
Known numbers (go st) = Unit
Known numbers (bad k) = member numbers k ≡ true

abbrev pub KnownEnd : List ℕ → Ending → Type 0
KnownEnd numbers accepted = Unit
KnownEnd numbers (fault k place) = member numbers k ≡ true

pub record Tells {S : Type 0} (rule : Rule S) (numbers : List ℕ) : Type 0 where
  pub bytes : (st : S) (b : ℕ) → Known numbers (rule.byte st b)
  pub ends : (size : ℕ) (st : S) → KnownEnd numbers (rule.end size st)

module _ {S : Type 0} (rule : Rule S) (numbers : List ℕ) (tells : Tells rule numbers) where
  known-does :
      (d : Does S) (at : ℕ) (rest : S → Reading) → Known numbers d → ((st : S) → KnownEnd numbers (rest st).ending) →
      KnownEnd numbers (on_read d at rest).ending
  known-does (give v st) at rest k ih = ih st
  known-does (go st) at rest k ih = ih st
  known-does (bad n) at rest k ih = k

  known_from : (bs : List ℕ) (at : ℕ) (st : S) → KnownEnd numbers (read_from rule bs at st).ending
  unfolding read_from
  known_from [] at st = tells.ends at st
  known_from (b ∷ bs) at st =
      known-does (rule.byte st b) at (read_from rule bs (at + 1)) (tells.bytes st b) (known_from bs (at + 1))

  known-reading : (text : List ℕ) → KnownEnd numbers (reading rule text).ending
  unfolding reading
  known-reading text = known_from text 0 rule.start

-- either side of a test
pub choose : {A : Type 0} (P : A → Type 0) (t : Bool) {a b : A} → P a → P b → P (cond t a b)
choose P true x y = x
choose P false x y = y

abbrev InUtf7 : Does u.Shift → Type 0
InUtf7 = Known (faults_in Utf7)

utf7-outside : (b : ℕ) → InUtf7 (u.outside_does b)
unfolding u.outside_does
utf7-outside b = choose InUtf7 (eqb b 43) tt (choose InUtf7 (direct b) tt refl)

utf7-unit : (pending : List Bool) → InUtf7 (u.unit_does pending)
unfolding u.unit_does
utf7-unit pending = choose InUtf7 (ltb (length pending) 16) tt tt

utf7-low : (shift : u.Shift) (b : ℕ) → InUtf7 (u.low_does shift b)
unfolding u.low_does u.end_does
utf7-low u.outside b = utf7-outside b
utf7-low u.opening b = choose InUtf7 (set_b slash b) (utf7-unit _) (choose InUtf7 (eqb b 45) tt refl)
utf7-low (u.run pending) b =
    choose InUtf7 (set_b slash b) (utf7-unit _)
    (choose InUtf7 (u.may_end pending) (choose InUtf7 (eqb b 45) tt (utf7-outside b)) refl)

utf7-byte : (shift : u.Shift) (b : ℕ) → InUtf7 (u.byte_does shift b)
unfolding u.byte_does
utf7-byte shift b = choose InUtf7 (ltb b 128) (utf7-low shift b) refl

utf7-end : (size : ℕ) (shift : u.Shift) → KnownEnd (faults_in Utf7) (u.ends_in size shift)
unfolding u.ends_in
utf7-end size u.outside = tt
utf7-end size u.opening = refl
utf7-end size (u.run pending) = choose (KnownEnd (faults_in Utf7)) (u.may_end pending) tt refl

abbrev InJp2 : Does j.State → Type 0
InJp2 = Known (faults_in Jp2)

jp2-between : (g0 g2 : ℕ) (cr : Bool) (b : ℕ) → InJp2 (j.between_does g0 g2 cr b)
unfolding j.between_does j.single_does j.first_does
jp2-between g0 g2 cr b =
    choose InJp2 (eqb b 27) tt
    (choose InJp2 (eqb g0 6 || eqb g0 14) (choose InJp2 (eqb b 14 || eqb b 15) refl tt)
    (choose InJp2 (j.graphic b) tt refl))

jp2-phase : (phase : j.Phase) (g0 g2 b : ℕ) → InJp2 (j.in_phase phase g0 g2 b)
unfolding j.second_does j.shifted_does j.escape_does
jp2-phase j.plain g0 g2 b = jp2-between g0 g2 false b
jp2-phase j.return g0 g2 b = jp2-between g0 g2 true b
jp2-phase (j.first a) g0 g2 b = choose InJp2 (j.graphic b) tt refl
jp2-phase j.shifted g0 g2 b = choose InJp2 (ltb b 32) refl tt
jp2-phase (j.escape bytes) g0 g2 b =
    let all = bytes ++ b ∷ [] in
    choose InJp2 (is_list all (27 ∷ 78 ∷ [])) (choose InJp2 (eqb g2 0) refl tt)
    (choose InJp2 (ltb (row_of_escape all) 9) tt (choose InJp2 (ltb (row_begun_by all) 9) tt refl))

jp2-byte : (st : j.State) (b : ℕ) → InJp2 (j.byte_does st b)
unfolding j.byte_does
jp2-byte st b = choose InJp2 (ltb b 128) (jp2-phase st.phase st.g0 st.g2 b) refl

jp2-end : (phase : j.Phase) (g0 size : ℕ) → KnownEnd (faults_in Jp2) (j.end_phase phase g0 size)
jp2-end j.plain g0 size = choose (KnownEnd (faults_in Jp2)) (eqb g0 6) tt refl
jp2-end j.return g0 size = choose (KnownEnd (faults_in Jp2)) (eqb g0 6) tt refl
jp2-end (j.first a) g0 size = refl
jp2-end j.shifted g0 size = refl
jp2-end (j.escape bytes) g0 size = refl

abbrev InNames : Does m.Shift → Type 0
InNames = Known (faults_in Mailbox)

names-unit : (pending : List Bool) → InNames (m.unit_does pending)
unfolding m.unit_does m.gives_unit
names-unit pending =
    choose InNames (ltb (length pending) 16) tt (choose InNames (printable (number (take 16 pending))) refl tt)

names-low : (shift : m.Shift) (b : ℕ) → InNames (m.low_does shift b)
unfolding m.low_does m.outside_does m.close_does
names-low (m.outside after) b = choose InNames (eqb b 38) tt (choose InNames (printable b) tt refl)
names-low (m.opening after) b =
    choose InNames (set_b comma b) (choose InNames after refl (names-unit _)) (choose InNames (eqb b 45) tt refl)
names-low (m.run pending) b =
    choose InNames (set_b comma b) (names-unit _)
    (choose InNames (eqb b 45)
    (choose InNames (all_zero pending) (choose InNames (ltb (length pending) 6) tt refl) refl) refl)

names-byte : (shift : m.Shift) (b : ℕ) → InNames (m.byte_does shift b)
unfolding m.byte_does
names-byte shift b = choose InNames (ltb b 128) (names-low shift b) refl

names-end : (size : ℕ) (shift : m.Shift) → KnownEnd (faults_in Mailbox) (m.ends_in size shift)
unfolding m.ends_in
names-end size (m.outside after) = tt
names-end size (m.opening after) = refl
names-end size (m.run pending) = refl

pub known : (format : Format) (text : List ℕ) → KnownEnd (faults_in format) (reading_of format text).ending
unfolding reading_of j.ends_in
known Utf7 text = known-reading u.utf7 (faults_in Utf7) (record { bytes = utf7-byte; ends = utf7-end }) text
known Jp2 text =
    known-reading j.jp2 (faults_in Jp2)
    (record { bytes = jp2-byte; ends = λ size st. jp2-end st.phase st.g0 size })
    text
known Mailbox text = known-reading m.mailbox (faults_in Mailbox) (record { bytes = names-byte; ends = names-end }) text
