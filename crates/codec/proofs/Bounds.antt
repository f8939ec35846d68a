-- Accepted bytes are bytes; cells that are read, and cells that may be written, are 32-bit numbers. Assumes nothing.
use Prim.Native.Nat.{ℕ, ◌/◌, ◌%◌, ◌<◌, ◌≤◌, ◌^◌}
use mathlib.Core.Path.{◌≡◌}
use mathlib.Core.Bool.{cond}
use mathlib.Core.List.{List, [], ◌∷◌}
use native.Mathlib.Omega.{arith}
use lib.ListN.{length}
use lib.Dec.{ltb, lit<}
use borrow.Author.Tests.{ltb-true}
use Rattle.answer.specs.Lists.{Each}
use Rattle.answer.proofs.Below.{cond-case}
use Rattle.reading.specs.Reading.{Does, give, go, bad, accepted, Rule, reading}
use Rattle.reading.proofs.Walk.{Walk, stay, gives, goes, accepted-walk}
use Rattle.utf7.specs.Rule.{Shift, utf7}
use Rattle.utf7.specs.Rule.{byte_does as utf7-byte}
use Rattle.utf7.specs.Writing.{IsUnit}
use Rattle.utf7.proofs.Kept.{units-read}
use Rattle.utf7.proofs.Pieces.{units-all}
use Rattle.jp2.specs.Rule.{State, jp2}
use Rattle.jp2.specs.Rule.{byte_does as jp2-byte}
use Rattle.jp2.specs.Writable.{writable}
use Rattle.jp2.proofs.Sets.{Writable, pair-case, shift-case, kind-of}
use Rattle.jp2.proofs.Sets as sets
use Rattle.jp2.proofs.Foreign.{all-writable}
use Rattle.jp2.proofs.Kept.{cells-writable}
use Rattle.codec.specs.declared.Kind.{Kind}
use Rattle.codec.specs.declared.Kind.TheVariants.{Utf7Header, Utf7Body, Jp2}
use Rattle.codec.specs.Kinds.{format_of, reading_of, reading_in, first_unwritable}

-- a cell or a word is a 32-bit number
abbrev pub Word : ℕ → Type 0
Word v = v < 2 ^ 32

abbrev Taken : {S : Type 0} → Does S → Type 0
Taken (give v st) = Unit
Taken (go st) = Unit
Taken (bad k) = ⊥

-- bytes that a rule takes
module _ {S : Type 0} {rule : Rule S} (low : (st : S) (b : ℕ) → Taken (rule.byte st b) → b < 2 ^ 8) where
  walk-bytes : {st end : S} {bs cs : List ℕ} → Walk rule st bs cs end → Each (λ b. b < 2 ^ 8) bs
  walk-bytes stay = tt
  walk-bytes (gives {st = st} {b = b} e w) = (low st b (rw e tt), walk-bytes w)
  walk-bytes (goes {st = st} {b = b} e w) = (low st b (rw e tt), walk-bytes w)

low-if : {S : Type 0} (b : ℕ) (x : Does S) → Taken (cond (ltb b 128) x (bad 1)) → b < 2 ^ 8
low-if {S} b x =
    cond-case (λ (m : Does S). Taken m → b < 2 ^ 8) (ltb b 128) (λ t _. omega (arith, ltb-true b 128 t))
    (λ _ z. absurd z)

utf7-low : (st : Shift) (b : ℕ) → Taken (utf7.byte st b) → b < 2 ^ 8
unfolding utf7-byte
utf7-low st b = low-if b _

jp2-low : (st : State) (b : ℕ) → Taken (jp2.byte st b) → b < 2 ^ 8
unfolding jp2-byte
jp2-low st b = low-if b _

pub arrived-bytes :
    (kind : Kind) (text : List ℕ) → (reading_in kind text).ending ≡ accepted → Each (λ b. b < 2 ^ 8) text
unfolding format_of reading_of
arrived-bytes Utf7Header text e = walk-bytes utf7-low (accepted-walk utf7 text e).walk
arrived-bytes Utf7Body text e = walk-bytes utf7-low (accepted-walk utf7 text e).walk
arrived-bytes Jp2 text e = walk-bytes jp2-low (accepted-walk jp2 text e).walk

each-weaker : {P Q : ℕ → Type 0} → ((v : ℕ) → P v → Q v) → (vs : List ℕ) → Each P vs → Each Q vs
each-weaker f [] h = tt
each-weaker f (v ∷ vs) h = (f v h.0, each-weaker f vs h.1)

-- the sets' numbers are below 160
set-low : (n c : ℕ) → sets.Kind n c → n < 160
set-low n c (sets.of-ascii h) = lit< tt
set-low n c (sets.of-roman h) = lit< tt
set-low n c (sets.of_pair p h k) =
    pair-case (λ n. n < 160) n (lit< tt) (lit< tt) (lit< tt) (lit< tt) (lit< tt) p
set-low n c (sets.of_shift p h k) = shift-case (λ n. n < 160) n (lit< tt) (lit< tt) p

writable-word : (v : ℕ) → Writable v → Word v
unfolding writable
writable-word v h = omega (arith, set-low (v / 65536) (v % 65536) (kind-of (v / 65536) (v % 65536) h))

unit-word : (v : ℕ) → IsUnit v → Word v
unit-word v h = omega arith

pub cells-read : (kind : Kind) (text : List ℕ) → Each Word (reading_in kind text).cells
unfolding format_of reading_of
cells-read Utf7Header text = each-weaker unit-word (reading utf7 text).cells (units-read text)
cells-read Utf7Body text = each-weaker unit-word (reading utf7 text).cells (units-read text)
cells-read Jp2 text = each-weaker writable-word (reading jp2 text).cells (cells-writable text)

pub cells-added : (kind : Kind) (cells : List ℕ) → length cells ≤ first_unwritable kind cells → Each Word cells
unfolding first_unwritable
cells-added Utf7Header cells h = each-weaker unit-word cells (units-all cells h)
cells-added Utf7Body cells h = each-weaker unit-word cells (units-all cells h)
cells-added Jp2 cells h = each-weaker writable-word cells (all-writable cells h)
