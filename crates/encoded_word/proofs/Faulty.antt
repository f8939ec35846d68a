-- Behind a fault of the words' text nothing more is read. Assumes nothing.
use Prim.Native.Nat.{ℕ, ◌+◌, ◌-◌}
use mathlib.Core.Path.{◌≡◌, refl, ◌∙◌, ap}
use mathlib.Core.List.{List, [], ◌∷◌}
use native.Mathlib.Omega.{arith}
use Rattle.reading.specs.Reading.{fault, Rule, Reading, read_from}
use Rattle.encoded_word.specs.Rule.{Part, faulty, part_does, ends_in, line_rule}

pub faulty-reads :
    {S : Type 0} (inner : Rule S) (bs : List ℕ) (at k back : ℕ) →
    read_from (line_rule inner) bs at (faulty k back) ≡ record { cells = []; ending = fault k (at - back) }
unfolding read_from part_does ends_in
faulty-reads inner [] at k back = refl
faulty-reads inner (b ∷ bs) at k back =
    let e : at + 1 - (back + 1) ≡ at - back = omega arith in
    faulty-reads inner bs (at + 1) k (back + 1) ∙ rw e
