-- Comparing a text with cells while it is read, with no buffer: what a loop over its bytes keeps. Assumes nothing.
use Prim.Native.Nat.{ℕ, ◌+◌, ◌<◌, ◌≤◌}
use mathlib.Core.Path.{◌≡◌, refl, sym, ap, ◌∙◌}
use mathlib.Core.Bool.{Bool, true, false, cond}
use mathlib.Core.List.{List, [], ◌∷◌}
use native.Mathlib.Omega.{arith}
use native.Mathlib.Numerals.{add-one}
use lib.ListN.{length, get_or, drop, length-drop, drop_of_length-le}
use lib.Seq.{drop-cons}
use lib.Dec.{eqb}
use borrow.Author.Tests.{eq-eqb, ne_eqb}
use Rattle.std.specs.declared.result.Result.TheVariants.{Ok, Err}
use Rattle.answer.specs.declared.Refused.{Refused}
use Rattle.answer.specs.Answer.{Verdict, numbered, number_of, in_numbers, Answer}
use Rattle.answer.specs.declared.Refusal.{Refusal}
use Rattle.answer.proofs.Once.{number-pos}
use Rattle.reading.specs.Reading.{give, go, bad, Ending, accepted, fault, Rule, Reading, closing, read_from, reading}
use Rattle.reading.specs.Matching.{same_cells, accepted_as, gave, reads_as}
use Rattle.reading.proofs.Laws.{SoundEnd, read_by, read-end}

-- n cells were the same: whether the text reads as the cells is whether its rest does as theirs
pub record Matching {S : Type 0} (rule : Rule S) (s cells : List ℕ) (at : ℕ) (st : S) (n : ℕ) : Type 0 where
  pub few : n ≤ at
  pub inside : n ≤ length cells
  pub so : gave (read_from rule (drop at s) at st) (drop n cells) ≡ reads_as rule s cells

pub matching-start : {S : Type 0} (rule : Rule S) (s cells : List ℕ) → Matching rule s cells 0 rule.start 0
unfolding reads_as reading
matching-start rule s cells = record { few = omega arith; inside = omega arith; so = refl }

-- one cell more on either side
same_more : (e : Ending) (v c : ℕ) (read cells : List ℕ) → accepted_as e (v ∷ read) (c ∷ cells) ≡ cond (eqb v c) (accepted_as e read cells) false
unfolding same_cells
same_more accepted v c read cells = refl
same_more (fault k place) v c read cells = cond-false (eqb v c)
  where
    cond-false : (t : Bool) → false ≡ cond t false false
    cond-false true = refl
    cond-false false = refl

same_none : (e : Ending) (v : ℕ) (read : List ℕ) → accepted_as e (v ∷ read) [] ≡ false
unfolding same_cells
same_none accepted v read = refl
same_none (fault k place) v read = refl

module _ {S : Type 0} {rule : Rule S} {s cells : List ℕ} {at : ℕ} {st : S} {n : ℕ} (m : Matching rule s cells at st n) where
  by : (r : Reading) → read_from rule (drop at s) at st ≡ r → gave r (drop n cells) ≡ reads_as rule s cells
  by r e = rw (← e) m.so

  module _ (h : at < length s) where
    module _ {v : ℕ} {st' : S} (e : rule.byte st (get_or s at 0) ≡ give v st') where
      abbrev rest : Reading
      rest = read_from rule (drop (at + 1) s) (at + 1) st'

      given : accepted_as rest.ending (v ∷ rest.cells) (drop n cells) ≡ reads_as rule s cells
      given = by _ (read_by rule s at st (give v st') h e)

      module _ (k : n < length cells) where
        at-cell : cond (eqb v (get_or cells n 0)) (gave rest (drop (n + 1) cells)) false ≡ reads_as rule s cells
        at-cell =
            let d : drop n cells ≡ get_or cells n 0 ∷ drop (n + 1) cells = rw (add-one n) (drop-cons cells n 0 k) in
            sym (same_more rest.ending v (get_or cells n 0) rest.cells (drop (n + 1) cells)) ∙ rw d at given

        pub matching-give : get_or cells n 0 ≡ v → Matching rule s cells (at + 1) st' (n + 1)
        matching-give q = record { few = omega (arith, m.few); inside = omega arith; so = rw (eq-eqb v (get_or cells n 0) (sym q)) at at-cell }

        pub matching-other : (get_or cells n 0 ≡ v → ⊥) → false ≡ reads_as rule s cells
        matching-other q = rw (ne_eqb v (get_or cells n 0) (λ z. q (sym z))) at at-cell

      pub matching-past : length cells ≤ n → false ≡ reads_as rule s cells
      matching-past k =
          sym (same_none rest.ending v rest.cells) ∙ rw (drop_of_length-le cells k) at given

    pub matching-go : {st' : S} → rule.byte st (get_or s at 0) ≡ go st' → Matching rule s cells (at + 1) st' n
    matching-go {st'} e = record { few = omega (arith, m.few); inside = m.inside; so = by _ (read_by rule s at st (go st') h e) }

    pub matching-bad : {k : ℕ} → rule.byte st (get_or s at 0) ≡ bad k → false ≡ reads_as rule s cells
    matching-bad {k} e = by _ (read_by rule s at st (bad k) h e)

  -- at the end of the text: the answer `a` says whether it may end there
  module _ (h : length s ≤ at) where
    ended : accepted_as (rule.end at st) [] (drop n cells) ≡ reads_as rule s cells
    ended = by _ (read-end rule s at st h)

    refused-by : (why : Refusal) (place : ℕ) (e : Ending) → numbered (number_of why) place ≡ closing e n → accepted_as e [] (drop n cells) ≡ false
    refused-by why place accepted z = absurd (omega (arith, number-pos why, ap (λ (v : Verdict). v.number) z))
    refused-by why place (fault k p) z = refl

    pub matching-refused : (a : Answer) {deny : Refused} → in_numbers a ≡ closing (rule.end at st) n → a ≡ Err deny → false ≡ reads_as rule s cells
    matching-refused a {deny} q e = sym (refused-by deny.0 deny.1 (rule.end at st) (rw e at q)) ∙ ended

    all-compared : (l : List ℕ) → drop n cells ≡ l → same_cells [] l ≡ eqb n (length cells)
    unfolding same_cells
    all-compared [] d = sym (eq-eqb n (length cells) (omega (arith, ap length d, length-drop n cells, m.inside)))
    all-compared (c ∷ l) d = sym (ne_eqb n (length cells) (λ (z : n ≡ length cells). omega (arith, ap length d, length-drop n cells)))

    accepted-by : (k : ℕ) (e : Ending) → SoundEnd e → numbered 0 k ≡ closing e n → accepted_as e [] (drop n cells) ≡ eqb n (length cells)
    accepted-by k accepted w z = all-compared (drop n cells) refl
    accepted-by k (fault j p) w z = absurd (omega (arith, w, ap (λ (x : Verdict). x.number) z))

    pub matching-accepted :
        (a : Answer) {k : ℕ} → SoundEnd (rule.end at st) → in_numbers a ≡ closing (rule.end at st) n → a ≡ Ok k → eqb n (length cells) ≡ reads_as rule s cells
    matching-accepted a {k} w q e = sym (accepted-by k (rule.end at st) w (rw e at q)) ∙ ended
