-- Whether arrived bytes belong to a sound page, by one reading of them. Assumes nothing.
use Prim.Native.Nat.{ℕ, ◌<◌}
use mathlib.Core.Path.{◌≡◌, refl, sym, ap, ◌∙◌}
use mathlib.Core.Bool.{Bool, true, false, ◌&&◌}
use mathlib.Core.List.{List, [], ◌∷◌, reverse}
use native.Mathlib.Omega.{arith}
use lib.ListN.{length}
use lib.Dec.{eqb}
use borrow.Author.Tests.{eq-eqb, ne_eqb}
use Rattle.std.specs.declared.result.Result.TheVariants.{Ok, Err}
use Rattle.answer.specs.declared.Refused.{Refused}
use Rattle.answer.specs.Answer.{Verdict, numbered, number_of, in_numbers, Answer}
use Rattle.answer.specs.declared.Refusal.{Refusal}
use Rattle.answer.proofs.Once.{number-pos}
use Rattle.reading.specs.Reading.{Reading, Ending, accepted, fault, closing, verdict_of}
use Rattle.reading.proofs.Laws.{SoundEnd}
use Rattle.codec.specs.Kinds.{reading_in}
use Rattle.ledger.specs.Words.{Entry, sizes, reached}
use Rattle.page_file.specs.File.{Content}
use Rattle.page_file.specs.Calls.{count_is, counted, belongs}
use Rattle.page_file.specs.Inner.{belongs_by}
use Rattle.page_file.proofs.Calls.{belongs-nothing}

and-true : (t : Bool) → (t && true) ≡ t
and-true true = refl
and-true false = refl

pub belongs-by :
    (c : Content) (standing : List Entry) → sizes standing ≡ c.page.done → reached c.page.opening
    (reverse standing) ≡ c.page.length →
    length c.text ≡ c.page.length → belongs c standing ≡ belongs_by c.page c.text c.arrived
unfolding belongs reached
belongs-by c [] e r h =
    let z : eqb c.page.done 0 ≡ true = eq-eqb c.page.done 0 (sym e) in
    rw z (belongs-nothing c (h ∙ sym r))
belongs-by c (x ∷ back) e r h =
    let z : eqb c.page.done 0 ≡ false = ne_eqb c.page.done 0 (λ (y : c.page.done ≡ 0). omega arith) in
    rw z (and-true (counted c.page.opening (reading_in c.page.kind c.arrived)))

-- the count of cells, by the answer of reading
module _ (r : Reading) (sound : SoundEnd r.ending) (n : ℕ) where
  numbers : {k m : ℕ} {p q : ℕ} → numbered k p ≡ numbered m q → (k ≡ m) × (p ≡ q)
  numbers e = (ap (λ (v : Verdict). v.number) e, ap (λ (v : Verdict). v.place) e)

  yes-by : (e : Ending) → SoundEnd e → (m : ℕ) → numbered 0 m ≡ closing e (length r.cells) → eqb m n ≡ count_is n e
      r.cells
  yes-by accepted h m q = rw (numbers q).1
  yes-by (fault k place) h m q = absurd (omega (arith, (numbers q).0))

  no-by : (e : Ending) (k p : ℕ) → 0 < k → numbered k p ≡ closing e (length r.cells) → false ≡ count_is n e r.cells
  no-by accepted k p h q = absurd (omega (arith, (numbers q).0))
  no-by (fault j place) k p h q = refl

  pub count_yes : {a : Answer} {m : ℕ} → in_numbers a ≡ verdict_of r → a ≡ Ok m → eqb m n ≡ counted n r
  count_yes {a} {m} e q = yes-by r.ending sound m (sym (ap in_numbers q) ∙ e)

  pub count_no : {a : Answer} {deny : Refused} → in_numbers a ≡ verdict_of r → a ≡ Err deny → false ≡
      counted n r
  count_no {a} {deny} e q = no-by r.ending (number_of deny.0) deny.1 (number-pos deny.0) (sym (ap in_numbers q) ∙ e)
