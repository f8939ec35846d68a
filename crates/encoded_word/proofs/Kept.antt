-- A line's cells are those of its words' text, and no fault has the number 0; what a loop over its bytes keeps. Assumes
-- nothing.
use Prim.Native.Nat.{ℕ, ◌+◌, ◌-◌, ◌*◌, ◌<◌}
use mathlib.Core.Path.{◌≡◌, ap, ◌∙◌}
use mathlib.Core.Bool.{Bool, cond}
use mathlib.Core.List.{List, [], ◌∷◌}
use native.Mathlib.Omega.{arith}
use lib.ListN.{length, drop, length-drop}
use lib.Dec.{ltb, leb, eqb, lit<}
use Rattle.answer.specs.Answer.{numbered}
use Rattle.answer.specs.Output.{filled}
use Rattle.answer.proofs.Below.{cond-case}
use Rattle.answer.proofs.Put.{put_as, put-done}
use Rattle.reading.specs.Reading.{Does, give, go, bad, Ending, accepted, fault, Rule, Reading, verdict_of, reading}
use Rattle.reading.proofs.Laws.{Kept, SoundDoes, SoundEnd, Left}
use Rattle.reading.proofs.Filling.{Filling}
use Rattle.utf7.specs.Writing.{IsUnit}
use Rattle.utf7.proofs.Kept.{SoundShift, utf7-kept}
use Rattle.parsing.specs.Digits.{value_of}
use Rattle.encoded_word.specs.Writing.{itself}
use Rattle.encoded_word.specs.Rule.{Part, start, head, text, equals, half, tail, behind, faulty, most, fed}
use Rattle.encoded_word.specs.Rule.{at_equals, ended, text_does, part_does, ends_in, line_rule, subject}
use Rattle.encoded_word.proofs.Faulty.{faulty-reads}

module _ {S : Type 0} {inner : Rule S} {Sound : S → Type 0} {Good : ℕ → Type 0} (kept : Kept inner Sound Good) where
  abbrev pub SoundPart : Part S → Type 0
  SoundPart start = Unit
  SoundPart (head xs) = Unit
  SoundPart (text n st) = Sound st
  SoundPart (equals n st) = Sound st
  SoundPart (half n d st) = Sound st
  SoundPart tail = Unit
  SoundPart behind = Unit
  SoundPart (faulty k back) = 0 < k

  abbrev Sure : Does (Part S) → Type 0
  Sure m = SoundDoes SoundPart Good m

  fed-kept :
      (n : ℕ) (own : ℕ → Does (Part S)) (m : Does S) → SoundDoes Sound Good m → ((k : ℕ) → 0 < k → Sure (own k)) →
      Sure (fed n own m)
  fed-kept n own (give v st) h f = h
  fed-kept n own (go st) h f = h
  fed-kept n own (bad k) h f = f k h

  ended-kept : (e : Ending) → SoundEnd e → Sure (ended e)
  ended-kept accepted h = tt
  ended-kept (fault k place) h = h

  due-kept : (t : Bool) (p : Part S) → SoundPart p → Sure (cond t (go p) (bad 21))
  due-kept t p h = cond-case Sure t (λ _. h) (λ _. lit< tt)

  text-kept : (n : ℕ) (st : S) (b : ℕ) → Sound st → Sure (text_does inner n st b)
  unfolding text_does
  text-kept n st b h =
      let one : (c : ℕ) → Sure (fed (n + 1) bad (inner.byte st c)) =
      λ c. fed-kept (n + 1) bad (inner.byte st c) (kept.keeps st c h) (λ k z. z) in
      cond-case Sure (eqb b 63)
      (λ _. cond-case Sure (eqb n 0) (λ _. lit< tt) (λ _. ended-kept (inner.end 0 st) (kept.ends 0 st h)))
      (λ _. cond-case Sure (eqb b 61) (λ _. due-kept (leb (n + 3) most) (equals (n + 3) st) h)
      (λ _. cond-case Sure (leb (n + 1) most)
      (λ _. cond-case Sure (eqb b 95) (λ _. one 32) (λ _. cond-case Sure (itself b) (λ _. one b) (λ _. lit< tt)))
      (λ _. lit< tt)))

  part-kept : (p : Part S) (b : ℕ) → SoundPart p → Sure (part_does inner p b)
  unfolding part_does
  part-kept start b h = due-kept (eqb b 61) _ tt
  part-kept (head []) b h = lit< tt
  part-kept (head (x ∷ [])) b h = due-kept (eqb b x) _ kept.starts
  part-kept (head (x ∷ y ∷ xs)) b h = due-kept (eqb b x) _ tt
  part-kept (text n st) b h = text-kept n st b h
  part-kept (equals n st) b h = due-kept (ltb (value_of b) 16) _ h
  part-kept (half n d st) b h =
      let c : ℕ = 16 * d + value_of b in
      cond-case Sure (ltb (value_of b) 16) (λ _. fed-kept n at_equals (inner.byte st c) (kept.keeps st c h) (λ k z. z))
      (λ _. lit< tt)
  part-kept tail b h = due-kept (eqb b 61) _ tt
  part-kept behind b h = due-kept (eqb b 13) _ tt
  part-kept (faulty k back) b h = h

  ends-kept : (size : ℕ) (p : Part S) → SoundPart p → SoundEnd (ends_in size p)
  unfolding ends_in
  ends-kept size start h = tt
  ends-kept size (head xs) h = lit< tt
  ends-kept size (text n st) h = lit< tt
  ends-kept size (equals n st) h = lit< tt
  ends-kept size (half n d st) h = lit< tt
  ends-kept size tail h = lit< tt
  ends-kept size behind h = tt
  ends-kept size (faulty k back) h = h

  pub line_kept : Kept (line_rule inner) SoundPart Good
  line_kept = record { starts = tt; keeps = part-kept; ends = ends-kept }

pub subject-kept : Kept subject (SoundPart utf7-kept) IsUnit
subject-kept = line_kept utf7-kept

-- behind a fault of the text all cells were given
module _ {s : List ℕ} {at k back n : ℕ} where
  pub left-faulty : Left subject s at (faulty k back) n → numbered k (at - back) ≡ verdict_of (reading subject s)
  left-faulty l =
      let e = faulty-reads _ (drop at s) at k back in
      let ends : (reading subject s).ending ≡ fault k (at - back) = l.ending ∙ ap (λ (r : Reading). r.ending) e in
      rw ends

  pub filling-faulty :
      {out₀ out : List ℕ} → Filling subject s at (faulty k back) n out₀ out →
      out ≡ filled (reading subject s).cells out₀
  filling-faulty f = put-done (put_as (ap (λ (r : Reading). r.cells) (faulty-reads _ (drop at s) at k back)) f.put)
