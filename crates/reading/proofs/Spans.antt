-- Cells with their bytes, by any rule: they are the cells of the reading, in order, and share bytes only in runs. Assumes nothing.
use Prim.Native.Nat.{ℕ, ◌+◌, ◌-◌, ◌<◌, ◌≤◌}
use mathlib.Core.Path.{◌≡◌, refl, ap}
use mathlib.Core.Bool.{Bool, true, false, ◌||◌}
use mathlib.Core.List.{List, [], ◌∷◌, ◌++◌, map}
use native.Mathlib.Omega.{arith}
use native.Mathlib.Numerals.{add-one}
use lib.ListN.{length, get_or, drop}
use lib.Seq.{drop-cons}
use borrow.Author.Tests.{leb-true}
use Rattle.answer.specs.Lists.{Each}
use Rattle.reading.specs.Reading.{Does, give, go, bad, Rule, Reading, on_read, read_from, reading}
use Rattle.reading.specs.Spans.{Span, Takes, marked_as, Marking, on_marked, marked_from, marked_in, Within, narrow, Follows, InOrder}
use Rattle.reading.specs.declared.Marked.{Marked}
use Rattle.reading.proofs.Laws.{Kept, SoundDoes}
use Rattle.reading.proofs.Walk.{Walk, stay, gives, goes}

abbrev pub values : List Marked → List ℕ
values ms = map (λ (m : Marked). m.value) ms

module _ {S : Type 0} (rule : Rule S) (marking : Marking S) where
  -- the marked cells from a place that has a byte
  pub marked_by :
      (s : List ℕ) (at : ℕ) (st : S) (m : Does S) → at < length s → rule.byte st (get_or s at 0) ≡ m →
      marked_from rule marking (drop at s) at st ≡ on_marked m (marking st (get_or s at 0) at) (marked_from rule marking (drop (at + 1) s) (at + 1))
  unfolding marked_from
  marked_by s at st m h e = rw (drop-cons s at 0 h, add-one, e)

  values-does :
      (m : Does S) (sp : Span) (at : ℕ) (marks : S → List Marked) (rest : S → Reading) → ((st : S) → values (marks st) ≡ (rest st).cells) →
      values (on_marked m sp marks) ≡ (on_read m at rest).cells
  values-does (give v st) sp at marks rest ih = ap (λ (vs : List ℕ). v ∷ vs) (ih st)
  values-does (go st) sp at marks rest ih = ih st
  values-does (bad k) sp at marks rest ih = refl

  values-from : (bs : List ℕ) (at : ℕ) (st : S) → values (marked_from rule marking bs at st) ≡ (read_from rule bs at st).cells
  unfolding marked_from read_from
  values-from [] at st = refl
  values-from (b ∷ bs) at st =
      values-does (rule.byte st b) (marking st b at) at (marked_from rule marking bs (at + 1)) (read_from rule bs (at + 1)) (values-from bs (at + 1))

  -- the cells are those of the reading
  pub marked-cells : (text : List ℕ) → values (marked_in rule marking text) ≡ (reading rule text).cells
  unfolding marked_in reading
  marked-cells text = values-from text 0 rule.start

  -- the marked cells behind a walk
  pub marked-walk :
      {st end : S} {bs cs : List ℕ} → Walk rule st bs cs end → (rest : List ℕ) (at at' : ℕ) → at + length bs ≡ at' →
      drop (length cs) (marked_from rule marking (bs ++ rest) at st) ≡ marked_from rule marking rest at' end
  unfolding marked_from
  marked-walk stay rest at at' e =
      let q : at ≡ at' = omega arith in
      rw q
  marked-walk (gives q w) rest at at' e = rw q (marked-walk w rest (at + 1) at' (omega arith))
  marked-walk (goes q w) rest at at' e = rw q (marked-walk w rest (at + 1) at' (omega arith))

-- What a marking keeps. A state leads by some bytes: so many before the next one may belong to the cell in the making; the fresh ones of them lie past the
-- last cell. A cell has its last byte and at most those that led to it. Its last byte may belong to the next cell too, but not where it has few bytes, and then the
-- others are fresh.
module _ {S : Type 0} (few : ℕ) (lead fresh : S → ℕ) (marking : Marking S) where
  pub record Gives (st st' : S) (b : ℕ) : Type 0 where
    pub count : ℕ
    pub last : Takes (marking st b) count
    pub own : 1 ≤ count
    pub led : count ≤ lead st + 1
    pub shared : lead st' ≤ 1
    pub past : fresh st' ≡ 0
    pub unshared : count ≤ few → lead st' ≡ 0
    pub anew : count ≤ few → count ≤ fresh st + 1

  -- a cell that shares no byte, nor with the next
  pub alone : (st st' : S) (b count : ℕ) → Takes (marking st b) count → 1 ≤ count → count ≤ lead st + 1 → count ≤ fresh st + 1 → lead st' ≡ 0 → fresh st' ≡ 0 → Gives st st' b
  alone st st' b count last own led anew none past =
      record { count = count; last = last; own = own; led = led; shared = omega (arith, none); past = past; unshared = λ _. none; anew = λ _. anew }

  abbrev pub LeadDoes : S → ℕ → Does S → Type 0
  LeadDoes st b (give v st') = Gives st st' b
  LeadDoes st b (go st') = (lead st' ≤ lead st + 1) × (fresh st' ≤ fresh st + 1)
  LeadDoes st b (bad k) = Unit

pub record Marks {S : Type 0} (rule : Rule S) (marking : Marking S) (Sound : S → Type 0) (few : ℕ) : Type 0 where
  pub lead : S → ℕ
  pub fresh : S → ℕ
  pub starts : (lead rule.start ≡ 0) × (fresh rule.start ≡ 0)
  pub leads : (st : S) (b : ℕ) → Sound st → LeadDoes few lead fresh marking st b (rule.byte st b)

either : {X : Type 0} (s t : Bool) → (s || t) ≡ true → (s ≡ true → X) → (t ≡ true → X) → X
either true t e f g = f refl
either false t e f g = g e

module _ {S : Type 0} {rule : Rule S} {marking : Marking S} {Sound : S → Type 0} {Good : ℕ → Type 0} {few : ℕ} (kept : Kept rule Sound Good) (marks : Marks rule marking Sound few) where
  -- a cell that was given before a place and a state
  record Before (m : Marked) (at : ℕ) (st : S) : Type 0 where
    begun : m.begin + marks.lead st ≤ at
    ended : m.end + marks.fresh st ≤ at
    closed : narrow few m ≡ true → m.end + marks.lead st ≤ at

  module _ {st st' : S} {b : ℕ} (v at : ℕ) (g : Gives few marks.lead marks.fresh marking st st' b) (deep : marks.lead st ≤ at) where
    abbrev here : Marked
    here = marked_as v (marking st b at)

    narrowed : narrow few here ≡ true → g.count ≤ few
    narrowed h = omega (arith, leb-true (at + 1 - (at + 1 - g.count)) few (rw (g.last at) at h), g.led)

    given-within : (size : ℕ) → at < size → Within size here
    given-within size h = rw (g.last at) (omega (arith, g.own), omega arith)

    given-before : Before here (at + 1) st'
    given-before =
        record {
          begun = rw (g.last at) (omega (arith, g.own, g.shared));
          ended = rw (g.last at) (omega (arith, g.past));
          closed = λ h. rw (g.last at) (omega (arith, g.unshared (narrowed h)));
        }

    given-follows : (m : Marked) → Before m at st → Follows few m here
    given-follows m w =
        record {
          begins = rw (g.last at) (omega (arith, w.begun, g.led));
          ends = rw (g.last at) (omega (arith, w.ended));
          apart = λ h. rw (g.last at) (either (narrow few m) (narrow few here) h (λ n. omega (arith, w.closed n, g.led)) (λ n. omega (arith, w.ended, g.anew (narrowed n))));
        }

    still_before : (m : Marked) → Before m at st → Before m (at + 1) st'
    still_before m w =
        record {
          begun = omega (arith, w.begun, g.shared);
          ended = omega (arith, w.ended, g.past);
          closed = λ h. omega (arith, w.ended, g.shared);
        }

  goes_before : {st st' : S} {m : Marked} {at : ℕ} → marks.lead st' ≤ marks.lead st + 1 → marks.fresh st' ≤ marks.fresh st + 1 → Before m at st → Before m (at + 1) st'
  goes_before l f w =
      record { begun = omega (arith, w.begun); ended = omega (arith, w.ended); closed = λ h. omega (arith, w.closed h) }

  -- every later cell follows one that was given before
  follows-does :
      (m : Marked) (st : S) (b at : ℕ) (does : Does S) (rest : S → List Marked) → marks.lead st ≤ at → SoundDoes Sound Good does →
      LeadDoes few marks.lead marks.fresh marking st b does → Before m at st →
      ((st' : S) → Sound st' → marks.lead st' ≤ at + 1 → Before m (at + 1) st' → Each (Follows few m) (rest st')) →
      Each (Follows few m) (on_marked does (marking st b at) rest)
  follows-does m st b at (give v st') rest deep sound g w ih =
      (given-follows v at g deep m w, ih st' sound.1 (omega (arith, g.shared)) (still_before v at g deep m w))
  follows-does m st b at (go st') rest deep sound g w ih = ih st' sound (omega (arith, g.0)) (goes_before g.0 g.1 w)
  follows-does m st b at (bad k) rest deep sound g w ih = tt

  follows-from :
      (m : Marked) (bs : List ℕ) (at : ℕ) (st : S) → Sound st → marks.lead st ≤ at → Before m at st → Each (Follows few m) (marked_from rule marking bs at st)
  unfolding marked_from
  follows-from m [] at st h deep w = tt
  follows-from m (b ∷ bs) at st h deep w =
      follows-does m st b at (rule.byte st b) (marked_from rule marking bs (at + 1)) deep (kept.keeps st b h) (marks.leads st b h) w
      (follows-from m bs (at + 1))

  order-does :
      (size : ℕ) (bs : List ℕ) (st : S) (b at : ℕ) (does : Does S) → at < size → marks.lead st ≤ at → SoundDoes Sound Good does →
      LeadDoes few marks.lead marks.fresh marking st b does →
      ((st' : S) → Sound st' → marks.lead st' ≤ at + 1 → InOrder few size (marked_from rule marking bs (at + 1) st')) →
      InOrder few size (on_marked does (marking st b at) (marked_from rule marking bs (at + 1)))
  unfolding InOrder
  order-does size bs st b at (give v st') h deep sound g ih =
      let l : marks.lead st' ≤ at + 1 = omega (arith, g.shared) in
      (given-within v at g deep size h, follows-from (marked_as v (marking st b at)) bs (at + 1) st' sound.1 l (given-before v at g deep), ih st' sound.1 l)
  order-does size bs st b at (go st') h deep sound g ih = ih st' sound (omega (arith, g.0))
  order-does size bs st b at (bad k) h deep sound g ih = tt

  order_from :
      (size : ℕ) (bs : List ℕ) (at : ℕ) (st : S) → at + length bs ≡ size → Sound st → marks.lead st ≤ at → InOrder few size (marked_from rule marking bs at st)
  unfolding marked_from InOrder
  order_from size [] at st n h deep = tt
  order_from size (b ∷ bs) at st n h deep =
      order-does size bs st b at (rule.byte st b) (omega arith) deep (kept.keeps st b h) (marks.leads st b h)
      (λ st'. order_from size bs (at + 1) st' (omega arith))

  -- the bytes of a text's cells lie within the text, in order, and are shared only by the cells that have many
  pub in_order : (text : List ℕ) → InOrder few (length text) (marked_in rule marking text)
  unfolding marked_in
  in_order text = order_from (length text) text 0 rule.start (omega arith) kept.starts (omega (arith, marks.starts.0))
