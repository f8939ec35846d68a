-- The bytes of cells outside runs are just those that make them, by any rule. Assumes nothing.
use Prim.Native.Nat.{ℕ, zero, suc, ◌+◌, ◌-◌, ◌<◌, ◌≤◌}
use mathlib.Core.Path.{◌≡◌, refl, sym, ap, ◌∙◌}
use mathlib.Core.Bool.{Bool, true, false, cond}
use mathlib.Core.List.{List, [], ◌∷◌, ◌++◌, append_assoc}
use mathlib.Core.Logic.{◌⊎◌, inl, inr}
use native.Mathlib.Omega.{arith}
use lib.ListN.{length, take, drop, length-append, drop_of_length-le}
use lib.Seq.{take-append-le, take_at, take-length, drop_at}
use lib.Dec.{eqb}
use borrow.Author.Tests.{eqb-true, eqb-false}
use Rattle.answer.specs.Lists.{Each}
use Rattle.answer.proofs.Below.{cond-case}
use Rattle.reading.specs.Reading.{Does, give, go, bad, Rule, on_read, read_from}
use Rattle.reading.specs.Spans.{Takes, marked_as, Marking, on_marked, marked_from, marked_in}
use Rattle.reading.specs.Located.{on_state, state_after, cells_from, Least, Located, silent, without, LocatedIn}
use Rattle.reading.proofs.Laws.{Kept, SoundDoes}
use Rattle.reading.proofs.Walk.{Walk, stay, gives, goes, walk-state, walk-on}

state-on :
    {S : Type 0} (rule : Rule S) (st : S) (bs more : List ℕ) →
    state_after rule st (bs ++ more) ≡ state_after rule (state_after rule st bs) more
unfolding state_after
state-on rule st [] more = refl
state-on rule st (b ∷ bs) more = state-on rule (on_state (rule.byte st b) st) bs more

module _ {S : Type 0} {rule : Rule S} where
  walk-cells : {st end : S} {bs cs : List ℕ} → Walk rule st bs cs end → (at : ℕ) → (read_from rule bs at st).cells ≡ cs
  unfolding read_from
  walk-cells stay at = refl
  walk-cells (gives {v = v} e w) at = rw e (ap (λ (vs : List ℕ). v ∷ vs) (walk-cells w (at + 1)))
  walk-cells (goes e w) at = rw e (walk-cells w (at + 1))

  walk-part :
      {st end : S} {bs : List ℕ} → Walk rule st bs [] end → (k at : ℕ) → (read_from rule (take k bs) at st).cells ≡ []
  unfolding read_from
  walk-part stay zero at = refl
  walk-part stay (suc k) at = refl
  walk-part (goes e w) zero at = refl
  walk-part (goes e w) (suc k) at = rw e (walk-part w k (at + 1))

-- the cells by what the first byte does
pub cells-by :
    {S : Type 0} (rule : Rule S) (st : S) (b : ℕ) (bs : List ℕ) (m : Does S) → rule.byte st b ≡ m →
    cells_from rule st (b ∷ bs) ≡ (on_read m 0 (read_from rule bs 1)).cells
unfolding read_from
cells-by {S} rule st b bs m e = ap (λ (d : Does S). (on_read d 0 (read_from rule bs 1)).cells) e

-- where bytes end, nothing is given
pub least-short :
    {S : Type 0} (rule : Rule S) (st : S) (bytes : List ℕ) (v k : ℕ) → length bytes ≤ k →
    cells_from rule st (drop k bytes) ≡ v ∷ [] → ⊥
unfolding read_from
least-short rule st bytes v k h e = omega (arith, ap length (rw (drop_of_length-le bytes h) at e))

pub least-one : {S : Type 0} (rule : Rule S) (st : S) (b v : ℕ) → Least rule st (b ∷ []) v
least-one rule st b v k h = least-short rule st (b ∷ []) v k h

-- A cell in the making: the bytes of it that a state has taken, and the states that it may have begun in. A byte
-- completes the cell, and then outside runs its bytes are these and that one; it is one more of them; or it ends
-- something that is no cell.
module _
    {S : Type 0} (rule : Rule S) (between : S → Bool) (in_run : S → ℕ → Bool) (marking : Marking S) (since : S → List ℕ)
    (From : S → S → Type 0) where
  pub record Anew (st : S) : Type 0 where
    pub none : since st ≡ []
    pub rests : between st ≡ true
    pub begun : From st st

  pub record Longer (base st : S) (b : ℕ) (st' : S) : Type 0 where
    pub more : since st' ≡ since st ++ b ∷ []
    pub inside : between st' ≡ false
    pub begun : From base st'

  abbrev pub Completes : S → S → ℕ → ℕ → Type 0
  Completes base st b v = Takes (marking st b) (length (since st) + 1) × Least rule base (since st ++ b ∷ []) v

  abbrev pub MakesDoes : S → S → ℕ → Does S → Type 0
  MakesDoes base st b (give v st') = Anew st' × (in_run st b ≡ false → Completes base st b v)
  MakesDoes base st b (go st') = Longer base st b st' ⊎ Anew st'
  MakesDoes base st b (bad k) = Unit

pub record Making
    {S : Type 0} (rule : Rule S) (between : S → Bool) (in_run : S → ℕ → Bool) (marking : Marking S)
    (Sound : S → Type 0) : Type 1 where
  pub since : S → List ℕ
  pub From : S → S → Type 0
  pub starts : Anew rule between in_run marking since From rule.start
  pub makes :
      (base st : S) (b : ℕ) → Sound st → From base st →
      MakesDoes rule between in_run marking since From base st b (rule.byte st b)

module _
    {S : Type 0} {rule : Rule S} {between : S → Bool} {in_run : S → ℕ → Bool} {marking : Marking S} {Sound : S → Type 0}
    {Good : ℕ → Type 0} (kept : Kept rule Sound Good) (making : Making rule between in_run marking Sound)
    (text : List ℕ) where
  -- a reader in a text: the bytes before the cell in the making, those of it, and the rest
  record Here (before made rest : List ℕ) (base st : S) (at : ℕ) : Type 0 where
    whole : text ≡ before ++ (made ++ rest)
    reached : state_after rule rule.start before ≡ base
    walk : Walk rule base made [] st
    rests : between base ≡ true
    inner : (k : ℕ) → 0 < k → k ≤ length made → between (state_after rule base (take k made)) ≡ false
    bytes : making.since st ≡ made
    from : making.From base st
    sound : Sound st
    place : at ≡ length before + length made

  module _
      {before made rest : List ℕ} {b : ℕ} {base st : S} {at : ℕ} (h : Here before made (b ∷ rest) base st at) where
    split : text ≡ before ++ ((made ++ b ∷ []) ++ rest)
    split = h.whole ∙ rw (append_assoc made (b ∷ []) rest)

    size : length (made ++ b ∷ []) ≡ length made + 1
    size = length-append made (b ∷ [])

    part : (k : ℕ) → k ≤ length made → take k (made ++ b ∷ []) ≡ take k made
    part k = take-append-le k made (b ∷ [])

    -- the byte is one more of the cell's
    module _ {st' : S} (e : rule.byte st b ≡ go st') where
      on : Walk rule base (made ++ b ∷ []) [] st'
      on = walk-on h.walk (goes e stay)

      inner-on :
          between st' ≡ false → (k : ℕ) (t : Bool) → eqb k (length made + 1) ≡ t → 0 < k → k ≤ length (made ++ b ∷ []) →
          between (state_after rule base (take k (made ++ b ∷ []))) ≡ false
      inner-on i k true q some few =
          rw (eqb-true k _ q, ← size, take-length (made ++ b ∷ []), walk-state on) i
      inner-on i k false q some few =
          let few : k ≤ length made = omega (arith, eqb-false k _ q, size) in
          rw (part k few) (h.inner k some few)

      here_on :
          Longer rule between in_run marking making.since making.From base st b st' → Sound st' →
          Here before (made ++ b ∷ []) rest base st' (at + 1)
      here_on l sound =
          record {
            whole = split;
            reached = h.reached;
            walk = on;
            rests = h.rests;
            inner = λ k. inner-on l.inside k _ refl;
            bytes = l.more ∙ ap (λ (x : List ℕ). x ++ b ∷ []) h.bytes;
            from = l.begun;
            sound = sound;
            place = omega (arith, h.place, size);
          }

    -- the byte is the last of something
    here-anew :
        {st' : S} {cs : List ℕ} → Walk rule base (made ++ b ∷ []) cs st' →
        Anew rule between in_run marking making.since making.From st' → Sound st' →
        Here (before ++ (made ++ b ∷ [])) [] rest st' st' (at + 1)
    here-anew w s sound =
        record {
          whole = split ∙ sym (append_assoc before (made ++ b ∷ []) rest);
          reached = state-on rule rule.start before (made ++ b ∷ []) ∙ rw h.reached (walk-state w);
          walk = stay;
          rests = s.rests;
          inner = λ k some few. absurd (omega arith);
          bytes = s.none;
          from = s.begun;
          sound = sound;
          place = omega (arith, h.place, size, length-append before (made ++ b ∷ []));
        }

    -- a cell that the byte completes
    here-located :
        {v : ℕ} {st' : S} → rule.byte st b ≡ give v st' →
        Completes rule between in_run marking making.since making.From base st b v →
        Located rule between text (marked_as v (marking st b at))
    here-located {v} e c =
        let q = rw h.bytes at c in
        let begin : at + 1 - (length made + 1) ≡ length before = omega (arith, h.place) in
        let count : at + 1 - length before ≡ length (made ++ b ∷ []) = omega (arith, h.place, size) in
        let front : take (length before) text ≡ before = rw split (take_at before _ (length before) refl) in
        let back : take (length (made ++ b ∷ [])) (drop (length before) text) ≡ made ++ b ∷ [] =
        rw (split, drop_at before ((made ++ b ∷ []) ++ rest) (length before) refl)
        (take_at (made ++ b ∷ []) rest _ refl)
        in
        rw (q.0 at, begin, count, front, back, h.reached)
        (record {
          rests = h.rests;
          gives = walk-cells (walk-on h.walk (gives e stay)) 0;
          last = λ k few. rw (part k (omega (arith, size))) (walk-part h.walk k 0);
          inside = λ k some few. rw (part k (omega (arith, size))) (h.inner k some (omega (arith, size)));
          least = q.1;
        })

  abbrev outside : Rule S
  outside = without in_run rule

  abbrev AllLocated : List ℕ → ℕ → S → Type 0
  AllLocated bs at st = Each (Located rule between text) (marked_from outside marking bs at st)

  abbrev Marks : List ℕ → S → ℕ → ℕ → Does S → Type 0
  Marks rest st b at does =
      Each (Located rule between text) (on_marked does (marking st b at) (marked_from outside marking rest (at + 1)))

  located-does :
      {before made rest : List ℕ} {b : ℕ} {base st : S} {at : ℕ} (does : Does S) →
      Here before made (b ∷ rest) base st at → rule.byte st b ≡ does → SoundDoes Sound Good does →
      MakesDoes rule between in_run marking making.since making.From base st b does →
      ((before' made' : List ℕ) (base' st' : S) → Here before' made' rest base' st' (at + 1) →
      AllLocated rest (at + 1) st') →
      Marks rest st b at (cond (in_run st b) (silent does) does)
  located-does {rest = rest} {b} {st = st} {at} (give v st') h e sound m ih =
      let next = ih _ _ _ _ (here-anew h (walk-on h.walk (gives e stay)) m.0 sound.1) in
      cond-case (Marks rest st b at) (in_run st b) (λ _. next) (λ i. (here-located h e (m.1 i), next))
  located-does {rest = rest} {b} {st = st} {at} (go st') h e sound (inl m) ih =
      let next = ih _ _ _ _ (here_on h e m sound) in
      cond-case (Marks rest st b at) (in_run st b) (λ _. next) (λ _. next)
  located-does {rest = rest} {b} {st = st} {at} (go st') h e sound (inr m) ih =
      let next = ih _ _ _ _ (here-anew h (walk-on h.walk (goes e stay)) m sound) in
      cond-case (Marks rest st b at) (in_run st b) (λ _. next) (λ _. next)
  located-does {rest = rest} {b} {st = st} {at} (bad k) h e sound m ih =
      cond-case (Marks rest st b at) (in_run st b) (λ _. tt) (λ _. tt)

  located-from :
      {before made : List ℕ} {base st : S} {at : ℕ} (rest : List ℕ) → Here before made rest base st at →
      AllLocated rest at st
  unfolding marked_from
  located-from [] h = tt
  located-from {before = before} {made = made} {base = base} {st = st} {at = at} (b ∷ rest) h =
      located-does (rule.byte st b) h refl (kept.keeps st b h.sound) (making.makes base st b h.sound h.from)
      (λ before' made' base' st'. located-from {before = before'} {made = made'} {base = base'} {st = st'} {at = at + 1} rest)

  -- the bytes of a text's cells outside runs make those cells
  pub located : LocatedIn rule between in_run marking text
  unfolding marked_in state_after
  located =
      located-from {before = []} {made = []} text
      (record {
        whole = refl;
        reached = refl;
        walk = stay;
        rests = making.starts.rests;
        inner = λ k some few. absurd (omega arith);
        bytes = making.starts.none;
        from = making.starts.begun;
        sound = kept.starts;
        place = omega arith;
      })
