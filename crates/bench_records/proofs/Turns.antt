-- Laws of the pass over words, a turn of its loop at a time. Assumes nothing.
use Prim.Native.Nat.{ℕ, zero, suc, ◌+◌, ◌-◌, ◌≤◌, ◌<◌}
use mathlib.Core.Path.{◌≡◌, refl, sym, ap, ◌∙◌, subst}
use mathlib.Core.Bool.{Bool, true, false, cond, ◌&&◌}
use mathlib.Core.List.{List, [], ◌∷◌}
use Rattle.std.specs.Prelude.{Option, None, Some}
use native.Mathlib.Omega.{arith}
use native.Mathlib.Numerals.{add-one}
use lib.ListN.{length, get_or, take, drop, length-drop, drop_of_length-le}
use lib.Seq.{slice, slice-cons, length-slice, drop-drop, length-take-le}
use lib.Dec.{leb, ltb, eqb}
use borrow.Author.Tests.{le-leb, lt-leb, lt-ltb, le-ltb, eq-eqb, ne_eqb, eqb-true, ltb-true, ltb-false}
use Rattle.answer.proofs.Below.{cond-case}
use Rattle.editor.specs.Records.{Entry, length_after}
use Rattle.benches.specs.Words.{Side, side_of, same, Record, size_of, onto, records_in}
use Rattle.bench_records.specs.declared.Head.{Head}
use Rattle.bench_records.specs.declared.Pass.{Pass}
use Rattle.bench_records.specs.Passing.{Passed, onward, passed}
use Rattle.bench_records.specs.Turning.{head_at, size_at, side_at, Bounded, turned, pass_of, pass_in}

-- one record, by the tests in order
module _ (room standing mine at : ℕ) (p : Pass) (h : Head) where
  abbrev here : Passed
  here = turned room standing mine at p h

  abbrev after : ℕ
  after = p.len - h.removed + h.added

  module _ (other : h.bench ≡ mine → ⊥) where
    pub no-bench : 1 < h.bench → here ≡ None
    unfolding turned
    no-bench q = rw (ne_eqb h.bench mine other, lt-ltb 1 h.bench q)

    pub not-mine : h.bench ≤ 1 → here ≡ Some p
    unfolding turned
    not-mine q = rw (ne_eqb h.bench mine other, le-ltb 1 h.bench q)

  module _ (own : h.bench ≡ mine) where
    pub beyond : p.len < h.place + h.removed → here ≡ None
    unfolding turned
    beyond q = rw (eq-eqb h.bench mine own, lt-ltb p.len (h.place + h.removed) q)

    module _ (within : h.place + h.removed ≤ p.len) where
      pub too_long : room < after → here ≡ None
      unfolding turned
      too_long q =
          rw (
            eq-eqb h.bench mine own,
            le-ltb p.len (h.place + h.removed) within,
            lt-ltb room after q,
          )

      pub one_more : after ≤ room → here ≡ Some (onward standing at p after (size_at h))
      unfolding turned
      one_more q =
          rw (
            eq-eqb h.bench mine own,
            le-ltb p.len (h.place + h.removed) within,
            le-ltb room after q,
          )

-- where a pass is after a record, its counts are at most the words passed
abbrev Within : ℕ → ℕ → Passed → Type 0
Within room at None = Unit {0}
Within room at (Some p) = Bounded room at p

module _ (room standing mine at : ℕ) (p : Pass) (h : Head) (b : Bounded room at p) where
  own-within :
      after room standing mine at p h ≤ room →
      Bounded room (at + size_at h) (onward standing at p (after room standing mine at p h) (size_at h))
  own-within q =
      cond-case (Bounded room (at + size_at h)) (ltb p.seen standing)
      (λ _. record { fits = q; few = omega (arith, b.few); small = omega (arith, b.small) })
      (λ _. record { fits = q; few = omega (arith, b.few); small = omega (arith, b.small) })

  pub turned-within : Within room (at + size_at h) (turned room standing mine at p h)
  unfolding turned
  turned-within =
      let P : Passed → Type 0 = Within room (at + size_at h) in
      cond-case P (eqb h.bench mine)
      (λ _. cond-case P (ltb p.len (h.place + h.removed)) (λ _. tt)
      (λ _. cond-case P (ltb room (after room standing mine at p h)) (λ _. tt)
      (λ q. own-within (ltb-false room (after room standing mine at p h) q))))
      (λ _. cond-case P (ltb 1 h.bench) (λ _. tt)
      (λ _. record { fits = b.fits; few = omega (arith, b.few); small = omega (arith, b.small) }))

-- the side of a number that is 0 or 1
side-at : (b : ℕ) → b ≤ 1 → side_of b ≡ Some (side_at b)
side-at zero q = refl
side-at (suc zero) q = refl
side-at (suc (suc b)) q = absurd (omega arith)

side-none : (b : ℕ) → 1 < b → side_of b ≡ None
side-none zero q = absurd (omega arith)
side-none (suc zero) q = absurd (omega arith)
side-none (suc (suc b)) q = refl

same-sides : (b mine : ℕ) → b ≤ 1 → mine ≤ 1 → same (side_at mine) (side_at b) ≡ eqb b mine
same-sides zero zero p q = refl
same-sides zero (suc zero) p q = refl
same-sides (suc zero) zero p q = refl
same-sides (suc zero) (suc zero) p q = refl
same-sides (suc (suc b)) mine p q = absurd (omega arith)
same-sides zero (suc (suc mine)) p q = absurd (omega arith)
same-sides (suc zero) (suc (suc mine)) p q = absurd (omega arith)

-- the bound on the number of records does not matter where it is enough
records-enough : (n m : ℕ) (ws : List ℕ) → length ws ≤ n → length ws ≤ m → records_in n ws ≡ records_in m ws
unfolding records_in
records-enough zero zero ws p q = refl
records-enough zero (suc m) [] p q = refl
records-enough zero (suc m) (x ∷ ws) p q = absurd (omega arith)
records-enough (suc n) zero [] p q = refl
records-enough (suc n) zero (x ∷ ws) p q = absurd (omega arith)
records-enough (suc n) (suc m) [] p q = refl
records-enough (suc n) (suc m) (x ∷ []) p q = refl
records-enough (suc n) (suc m) (x ∷ y ∷ []) p q = refl
records-enough (suc n) (suc m) (x ∷ y ∷ z ∷ []) p q = refl
records-enough (suc n) (suc m) (x ∷ y ∷ r ∷ a ∷ ws) p q =
    let few : length (drop (r + a) ws) ≤ length ws = omega (arith, length-drop (r + a) ws) in
    rw (records-enough n m (drop (r + a) ws) (omega arith) (omega arith))

broken-both : (t u : Bool) → ◌≡◌ {A = Passed} None (cond t (cond u None None) None)
broken-both true true = refl
broken-both true false = refl
broken-both false u = refl

module _ (room standing : ℕ) where
  -- a record more at the front
  onto-pass :
      (s q : Side) (at : ℕ) (p : Pass) (e : Entry) (x : Option (List Record)) →
      pass_of room standing s at p (onto (Some q) e x)
      ≡ cond (same s q)
      (cond (leb (e.place + length e.removed) p.len && leb (length_after p.len e) room)
      (pass_of room standing s (at + size_of e) (onward standing at p (length_after p.len e) (size_of e)) x) None)
      (pass_of room standing s (at + size_of e) p x)
  unfolding passed
  onto-pass s q at p e None =
      broken-both (same s q) (leb (e.place + length e.removed) p.len && leb (length_after p.len e) room)
  onto-pass s q at p e (Some rs) = refl

  module _ (mine at : ℕ) (q : Pass) where
    words-cut : (ws : List ℕ) → 0 < length ws → length ws < 4 → pass_in room standing mine at q ws ≡ None
    unfolding records_in
    words-cut [] p q = absurd (omega arith)
    words-cut (x ∷ []) p q = refl
    words-cut (x ∷ y ∷ []) p q = refl
    words-cut (x ∷ y ∷ z ∷ []) p q = refl
    words-cut (x ∷ y ∷ z ∷ w ∷ ws) p q = absurd (omega arith)

    module _ (b p r a : ℕ) (ws : List ℕ) where
      words-past : length ws < r + a → pass_in room standing mine at q (b ∷ p ∷ r ∷ a ∷ ws) ≡ None
      unfolding records_in
      words-past t = rw (lt-leb (r + a) (length ws) t)

      words-lost :
          r + a ≤ length ws → 1 < b → pass_in room standing mine at q (b ∷ p ∷ r ∷ a ∷ ws) ≡ None
      unfolding records_in
      words-lost t u = rw (le-leb (r + a) (length ws) t, side-none b u)

      words-here :
          r + a ≤ length ws → b ≤ 1 → mine ≤ 1 →
          pass_in room standing mine at q (b ∷ p ∷ r ∷ a ∷ ws)
          ≡ cond (eqb b mine)
          (cond (leb (p + r) q.len && leb (q.len - r + a) room)
          (pass_in room standing mine (at + (4 + r + a)) (onward standing at q (q.len - r + a) (4 + r + a))
          (drop (r + a) ws)) None)
          (pass_in room standing mine (at + (4 + r + a)) q (drop (r + a) ws))
      unfolding records_in
      words-here t u v =
          let lr : length (take r ws) ≡ r = length-take-le r ws (omega arith) in
          let la : length (take a (drop r ws)) ≡ a = length-take-le a (drop r ws) (omega (arith, length-drop r ws)) in
          let n : ℕ = length (drop (r + a) ws) in
          let enough : records_in (suc (suc (suc (length ws)))) (drop (r + a) ws) ≡ records_in n (drop (r + a) ws) =
          records-enough (suc (suc (suc (length ws)))) n (drop (r + a) ws) (omega (arith, length-drop (r + a) ws))
          (omega arith) in
          rw (le-leb (r + a) (length ws) t, side-at b u)
          (onto-pass (side_at mine) (side_at b) at q
          (record { place = p; removed = take r ws; added = take a (drop r ws) })
          (records_in (suc (suc (suc (length ws)))) (drop (r + a) ws))
          ∙ rw (lr, la, enough, same-sides b mine u v))

-- what follows a record
abbrev pub then_on : Passed → (Pass → Passed) → Passed
then_on None f = None
then_on (Some p) f = f p

-- a turn of the loop, at a word of the history before `to`
module _
    (room standing mine : ℕ)
    (one : mine ≤ 1)
    (h : List ℕ)
    (to : ℕ)
    (fits : to ≤ length h)
    (at : ℕ)
    (q : Pass) where
  abbrev from : Passed
  from = pass_in room standing mine at q (slice at to h)

  pub turn_end : to ≤ at → from ≡ Some q
  unfolding records_in passed
  turn_end t = rw (drop_of_length-le (take to h) {i = at} (omega (arith, length-take-le to h fits)))

  pub turn-cut : at < to → to - at < 4 → from ≡ None
  turn-cut t u =
      words-cut room standing mine at q (slice at to h) (omega (arith, length-slice at to h fits))
      (omega (arith, length-slice at to h fits))

  next_word : (k : ℕ) → k < to → slice k to h ≡ get_or h k 0 ∷ slice (k + 1) to h
  next_word k t = rw (add-one k) (slice-cons k to h 0 t fits)

  module _ (four : 4 ≤ to - at) where
    abbrev head : Head
    head = head_at h at

    abbrev rest : List ℕ
    rest = slice (at + 4) to h

    first-four : slice at to h ≡ head.bench ∷ head.place ∷ head.removed ∷ head.added ∷ rest
    first-four =
        let two : at + 1 + 1 ≡ at + 2 = omega arith in
        let three : at + 2 + 1 ≡ at + 3 = omega arith in
        let all : at + 3 + 1 ≡ at + 4 = omega arith in
        rw (
          next_word at (omega arith),
          next_word (at + 1) (omega arith),
          two,
          next_word (at + 2) (omega arith),
          three,
          next_word (at + 3) (omega arith),
          all,
        )

    length_rest : length rest ≡ to - at - 4
    length_rest = omega (arith, length-slice (at + 4) to h fits)

    pub turn-past : to - at < size_at head → from ≡ None
    turn-past t =
        rw first-four
        (words-past room standing mine at q head.bench head.place head.removed head.added rest
        (omega (arith, length_rest)))

    module _ (whole : size_at head ≤ to - at) where
      abbrev onto-rest : Pass → Passed
      onto-rest p = pass_in room standing mine (at + size_at head) p (slice (at + size_at head) to h)

      rest-next : drop (head.removed + head.added) rest ≡ slice (at + size_at head) to h
      rest-next =
          let n : at + 4 + (head.removed + head.added) ≡ at + size_at head = omega arith in
          drop-drop (head.removed + head.added) (at + 4) (take to h) ∙ ap (λ (k : ℕ). slice k to h) n

      abbrev reaches : ℕ
      reaches = q.len - head.removed + head.added

      stepped :
          head.bench ≤ 1 →
          from
          ≡ cond (eqb head.bench mine)
          (cond (leb (head.place + head.removed) q.len && leb reaches room)
          (onto-rest (onward standing at q reaches (size_at head))) None)
          (onto-rest q)
      stepped t =
          rw (first-four, ← rest-next)
          (words-here room standing mine at q head.bench head.place head.removed head.added rest
          (omega (arith, length_rest)) t one)

      abbrev Turns : Passed → Type 0
      Turns found = from ≡ then_on found onto-rest

      pub turn : Turns (turned room standing mine at q head)
      unfolding turned
      turn =
          cond-case Turns (eqb head.bench mine)
          (λ e.
          let step = stepped (rw (eqb-true head.bench mine e) one) in
          cond-case Turns (ltb q.len (head.place + head.removed))
          (λ u. step ∙ rw (e, lt-leb (head.place + head.removed) q.len (ltb-true _ _ u)))
          (λ u. cond-case Turns (ltb room reaches)
          (λ v.
          step
          ∙ rw (
            e,
            le-leb (head.place + head.removed) q.len (ltb-false _ _ u),
            lt-leb reaches room (ltb-true _ _ v),
          ))
          (λ v.
          step
          ∙ rw (
            e,
            le-leb (head.place + head.removed) q.len (ltb-false _ _ u),
            le-leb reaches room (ltb-false _ _ v),
          ))))
          (λ e. cond-case Turns (ltb 1 head.bench)
          (λ t.
          rw first-four
          (words-lost room standing mine at q head.bench head.place head.removed head.added rest
          (omega (arith, length_rest)) (ltb-true 1 head.bench t)))
          (λ t. stepped (ltb-false 1 head.bench t) ∙ rw e))

    -- the head that was read there, and what was found of it
    module _ (hd : Head) (is : hd ≡ head_at h at) where
      pub turn-short : to - at < size_at hd → from ≡ None
      turn-short t = turn-past (rw is at t)

      module _ (whole : size_at hd ≤ to - at) (found : Passed) (f : found ≡ turned room standing mine at q hd) where
        abbrev further : Pass → Passed
        further p = pass_in room standing mine (at + size_at hd) p (slice (at + size_at hd) to h)

        turn-found : from ≡ then_on found further
        turn-found = rw (f, is) (turn (rw is at whole))

        pub turn-broken : found ≡ None → from ≡ None
        turn-broken e = turn-found ∙ rw e

        pub turn-through : (p : Pass) → found ≡ Some p → from ≡ further p
        turn-through p e = turn-found ∙ rw e

        pub turn-bounded : Bounded room at q → (p : Pass) → found ≡ Some p → Bounded room (at + size_at hd) p
        turn-bounded b p e =
            subst (Within room (at + size_at hd)) (sym f ∙ e) (turned-within room standing mine at q hd b)

        -- the same, where the record's size is known before
        pub turn-alike :
            Bounded room at q → (p : Pass) → found ≡ Some p → (n : ℕ) → size_at hd ≡ n →
            Bounded room (at + n) p × (from ≡ pass_in room standing mine (at + n) p (slice (at + n) to h))
        turn-alike b p e n same = rw (← same) (turn-bounded b p e, turn-through p e)
