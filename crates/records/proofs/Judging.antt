-- Where the two walks over a page's records lead, and whether the page is sound. Assumes nothing.
use Prim.Native.Nat.{ℕ, ◌+◌, ◌-◌, ◌≤◌}
use mathlib.Core.Path.{◌≡◌, refl, sym, ap, ◌∙◌}
use mathlib.Core.Bool.{Bool, true, false, ◌&&◌}
use mathlib.Core.List.{List, [], ◌∷◌, reverse_aux, reverse}
use Rattle.std.specs.Prelude.{Option, None, Some}
use native.Mathlib.Omega.{arith}
use native.Mathlib.Nat.{add-zero, zero-add, sub-zero}
use lib.ListN.{length, take, drop, length-take}
use lib.Seq.{slice, length-take-le}
use lib.Dec.{leb, eqb}
use borrow.Author.Tests.{leb-true, eq-eqb, ne_eqb}
use Rattle.answer.specs.Answer.{limit, in_numbers, too_long, refused_at, Answer}
use Rattle.answer.specs.declared.Refusal.TheVariants.{OverLimit}
use Rattle.answer.proofs.Below.{both, cond-case}
use Rattle.answer.proofs.Once.{numbers-once}
use Rattle.ledger.specs.declared.Page.{Page}
use Rattle.ledger.specs.Words.{Entry, size_of, records_in, lengths_fit, reached}
use Rattle.ledger.specs.Page.{State, state_of, framed, records}
use Rattle.ledger.specs.Parts.{joined, cut_in, mark_within, ends, ending_at, bounded, standing_in, undone_in, records_twice}
use Rattle.ledger.specs.Calls.{over}
use Rattle.ledger.proofs.Words.{Whole, drop-take, words, sizes, length-words, exact}
use Rattle.ledger.proofs.Sound.{framed-parts}
use Rattle.ledger.proofs.Parts.{two-parts}
use Rattle.records.specs.Walking.{Walk, last_from, walk_of, walk_cut, last_begin, last_of, judged_as, judge_of}
use Rattle.records.proofs.Walks.{records-enough}
use Rattle.records.proofs.Cuts.{led, broken}

and-false : (a b : Bool) → b ≡ false → (a && b) ≡ false
and-false true b e = e
and-false false b e = refl

-- the last of the records walked over begins where the last standing one does
last-begin : (es back : List Entry) (at : ℕ) → last_from at (last_begin at back) es ≡ last_begin (at + sizes es) (reverse_aux es back)
last-begin [] back at = rw add-zero
last-begin (e ∷ es) back at =
    let here : at ≡ at + size_of e - size_of e = omega arith in
    let n : at + size_of e + sizes es ≡ at + (sizes es + size_of e) = omega arith in
    ap (λ (k : ℕ). last_from (at + size_of e) k es) here ∙ last-begin es (e ∷ back) (at + size_of e) ∙ ap (λ (k : ℕ). last_begin k (reverse_aux es (e ∷ back))) n

module _ (s : State) where
  abbrev room : ℕ
  room = length s.text

  abbrev answer : Option (List Entry) → Option (List Entry) → Option ℕ
  answer x y = last_of s.page.done (joined s x y)

  abbrev first : Option (List Entry) → Walk
  first x = walk_of room 0 s.page.opening 0 x

  abbrev second : Option (List Entry) → Walk
  second y = walk_of room s.page.done s.page.length s.page.done y

  no-first : (x y : Option (List Entry)) → first x ≡ None → answer x y ≡ None
  unfolding joined
  no-first None y b = refl
  no-first (Some es) None b = refl
  no-first (Some es) (Some fs) b = rw (broken (lengths_fit room s.page.opening es) _ _ b)

  no_length : (x y : Option (List Entry)) (n l : ℕ) → first x ≡ Some (n, l) → (n ≡ s.page.length → ⊥) → answer x y ≡ None
  unfolding joined
  no_length None y n l e q = refl
  no_length (Some es) None n l e q = refl
  no_length (Some es) (Some fs) n l e q =
      let p = led (lengths_fit room s.page.opening es) _ _ n l e in
      rw (p.0, ne_eqb (reached s.page.opening es) s.page.length (λ r. q (sym p.1 ∙ r)))

  no_second : (x y : Option (List Entry)) → second y ≡ None → answer x y ≡ None
  unfolding joined
  no_second None y b = refl
  no_second (Some es) None b = refl
  no_second (Some es) (Some fs) b =
      rw (and-false (lengths_fit room s.page.opening es && eqb (reached s.page.opening es) s.page.length) (lengths_fit room s.page.length fs)
      (broken (lengths_fit room s.page.length fs) _ _ b))

  led-twice :
      (x y : Option (List Entry)) (n l m k : ℕ) → Whole (λ es. sizes es ≡ s.page.done) x → first x ≡ Some (n, l) → n ≡ s.page.length → second y ≡ Some (m, k) →
      answer x y ≡ Some l
  unfolding joined
  led-twice None y n l m k w e q f = let z : ◌≡◌ {A = ℕ} 0 1 = cc in absurd (omega arith)
  led-twice (Some es) None n l m k w e q f = let z : ◌≡◌ {A = ℕ} 0 1 = cc in absurd (omega arith)
  led-twice (Some es) (Some fs) n l m k w e q f =
      let p = led (lengths_fit room s.page.opening es) _ _ n l e in
      let r = led (lengths_fit room s.page.length fs) _ _ m k f in
      let last : last_begin s.page.done (reverse es) ≡ l = rw (← w, ← zero-add (sizes es)) (sym (last-begin es [] 0) ∙ p.2) in
      rw (p.0, eq-eqb (reached s.page.opening es) s.page.length (p.1 ∙ q), r.0, last)

-- the lengths of a page that fit their buffers
pub record Frame (p : Page) (t h : List ℕ) : Type 0 where
  pub opens : p.opening ≤ length t
  pub fits : p.length ≤ length t
  pub uses : p.used ≤ length h
  pub stands : p.done ≤ p.used

module _ (p : Page) (t h : List ℕ) where
  abbrev s : State
  s = state_of p t h

  pub frame : bounded s ≡ true → Frame p t h
  frame e =
      let a = both (framed s && leb p.done p.used) (mark_within p.used p.saved) e in
      let b = both (framed s) (leb p.done p.used) a.0 in
      let f = framed-parts s b.0 in
      record { opens = f.opens; fits = f.fits; uses = f.uses; stands = leb-true _ _ b.1 }

  pub unframed : bounded s ≡ false → last_of p.done (records s) ≡ None
  unfolding records_twice
  unframed e = rw (two-parts s, e)

  module _ (ok : bounded s ≡ true) where
    abbrev standing : Option (List Entry)
    standing = standing_in s

    abbrev undone : Option (List Entry)
    undone = undone_in s

    abbrev walk₁ : Walk
    walk₁ = walk_cut (length t) 0 p.opening 0 (cut_in p.saved 0 p.done - 0) (slice 0 p.done h)

    abbrev walk₂ : Walk
    walk₂ =
        walk_cut (length t) p.done p.length p.done (cut_in p.saved p.done p.used - p.done)
        (slice p.done p.used h)

    judged : last_of p.done (records s) ≡ last_of p.done (joined s standing undone)
    unfolding records_twice
    judged = rw (two-parts s, ok)

    is-first : walk₁ ≡ first s standing
    is-first =
        rw (sub-zero, records-enough (length (take p.done h)) p.done (take p.done h) (omega arith) (omega (arith, length-take p.done h)))

    is-second : walk₂ ≡ second s undone
    is-second =
        let ws : List ℕ = take (p.used - p.done) (drop p.done h) in
        rw (drop-take p.done p.used h, records-enough (length ws) (p.used - p.done) ws (omega arith) (omega (arith, length-take (p.used - p.done) (drop p.done h))))

    -- as the code has them: what each walk gave
    pub broken-standing : {w : Walk} → w ≡ walk₁ → w ≡ None → last_of p.done (records s) ≡ None
    broken-standing e b = judged ∙ no-first s standing undone (sym (e ∙ is-first) ∙ b)

    pub other_length : {w : Walk} {n l : ℕ} → w ≡ walk₁ → w ≡ Some (n, l) → (n ≡ p.length → ⊥) → last_of p.done (records s) ≡ None
    other_length e f q = judged ∙ no_length s standing undone _ _ (sym (e ∙ is-first) ∙ f) q

    pub broken-undone : {w : Walk} → w ≡ walk₂ → w ≡ None → last_of p.done (records s) ≡ None
    broken-undone e b = judged ∙ no_second s standing undone (sym (e ∙ is-second) ∙ b)

    sizes-standing :
        (n : ℕ) (x : Option (List Entry)) → Whole (λ es. words es ≡ take p.done h) x →
        Whole (λ es. sizes es ≡ p.done) (ending_at n x)
    sizes-standing n None w = tt
    sizes-standing n (Some es) w =
        let f = frame ok in
        cond-case (Whole (λ es. sizes es ≡ p.done)) (ends es n)
        (λ _. omega (arith, length-words es, ap length w, length-take-le p.done h (omega arith))) (λ _. tt)

    pub both-led :
        {v w : Walk} {n l m k : ℕ} → v ≡ walk₁ → v ≡ Some (n, l) → n ≡ p.length → w ≡ walk₂ → w ≡ Some (m, k) → last_of p.done (records s) ≡ Some l
    both-led d e q f g =
        judged
        ∙ led-twice s standing undone _ _ _ _ (sizes-standing (cut_in p.saved 0 p.done) (records_in p.done (take p.done h)) (exact p.done (take p.done h))) (sym (d ∙ is-first) ∙ e) q (sym (f ∙ is-second) ∙ g)

  -- 16 comes first
  module _ (a : Answer) (e : in_numbers a ≡ too_long) where
    answered : a ≡ refused_at OverLimit limit
    answered = numbers-once a (refused_at OverLimit limit) e

    pub long-text : over t ≡ true → a ≡ judge_of s
    unfolding judge_of
    long-text q = answered ∙ rw q

    pub long-history : over t ≡ false → over h ≡ true → a ≡ judge_of s
    unfolding judge_of
    long-history q r = answered ∙ rw (q, r)

  pub not-long : over t ≡ false → over h ≡ false → judged_as p.done (records s) ≡ judge_of s
  unfolding judge_of
  not-long q r = rw (q, r)
