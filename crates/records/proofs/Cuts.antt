-- Words tile before a place and from it on exactly when they tile with the end of a record there; so a walk may be cut
-- there. Assumes nothing.
use Prim.Native.Nat.{ℕ, ◌+◌, ◌-◌, ◌≤◌}
use mathlib.Core.Path.{◌≡◌, refl, sym, ap, ◌∙◌}
use mathlib.Core.Bool.{Bool, true, false, cond, ◌&&◌, ◌||◌}
use mathlib.Core.List.{List, [], ◌∷◌, ◌++◌, map, map-append}
use native.Mathlib.Omega.{arith}
use native.Mathlib.Nat.{add-zero}
use lib.ListN.{length, take, drop, length-take, length-drop, take-append-drop}
use lib.Seq.{slice, take_at, drop_at, take-take, drop-drop, length-take-le}
use lib.Dec.{leb, ltb, eqb}
use borrow.Author.Tests.{leb-true, eqb-true, ltb-false}
use Rattle.answer.proofs.Below.{both, cond-case}
use Rattle.std.specs.Prelude.{None, Some, Option}
use Rattle.editor.specs.Marks.{Mark}
use Rattle.editor.specs.Ledger.{weight_of}
use Rattle.editor.specs.Records.{step_of, ends_at}
use Rattle.editor.proofs.Marks.{ends-zero, ends-beyond}
use Rattle.ledger.specs.Words.{Entry, in_words, size_of, sizes, records_in, lengths_fit}
use Rattle.ledger.specs.Parts.{cut_in, ends, ending_at}
use Rattle.ledger.proofs.Words.{Whole, drop-take, words, length-words, words_append, records-words, exact, lengths-append}
use Rattle.ledger.proofs.Words.{reached-append, reached-fits}
use Rattle.ledger.proofs.Marks.{weight-sizes}
use Rattle.ledger.proofs.Parts.{same-options}
use Rattle.records.specs.Walking.{Walk, last_from, walk_of, walk_in, walk_cut}
use Rattle.records.proofs.Walks.{records-enough}

-- what a walk tells of its test
pub led : (t : Bool) (a b n l : ℕ) → cond {A = Walk} t (Some (a, b)) None ≡ Some (n, l) → (t ≡ true) × (a ≡ n) × (b ≡ l)
led true a b n l e =
    let p : ◌≡◌ {A = ℕ × ℕ} (a, b) (n, l) = cc in
    (refl, ap (λ (q : ℕ × ℕ). q.0) p, ap (λ (q : ℕ × ℕ). q.1) p)
led false a b n l e = let z : ◌≡◌ {A = ℕ} 0 1 = cc in absurd (omega arith)

pub broken : (t : Bool) (a b : ℕ) → cond {A = Walk} t (Some (a, b)) None ≡ None → t ≡ false
broken true a b e = let z : ◌≡◌ {A = ℕ} 0 1 = cc in absurd (omega arith)
broken false a b e = refl

-- records in two parts
abbrev both_of : Option (List Entry) → Option (List Entry) → Option (List Entry)
both_of None fs = None
both_of (Some es) None = None
both_of (Some es) (Some fs) = Some (es ++ fs)

-- records cut at an end of theirs
record Cut (es : List Entry) (k : ℕ) : Type 0 where
  first : List Entry
  rest : List Entry
  is : first ++ rest ≡ es
  at : sizes first ≡ k

or_case : {P : Type 0} (a b : Bool) → (a || b) ≡ true → (a ≡ true → P) → (b ≡ true → P) → P
or_case true b h f g = f refl
or_case false b h f g = g h

cut-ends : (es : List Entry) (k : ℕ) → ends es k ≡ true → Cut es k
unfolding ends_at
cut-ends [] k h = record { first = []; rest = []; is = refl; at = sym (eqb-true k 0 h) }
cut-ends (e ∷ es) k h =
    or_case (eqb k 0) (leb (size_of e) k && ends es (k - size_of e)) h
    (λ t. record { first = []; rest = e ∷ es; is = refl; at = sym (eqb-true k 0 t) })
    (λ t.
    let q = both (leb (size_of e) k) (ends es (k - size_of e)) t in
    let c = cut-ends es (k - size_of e) q.1 in
    record {
      first = e ∷ c.first;
      rest = c.rest;
      is = ap (◌∷◌ e) c.is;
      at = omega (arith, c.at, leb-true (size_of e) k q.0);
    })

ends-append : (es fs : List Entry) → ends (es ++ fs) (sizes es) ≡ true
ends-append es fs =
    rw (map-append, ← weight-sizes es, ← add-zero (weight_of in_words (map step_of es)))
    (ends-beyond in_words (map step_of es) (map step_of fs) 0 ∙ ends-zero in_words (map step_of fs))

last-append :
    (es fs : List Entry) (at last : ℕ) → last_from at last (es ++ fs) ≡ last_from (at + sizes es) (last_from at last es) fs
last-append [] fs at last = rw add-zero
last-append (e ∷ es) fs at last =
    let n : at + size_of e + sizes es ≡ at + (sizes es + size_of e) = omega arith in
    last-append es fs (at + size_of e) at ∙ ap (λ (k : ℕ). last_from k (last_from (at + size_of e) at es) fs) n

module _ (k : ℕ) (ws : List ℕ) (h : k ≤ length ws) where
  abbrev front : Option (List Entry)
  front = records_in k (take k ws)

  abbrev back : Option (List Entry)
  back = records_in (length ws - k) (drop k ws)

  abbrev Ending : List Entry → Type 0
  Ending es = (words es ≡ ws) × (ends es k ≡ true)

  both-ending :
      (x y : Option (List Entry)) → Whole (λ es. words es ≡ take k ws) x → Whole (λ fs. words fs ≡ drop k ws) y →
      Whole Ending (both_of x y)
  both-ending None y p q = tt
  both-ending (Some es) None p q = tt
  both-ending (Some es) (Some fs) p q =
      let n : sizes es ≡ k = omega (arith, length-words es, ap length p, length-take-le k ws h) in
      (words_append es fs ∙ rw (p, q) (take-append-drop k ws), rw n at (ends-append es fs))

  only_ending : (x : Option (List Entry)) → Whole (λ es. words es ≡ ws) x → Whole Ending (ending_at k x)
  only_ending None p = tt
  only_ending (Some es) p = cond-case (Whole Ending) (ends es k) (λ t. (p, t)) (λ _. tt)

  ending-cut : (es : List Entry) → Ending es → both_of front back ≡ Some es
  ending-cut es e =
      let c = cut-ends es k e.1 in
      let all : words c.first ++ words c.rest ≡ ws =
      sym (words_append c.first c.rest) ∙ ap words c.is ∙ e.0 in
      let n : length (words c.first) ≡ k = length-words c.first ∙ c.at in
      let first : take k ws ≡ words c.first =
      ap (take k) (sym all) ∙ take_at (words c.first) (words c.rest) k n in
      let tail : drop k ws ≡ words c.rest =
      ap (drop k) (sym all) ∙ drop_at (words c.first) (words c.rest) k n in
      let m : length (words c.rest) ≤ length ws - k = omega (arith, ap length (sym tail), length-drop k ws) in
      rw (first, tail, records-words k c.first (omega arith), records-words (length ws - k) c.rest m)
      (ap Some c.is)

  ending-only : (es : List Entry) → Ending es → ending_at k (records_in (length ws) ws) ≡ Some es
  ending-only es e =
      let found : records_in (length ws) ws ≡ Some es =
      rw e.0 at (records-words (length ws) es (omega (arith, ap length e.0))) in
      rw (found, e.1)

  cut_at : ending_at k (records_in (length ws) ws) ≡ both_of front back
  cut_at =
      same-options Ending (ending_at k (records_in (length ws) ws)) (both_of front back)
      (only_ending (records_in (length ws) ws) (exact (length ws) ws))
      (both-ending front back (exact k (take k ws)) (exact (length ws - k) (drop k ws)))
      ending-only ending-cut

  -- where the walk over the first part leads decides where the walk over all does
  module _ (room at len last : ℕ) where
    abbrev walk : Option (List Entry) → Walk
    walk x = walk_of room at len last x

    both-broken : (x y : Option (List Entry)) → walk x ≡ None → walk (both_of x y) ≡ None
    both-broken None y b = refl
    both-broken (Some es) None b = refl
    both-broken (Some es) (Some fs) b = rw (lengths-append, broken (lengths_fit room len es) _ _ b)

    both-led :
        (x y : Option (List Entry)) (n l : ℕ) → Whole (λ es. sizes es ≡ k) x → walk x ≡ Some (n, l) →
        walk (both_of x y) ≡ walk_of room (at + k) n l y
    both-led None y n l w e = let z : ◌≡◌ {A = ℕ} 0 1 = cc in absurd (omega arith)
    both-led (Some es) None n l w e = refl
    both-led (Some es) (Some fs) n l w e =
        let p = led (lengths_fit room len es) _ _ n l e in
        rw (lengths-append, p.0, reached-append, last-append, p.1, p.2, w)

    front-sizes : (x : Option (List Entry)) → Whole (λ es. words es ≡ take k ws) x → Whole (λ es. sizes es ≡ k) x
    front-sizes None w = tt
    front-sizes (Some es) w = omega (arith, length-words es, ap length w, length-take-le k ws h)

    is_front : walk_in room at len last (take k ws) ≡ walk front
    is_front =
        rw (records-enough (length (take k ws)) k (take k ws) (omega arith) (omega (arith, length-take k ws)))

    is-back : (n l : ℕ) → walk_in room (at + k) n l (drop k ws) ≡ walk_of room (at + k) n l back
    is-back n l =
        rw (records-enough (length (drop k ws)) (length ws - k) (drop k ws) (omega arith) (omega (arith, length-drop k ws)))

    pub cut-broken : walk_in room at len last (take k ws) ≡ None → walk_cut room at len last k ws ≡ None
    cut-broken b = ap walk cut_at ∙ both-broken front back (sym is_front ∙ b)

    pub cut-led :
        (n l : ℕ) → walk_in room at len last (take k ws) ≡ Some (n, l) →
        walk_cut room at len last k ws ≡ walk_in room (at + k) n l (drop k ws)
    cut-led n l e =
        ap walk cut_at ∙ both-led front back n l (front-sizes front (exact k (take k ws))) (sym is_front ∙ e)
        ∙ sym (is-back n l)

-- a walk leads to no length over the room
led-fits :
    (room at len last n l : ℕ) (x : Option (List Entry)) → len ≤ room → walk_of room at len last x ≡ Some (n, l) → n ≤ room
led-fits room at len last n l None h e = let z : ◌≡◌ {A = ℕ} 0 1 = cc in absurd (omega arith)
led-fits room at len last n l (Some es) h e =
    let p = led (lengths_fit room len es) _ _ n l e in
    omega (arith, p.1, reached-fits room len es h p.0)

pub walk-fits :
    (room at len last n l : ℕ) (ws : List ℕ) → len ≤ room → walk_in room at len last ws ≡ Some (n, l) → n ≤ room
walk-fits room at len last n l ws h e = led-fits room at len last n l (records_in (length ws) ws) h e

-- a mark cuts words between the first and the last of them
pub cut-between : (m : Mark) (from to : ℕ) → from ≤ to → (from ≤ cut_in m from to) × (cut_in m from to ≤ to)
cut-between None from to h = (omega arith, h)
cut-between (Some n) from to h =
    cond-case (λ (k : ℕ). (from ≤ k) × (k ≤ to)) (ltb n from) (λ _. (omega arith, h))
    (λ q. cond-case (λ (k : ℕ). (from ≤ k) × (k ≤ to)) (ltb to n) (λ _. (omega arith, h))
    (λ r. (ltb-false n from q, ltb-false to n r)))

-- as the code has it: the walk over words of the history, cut at one of them
module _ (h : List ℕ) (from cut to : ℕ) (a : from ≤ cut) (b : cut ≤ to) (c : to ≤ length h) (room start last : ℕ) where
  first_part : take (cut - from) (slice from to h) ≡ slice from cut h
  first_part =
      rw (drop-take from to h, drop-take from cut h) (take-take (cut - from) (to - from) (drop from h) (omega arith))

  second-part : drop (cut - from) (slice from to h) ≡ slice cut to h
  second-part =
      let n : from + (cut - from) ≡ cut = omega arith in
      drop-drop (cut - from) from (take to h) ∙ ap (λ (k : ℕ). slice k to h) n

  enough : cut - from ≤ length (slice from to h)
  enough = rw (drop-take from to h) (simp (length-take, length-drop) (omega arith))

  pub marked-broken :
      walk_in room from start last (slice from cut h) ≡ None →
      walk_cut room from start last (cut - from) (slice from to h) ≡ None
  marked-broken e = cut-broken (cut - from) (slice from to h) enough room from start last (rw first_part e)

  pub marked-led :
      (n l : ℕ) → walk_in room from start last (slice from cut h) ≡ Some (n, l) →
      walk_cut room from start last (cut - from) (slice from to h) ≡ walk_in room cut n l (slice cut to h)
  marked-led n l e =
      let k : from + (cut - from) ≡ cut = omega arith in
      cut-led (cut - from) (slice from to h) enough room from start last n l (rw first_part e) ∙ rw (second-part, k)
