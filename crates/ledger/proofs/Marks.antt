-- Where a mark may be among records parted at done: at the end of a record before it or after it. Assumes nothing.
use Prim.Native.Nat.{ℕ, ◌+◌, ◌-◌, ◌≤◌, ◌<◌}
use mathlib.Core.Path.{◌≡◌, refl, sym, ap, ◌∙◌}
use mathlib.Core.Bool.{Bool, true, false, ◌&&◌}
use mathlib.Core.List.{List, [], ◌∷◌, ◌++◌, map, map-append, append-nil}
use native.Mathlib.Omega.{arith}
use lib.Dec.{leb, ltb}
use borrow.Author.Tests.{le-leb, lt-leb, le-ltb, lt-ltb, ltb-true, ltb-false}
use Rattle.answer.proofs.Below.{cond-case}
use Rattle.std.specs.Prelude.{None, Some}
use Rattle.editor.specs.Marks.{Mark}
use Rattle.editor.specs.Ledger.{Step, weight_of}
use Rattle.editor.specs.Records.{step_of, ends_at, mark_fits}
use Rattle.editor.proofs.Marks.{ends-zero, ends-far, ends-beyond, within_first}
use Rattle.ledger.specs.Words.{Entry, in_words, sizes}
use Rattle.ledger.specs.Parts.{mark_within, cut_in, ends}

and-true-right : (a : Bool) → (a && true) ≡ a
and-true-right true = refl
and-true-right false = refl

pub by-test : {P : Type 0} (t : Bool) → (t ≡ true → P) → (t ≡ false → P) → P
by-test true f g = f refl
by-test false f g = g refl

abbrev weight : List Step → ℕ
weight = weight_of in_words

pub weight-sizes : (es : List Entry) → weight (map step_of es) ≡ sizes es
weight-sizes [] = refl
weight-sizes (e ∷ es) = omega (arith, weight-sizes es)

weight-append : (first rest : List Step) → weight (first ++ rest) ≡ weight first + weight rest
weight-append [] rest = omega arith
weight-append (x ∷ first) rest = omega (arith, weight-append first rest)

module _ (es fs : List Entry) (done used : ℕ) (d : sizes es ≡ done) (u : done + sizes fs ≡ used) where
  abbrev all : List Step
  all = map step_of es ++ map step_of fs

  first-weight : weight (map step_of es) ≡ done
  first-weight = weight-sizes es ∙ d

  -- a mark cuts the records before done, or those after it, or is beyond all
  module _ (n : ℕ) where
    abbrev Parts : Bool → Type 0
    Parts b = b ≡ (leb n used && ends es (cut_in (Some n) 0 done) && ends fs (cut_in (Some n) done used - done))

    standing-mark : n ≤ done → Parts (ends_at in_words all n)
    standing-mark h =
        let near : ends_at in_words all n ≡ ends es n =
        within_first in_words (map step_of es) (map step_of fs) [] n (omega (arith, first-weight)) ∙ rw append-nil in
        let here : cut_in (Some n) done used - done ≡ 0 =
        cond-case (λ (k : ℕ). k - done ≡ 0) (ltb n done) (λ _. omega arith)
        (λ _. cond-case (λ (k : ℕ). k - done ≡ 0) (ltb used n) (λ _. omega arith) (λ _. omega arith)) in
        rw (
          near,
          here,
          ends-zero in_words (map step_of fs),
          le-leb n used (omega arith),
          le-ltb n 0 (omega arith),
          le-ltb done n h,
        )
        (sym (and-true-right (ends es n)))

    undone-mark : done < n → n ≤ used → Parts (ends_at in_words all n)
    undone-mark h q =
        let at : n ≡ weight (map step_of es) + (n - done) = omega (arith, first-weight) in
        let past : ends_at in_words all n ≡ ends fs (n - done) =
        ap (ends_at in_words all) at ∙ ends-beyond in_words (map step_of es) (map step_of fs) (n - done) in
        rw (
          past,
          le-leb n used q,
          le-ltb n 0 (omega arith),
          lt-ltb done n h,
          ends-zero in_words (map step_of es),
          le-ltb n done (omega arith),
          le-ltb used n q,
        )

    mark-beyond : used < n → Parts (ends_at in_words all n)
    mark-beyond h =
        let far : ends_at in_words all n ≡ false =
        ends-far in_words all n (omega (arith, weight-append (map step_of es) (map step_of fs), first-weight, weight-sizes fs)) in
        rw (far, lt-leb n used h)

    mark-at : Parts (ends_at in_words all n)
    mark-at =
        by-test (ltb done n)
        (λ t. by-test (ltb used n) (λ r. mark-beyond (ltb-true used n r))
        (λ r. undone-mark (ltb-true done n t) (ltb-false used n r)))
        (λ t. standing-mark (ltb-false done n t))

  pub mark-parts :
      (m : Mark) →
      mark_fits in_words m (map step_of (es ++ fs))
      ≡ (mark_within used m && ends es (cut_in m 0 done) && ends fs (cut_in m done used - done))
  mark-parts None =
      let z : done - done ≡ 0 = omega arith in
      rw (z, ends-zero in_words (map step_of es), ends-zero in_words (map step_of fs))
  mark-parts (Some n) = rw map-append (mark-at n)
