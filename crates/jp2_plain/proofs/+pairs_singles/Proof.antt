-- The two stretches, which call each other. What is left of the text falls: from the place where a stretch begins, and
-- in its loop from the place that it has reached. Assumes nothing.
use Prim.Native.Nat.{ℕ, ◌-◌, ◌<◌}
use mathlib.Core.Path.{◌≡◌, ◌∙◌}
use mathlib.Core.Bool.{true}
use native.Mathlib.Omega.{arith}
use lib.ListN.{length}
use borrow.Author.Rules.{rules}
use borrow.Fn.Kinds.{In}
use borrow.Fn.PlainCycle.{Measures, is, falls, and}
use Rattle.jp2.specs.Writable.{pair_set}
use Rattle.jp2_plain.specs.Inner.{single}
use Rattle.jp2_plain.proofs.Whole.{Reached, reached-start, reached-set, reached-place, reached-cell}
use Rattle.jp2_plain.proofs.Whole.{reached-over, reached-end, handed, handed-back}
use Rattle.jp2_plain.proofs.pairs.Reads as pairs
use Rattle.jp2_plain.proofs.pairs.Kinds as pairs-kinds
use Rattle.jp2_plain.proofs.+pairs_singles.Lts-pairs as pairs-lts
use Rattle.jp2_plain.proofs.singles.Reads as singles
use Rattle.jp2_plain.proofs.singles.Kinds as singles-kinds
use Rattle.jp2_plain.proofs.+pairs_singles.Lts-singles as singles-lts
use Rattle.jp2_plain.proofs.ends.Reads as ends-reads
use Rattle.jp2_plain.proofs.pair_item.Reads as pair-item-reads
use Rattle.jp2_plain.proofs.single_item.Reads as single-item-reads
use Rattle.jp2_plain.proofs.+pairs_singles.{statement}
use Rattle.jp2_plain.proofs.+pairs_singles.Tie.{close}

abbrev μ-pairs : Measures 2 pairs-kinds.ps ℕ
μ-pairs κs a = length a.0.now - a.1.0

abbrev μ-singles : Measures 2 singles-kinds.ps ℕ
μ-singles κs a = length a.0.now - a.1.0

abbrev pairs-at : ℕ → In 2 pairs-kinds.ps
pairs-at t = and 2 pairs-kinds.ps (is 2 pairs-kinds.ps μ-pairs t) pairs.Pre

abbrev pairs_below : ℕ → In 2 pairs-kinds.ps
pairs_below t = and 2 pairs-kinds.ps (falls 2 pairs-kinds.ps ◌<◌ μ-pairs t) pairs.Pre

abbrev singles-at : ℕ → In 2 singles-kinds.ps
singles-at t = and 2 singles-kinds.ps (is 2 singles-kinds.ps μ-singles t) singles.Pre

abbrev singles-below : ℕ → In 2 singles-kinds.ps
singles-below t = and 2 singles-kinds.ps (falls 2 singles-kinds.ps ◌<◌ μ-singles t) singles.Pre

-- what each knows of the functions that it calls, where its measure is t
abbrev pairs-calls : ℕ → pairs-lts.Claims
pairs-calls t =
    (pair-item-reads.Asked, pair-item-reads.Learnt, singles-below t, singles.Post, ends-reads.Asked, ends-reads.Learnt)

abbrev singles-calls : ℕ → singles-lts.Claims
singles-calls t =
    (single-item-reads.Asked, single-item-reads.Learnt, pairs_below t, pairs.Post, ends-reads.Asked, ends-reads.Learnt)

abbrev pairs-Inv : pairs-lts.invariant-loop-at
pairs-Inv text from set shift count out₀ at₀ g0₀ g2₀ n₀ out at g0 g2 n =
    (pair_set g0 ≡ true) × Reached text from out₀ out at g0 g2 n

abbrev pairs-μ : pairs-lts.decreases-loop-at
pairs-μ text from set shift count out₀ at₀ g0₀ g2₀ n₀ out at g0 g2 n = length text - at

abbrev singles-Inv : singles-lts.invariant-loop-at
singles-Inv text from set shift count out₀ at₀ g0₀ g2₀ n₀ out at g0 g2 n =
    (single g0 ≡ true) × Reached text from out₀ out at g0 g2 n

abbrev singles-μ : singles-lts.decreases-loop-at
singles-μ text from set shift count out₀ at₀ g0₀ g2₀ n₀ out at g0 g2 n = length text - at

module _ (t : ℕ) where
  pairs-loop-holds : pairs-lts.Need-loop-at-init (pairs-calls t) (pairs-at t) pairs.Post pairs-Inv pairs-μ
  pairs-loop-holds c =
      let p = c.requires.1 in
      (p.1, reached-start p.0)

  pairs-pair-item-requires : pairs-lts.Need-pair_item-requires (pairs-calls t) (pairs-at t) pairs.Post pairs-Inv pairs-μ
  pairs-pair-item-requires c κs = (c.loop-at-test.true, c.loop-at.invariant.0)

  pairs-enum-known-set : pairs-lts.Need-enum_known-set (pairs-calls t) (pairs-at t) pairs.Post pairs-Inv pairs-μ
  pairs-enum-known-set c = search rules

  pairs-singles-requires : pairs-lts.Need-singles-requires (pairs-calls t) (pairs-at t) pairs.Post pairs-Inv pairs-μ
  pairs-singles-requires c κs =
      let s = c in
      let f = rw s.in-ToSingles.is at s.pair_item.ensures in
      let l = s in
      let r = l.loop-at.invariant.1 in (
        omega (arith, l.requires.0, r.past, f.0.past, f.0.within),
        (handed (reached-set r f.0 f.2), f.1),
      )

  pairs-same-length : pairs-lts.Need-shape_of-out-in-ToSingles (pairs-calls t) (pairs-at t) pairs.Post pairs-Inv pairs-μ
  pairs-same-length c =
      let d = c in
      let s = d in
      d.singles.auto.out ∙ s.loop-at.invariant.1.so.put.same

  pairs-returns : pairs-lts.Need-returns-in-ToSingles (pairs-calls t) (pairs-at t) pairs.Post pairs-Inv pairs-μ
  pairs-returns c =
      let d = c in
      let s = d in
      let f = rw s.in-ToSingles.is at s.pair_item.ensures in
      let r = reached-set s.loop-at.invariant.1 f.0 f.2 in
      (d.singles.ensures.0, handed-back r d.singles.ensures.1)

  pairs-enum-known-set-2 : pairs-lts.Need-enum_known-set-in-ToPairs-1 (pairs-calls t) (pairs-at t) pairs.Post pairs-Inv pairs-μ
  pairs-enum-known-set-2 c = search rules

  pairs-loop-less : pairs-lts.Need-loop-at-smaller-in-ToPairs (pairs-calls t) (pairs-at t) pairs.Post pairs-Inv pairs-μ
  pairs-loop-less c =
      let s = c in
      let f = rw s.in-ToPairs.is at s.pair_item.ensures in
      omega (arith, f.0.past, f.0.within)

  pairs-loop-again : pairs-lts.Need-loop-at-preserved-in-ToPairs (pairs-calls t) (pairs-at t) pairs.Post pairs-Inv pairs-μ
  pairs-loop-again c =
      let s = c in
      let f = rw s.in-ToPairs.is at s.pair_item.ensures in
      (f.1, reached-set s.loop-at.invariant.1 f.0 f.2)

  pairs-enum-known-set-3 : pairs-lts.Need-enum_known-set-in-ToG2-1 (pairs-calls t) (pairs-at t) pairs.Post pairs-Inv pairs-μ
  pairs-enum-known-set-3 c = search rules

  pairs-loop-less-2 : pairs-lts.Need-loop-at-smaller-in-ToG2 (pairs-calls t) (pairs-at t) pairs.Post pairs-Inv pairs-μ
  pairs-loop-less-2 c =
      let s = c in
      let f = rw s.in-ToG2.is at s.pair_item.ensures in
      omega (arith, f.0.past, f.0.within)

  pairs-loop-again-2 : pairs-lts.Need-loop-at-preserved-in-ToG2 (pairs-calls t) (pairs-at t) pairs.Post pairs-Inv pairs-μ
  pairs-loop-again-2 c =
      let s = c in
      let f = rw s.in-ToG2.is at s.pair_item.ensures in
      let v = s.loop-at.invariant in
      (v.0, reached-set v.1 f.0 f.1)

  pairs-enum-known-value : pairs-lts.Need-enum_known-value (pairs-calls t) (pairs-at t) pairs.Post pairs-Inv pairs-μ
  pairs-enum-known-value c = search rules

  pairs-mul-out : pairs-lts.Need-offset_bounds-out-n (pairs-calls t) (pairs-at t) pairs.Post pairs-Inv pairs-μ
  pairs-mul-out c = search rules

  pairs-slice-write-out : pairs-lts.Need-bounds-out-n (pairs-calls t) (pairs-at t) pairs.Post pairs-Inv pairs-μ
  pairs-slice-write-out c =
      let s = c in
      let f = rw s.in-Cell.is at s.pair_item.ensures in
      reached-place s.loop-at.invariant.1 _ f.0 f.1

  pairs-add-n : pairs-lts.Need-overflow_add-n (pairs-calls t) (pairs-at t) pairs.Post pairs-Inv pairs-μ
  pairs-add-n c =
      let s = c in
      let f = rw s.in-Cell.is at s.pair_item.ensures in
      let l = s in
      let r = l.loop-at.invariant.1 in
      let h = reached-place r _ f.0 f.1 in
      record { fits = omega (arith, h, r.so.put.same, l.well_formed) }

  pairs-loop-less-3 : pairs-lts.Need-loop-at-smaller (pairs-calls t) (pairs-at t) pairs.Post pairs-Inv pairs-μ
  pairs-loop-less-3 c =
      let s = c in
      let f = rw s.in-Cell.is at s.pair_item.ensures in
      omega (arith, f.0.past, f.0.within)

  pairs-loop-again-3 : pairs-lts.Need-loop-at-preserved (pairs-calls t) (pairs-at t) pairs.Post pairs-Inv pairs-μ
  pairs-loop-again-3 c =
      let s = c in
      let f = rw s.in-Cell.is at s.pair_item.ensures in
      let v = s.loop-at.invariant in
      (v.0, reached-cell v.1 _ f.0 f.1)

  pairs-enum-known-why : pairs-lts.Need-enum_known-why (pairs-calls t) (pairs-at t) pairs.Post pairs-Inv pairs-μ
  pairs-enum-known-why c = search rules

  pairs-same-length-2 : pairs-lts.Need-shape_of-out-in-Fault (pairs-calls t) (pairs-at t) pairs.Post pairs-Inv pairs-μ
  pairs-same-length-2 c =
      let s = c in
      s.loop-at.invariant.1.so.put.same

  pairs-returns-2 : pairs-lts.Need-returns-in-Fault (pairs-calls t) (pairs-at t) pairs.Post pairs-Inv pairs-μ
  pairs-returns-2 c =
      let s = c in
      let f = rw s.in-Fault.is at s.pair_item.ensures in
      reached-over s.loop-at.invariant.1 f

  pairs-ends-requires : pairs-lts.Need-ends-requires (pairs-calls t) (pairs-at t) pairs.Post pairs-Inv pairs-μ
  pairs-ends-requires c κs = search rules

  pairs-same-length-3 : pairs-lts.Need-shape_of-out (pairs-calls t) (pairs-at t) pairs.Post pairs-Inv pairs-μ
  pairs-same-length-3 c = c.loop-at.invariant.1.so.put.same

  pairs-returns-3 : pairs-lts.Need-returns (pairs-calls t) (pairs-at t) pairs.Post pairs-Inv pairs-μ
  pairs-returns-3 c = reached-end c.loop-at.invariant.1 c.loop-at-test.false c.ends.ensures

module _ (t : ℕ) where
  singles-loop-holds : singles-lts.Need-loop-at-init (singles-calls t) (singles-at t) singles.Post singles-Inv singles-μ
  singles-loop-holds c =
      let p = c.requires.1 in
      (p.1, reached-start p.0)

  singles-single-item-requires :
      singles-lts.Need-single_item-requires (singles-calls t) (singles-at t) singles.Post singles-Inv singles-μ
  singles-single-item-requires c κs = (c.loop-at-test.true, c.loop-at.invariant.0)

  singles-enum-known-set :
      singles-lts.Need-enum_known-set (singles-calls t) (singles-at t) singles.Post singles-Inv singles-μ
  singles-enum-known-set c = search rules

  singles-loop-less : singles-lts.Need-loop-at-smaller-in-ToSingles (singles-calls t) (singles-at t) singles.Post singles-Inv singles-μ
  singles-loop-less c =
      let s = c in
      let f = rw s.in-ToSingles.is at s.single_item.ensures in
      omega (arith, f.0.past, f.0.within)

  singles-loop-again : singles-lts.Need-loop-at-preserved-in-ToSingles (singles-calls t) (singles-at t) singles.Post singles-Inv singles-μ
  singles-loop-again c =
      let s = c in
      let f = rw s.in-ToSingles.is at s.single_item.ensures in
      (f.1, reached-set s.loop-at.invariant.1 f.0 f.2)

  singles-enum-known-set-2 :
      singles-lts.Need-enum_known-set-in-ToPairs-1 (singles-calls t) (singles-at t) singles.Post singles-Inv singles-μ
  singles-enum-known-set-2 c = search rules

  singles-pairs-requires :
      singles-lts.Need-pairs-requires (singles-calls t) (singles-at t) singles.Post singles-Inv singles-μ
  singles-pairs-requires c κs =
      let s = c in
      let f = rw s.in-ToPairs.is at s.single_item.ensures in
      let l = s in
      let r = l.loop-at.invariant.1 in (
        omega (arith, l.requires.0, r.past, f.0.past, f.0.within),
        (handed (reached-set r f.0 f.2), f.1),
      )

  singles-same-length : singles-lts.Need-shape_of-out-in-ToPairs (singles-calls t) (singles-at t) singles.Post singles-Inv singles-μ
  singles-same-length c =
      let d = c in
      let s = d in
      d.pairs.auto.out ∙ s.loop-at.invariant.1.so.put.same

  singles-returns : singles-lts.Need-returns-in-ToPairs (singles-calls t) (singles-at t) singles.Post singles-Inv singles-μ
  singles-returns c =
      let d = c in
      let s = d in
      let f = rw s.in-ToPairs.is at s.single_item.ensures in
      let r = reached-set s.loop-at.invariant.1 f.0 f.2 in
      (d.pairs.ensures.0, handed-back r d.pairs.ensures.1)

  singles-enum-known-set-3 :
      singles-lts.Need-enum_known-set-in-ToG2-1 (singles-calls t) (singles-at t) singles.Post singles-Inv singles-μ
  singles-enum-known-set-3 c = search rules

  singles-loop-less-2 : singles-lts.Need-loop-at-smaller-in-ToG2 (singles-calls t) (singles-at t) singles.Post singles-Inv singles-μ
  singles-loop-less-2 c =
      let s = c in
      let f = rw s.in-ToG2.is at s.single_item.ensures in
      omega (arith, f.0.past, f.0.within)

  singles-loop-again-2 :
      singles-lts.Need-loop-at-preserved-in-ToG2 (singles-calls t) (singles-at t) singles.Post singles-Inv singles-μ
  singles-loop-again-2 c =
      let s = c in
      let f = rw s.in-ToG2.is at s.single_item.ensures in
      let v = s.loop-at.invariant in
      (v.0, reached-set v.1 f.0 f.1)

  singles-enum-known-value :
      singles-lts.Need-enum_known-value (singles-calls t) (singles-at t) singles.Post singles-Inv singles-μ
  singles-enum-known-value c = search rules

  singles-mul-out : singles-lts.Need-offset_bounds-out-n (singles-calls t) (singles-at t) singles.Post singles-Inv singles-μ
  singles-mul-out c = search rules

  singles-slice-write-out :
      singles-lts.Need-bounds-out-n (singles-calls t) (singles-at t) singles.Post singles-Inv singles-μ
  singles-slice-write-out c =
      let s = c in
      let f = rw s.in-Cell.is at s.single_item.ensures in
      reached-place s.loop-at.invariant.1 _ f.0 f.1

  singles-add-n : singles-lts.Need-overflow_add-n (singles-calls t) (singles-at t) singles.Post singles-Inv singles-μ
  singles-add-n c =
      let s = c in
      let f = rw s.in-Cell.is at s.single_item.ensures in
      let l = s in
      let r = l.loop-at.invariant.1 in
      let h = reached-place r _ f.0 f.1 in
      record { fits = omega (arith, h, r.so.put.same, l.well_formed) }

  singles-loop-less-3 : singles-lts.Need-loop-at-smaller (singles-calls t) (singles-at t) singles.Post singles-Inv singles-μ
  singles-loop-less-3 c =
      let s = c in
      let f = rw s.in-Cell.is at s.single_item.ensures in
      omega (arith, f.0.past, f.0.within)

  singles-loop-again-3 :
      singles-lts.Need-loop-at-preserved (singles-calls t) (singles-at t) singles.Post singles-Inv singles-μ
  singles-loop-again-3 c =
      let s = c in
      let f = rw s.in-Cell.is at s.single_item.ensures in
      let v = s.loop-at.invariant in
      (v.0, reached-cell v.1 _ f.0 f.1)

  singles-enum-known-why :
      singles-lts.Need-enum_known-why (singles-calls t) (singles-at t) singles.Post singles-Inv singles-μ
  singles-enum-known-why c = search rules

  singles-same-length-2 :
      singles-lts.Need-shape_of-out-in-Fault (singles-calls t) (singles-at t) singles.Post singles-Inv singles-μ
  singles-same-length-2 c =
      let s = c in
      s.loop-at.invariant.1.so.put.same

  singles-returns-2 : singles-lts.Need-returns-in-Fault (singles-calls t) (singles-at t) singles.Post singles-Inv singles-μ
  singles-returns-2 c =
      let s = c in
      let f = rw s.in-Fault.is at s.single_item.ensures in
      reached-over s.loop-at.invariant.1 f

  singles-ends-requires :
      singles-lts.Need-ends-requires (singles-calls t) (singles-at t) singles.Post singles-Inv singles-μ
  singles-ends-requires c κs = search rules

  singles-same-length-3 :
      singles-lts.Need-shape_of-out (singles-calls t) (singles-at t) singles.Post singles-Inv singles-μ
  singles-same-length-3 c = c.loop-at.invariant.1.so.put.same

  singles-returns-3 : singles-lts.Need-returns (singles-calls t) (singles-at t) singles.Post singles-Inv singles-μ
  singles-returns-3 c = reached-end c.loop-at.invariant.1 c.loop-at-test.false c.ends.ensures

pub +pairs_singles_spec : {M : Type 1} → statement M
+pairs_singles_spec =
    close μ-pairs μ-singles
    (λ t.
    pairs-lts.spec (pairs-calls t) (pairs-at t) pairs.Post pairs-Inv pairs-μ
    (pairs-loop-holds t)
    (pairs-pair-item-requires t)
    (pairs-enum-known-set t)
    (pairs-singles-requires t)
    (pairs-same-length t)
    (pairs-returns t)
    (pairs-enum-known-set-2 t)
    (pairs-loop-less t)
    (pairs-loop-again t)
    (pairs-enum-known-set-3 t)
    (pairs-loop-less-2 t)
    (pairs-loop-again-2 t)
    (pairs-enum-known-value t)
    (pairs-mul-out t)
    (pairs-slice-write-out t)
    (pairs-add-n t)
    (pairs-loop-less-3 t)
    (pairs-loop-again-3 t)
    (pairs-enum-known-why t)
    (pairs-same-length-2 t)
    (pairs-returns-2 t)
    (pairs-ends-requires t)
    (pairs-same-length-3 t)
    (pairs-returns-3 t))
    (λ t.
    singles-lts.spec (singles-calls t) (singles-at t) singles.Post singles-Inv singles-μ
    (singles-loop-holds t)
    (singles-single-item-requires t)
    (singles-enum-known-set t)
    (singles-loop-less t)
    (singles-loop-again t)
    (singles-enum-known-set-2 t)
    (singles-pairs-requires t)
    (singles-same-length t)
    (singles-returns t)
    (singles-enum-known-set-3 t)
    (singles-loop-less-2 t)
    (singles-loop-again-2 t)
    (singles-enum-known-value t)
    (singles-mul-out t)
    (singles-slice-write-out t)
    (singles-add-n t)
    (singles-loop-less-3 t)
    (singles-loop-again-3 t)
    (singles-enum-known-why t)
    (singles-same-length-2 t)
    (singles-returns-2 t)
    (singles-ends-requires t)
    (singles-same-length-3 t)
    (singles-returns-3 t))
