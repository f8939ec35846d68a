-- What is found of a bench, by the tests in order. Assumes nothing.
use Prim.Native.Nat.{ℕ, ◌≤◌}
use mathlib.Core.Path.{◌≡◌, sym}
use mathlib.Core.Bool.{true, false, ◌&&◌}
use mathlib.Core.List.{List}
use lib.ListN.{length, drop}
use lib.Dec.{leb}
use borrow.Author.Tests.{leb-true}
use Rattle.answer.proofs.Below.{both}
use Rattle.ledger.specs.Words.{zeros}
use Rattle.benches.specs.declared.Bench.{Bench}
use Rattle.bench_records.specs.declared.Pass.{Pass}
use Rattle.std.specs.Prelude.{None, Some}
use Rattle.bench_records.specs.Passing.{Passed, begun}
use Rattle.bench_records.specs.Turning.{pass_in}
use Rattle.bench_records.specs.Judging.{text_fits, leads_as, fitted_of}

pub opens-within : (b : Bench) (text : List ℕ) → text_fits b text ≡ true → b.opening ≤ length text
opens-within b text e =
    let p = both (leb b.opening (length text) && leb b.length (length text)) (zeros (drop b.length text)) e in
    leb-true _ _ (both (leb b.opening (length text)) (leb b.length (length text)) p.0).0

module _ (b : Bench) (text : List ℕ) (used mine : ℕ) (words : List ℕ) where
  pub text-off : text_fits b text ≡ false → fitted_of b text used mine words ≡ None
  unfolding fitted_of
  text-off e = rw e

  module _
      (ok : text_fits b text ≡ true)
      (found : Passed)
      (f : found ≡ pass_in (length text) b.standing mine 0 (begun b.opening used) words) where
    pub pass-broken : found ≡ None → fitted_of b text used mine words ≡ None
    unfolding fitted_of
    pass-broken e = rw (ok, sym f, e)

    module _ (p : Pass) (e : found ≡ Some p) where
      pub pass-off : leads_as b p ≡ false → fitted_of b text used mine words ≡ None
      unfolding fitted_of
      pass-off q = rw (ok, sym f, e, q)

      pub pass_fits : leads_as b p ≡ true → fitted_of b text used mine words ≡ Some p
      unfolding fitted_of
      pass_fits q = rw (ok, sym f, e, q)
