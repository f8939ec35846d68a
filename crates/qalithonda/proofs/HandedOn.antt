-- A tally that is handed on keeps its promise in numbers. Assumes nothing.
use Prim.Native.Nat.{ℕ}
use mathlib.Core.Path.{◌≡◌}
use mathlib.Core.List.{List}
use Rattle.jp2.specs.Tally.{Counts}
use Rattle.host_numbers.specs.Numbers.{verdict_in}
use Rattle.host_numbers.specs.declared.Numbers.{Numbers}
use Rattle.qalithonda.specs.Numbers.{counted}

pub counted-on :
    (r : Numbers) {counts : List ℕ} (x : Counts) → verdict_in r ≡ x.verdict → counts ≡ x.counts → counted r counts ≡ x
counted-on r x e q = λ i. record { verdict = e i; counts = q i }
