-- What a tally leaves, with the answer that crosses to C.
use Rattle.std.specs.Prelude.{ℕ, List}
use Rattle.jp2.specs.Tally.{Counts}
use Rattle.host_numbers.specs.Numbers.{verdict_in}
use Rattle.host_numbers.specs.declared.Numbers.{Numbers}

abbrev pub counted : Numbers → List ℕ → Counts
counted r counts = record { verdict = verdict_in r; counts = counts }
