-- The answer that crosses to C.
use Rattle.std.specs.Prelude.{ℕ, List}
use Rattle.answer.specs.Answer.{Verdict, numbered}
use Rattle.answer.specs.Output.{Outcome}
use Rattle.host_numbers.specs.declared.Numbers.{Numbers}

abbrev pub verdict_in : Numbers → Verdict
verdict_in r = numbered r.number r.place

-- what a call that fills an output leaves, with the answer that crosses to C
abbrev pub left : Numbers → List ℕ → Outcome
left r out = record { verdict = verdict_in r; out = out }
