-- A call that is handed on keeps its promise in numbers. Assumes nothing.
use Prim.Native.Nat.{ℕ}
use mathlib.Core.Path.{◌≡◌, ap, ◌∙◌}
use mathlib.Core.List.{List}
use Rattle.answer.specs.Answer.{Verdict, in_numbers, Answer}
use Rattle.answer.specs.Output.{Outcome, leaves}
use Rattle.host_numbers.specs.Numbers.{verdict_in, left}
use Rattle.host_numbers.specs.declared.Numbers.{Numbers}

pub handed-on :
    (r : Numbers) (a : Answer) {out : List ℕ} {x : Outcome} → verdict_in r ≡ in_numbers a → leaves a out ≡ x →
    left r out ≡ x
handed-on r a {out = out} e q = ap (λ (v : Verdict). record { verdict = v; out = out }) e ∙ q
