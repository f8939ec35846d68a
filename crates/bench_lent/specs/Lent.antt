-- What a call on benches that are lent leaves.
use Rattle.answer.specs.Answer.{Answer}
use Rattle.std.specs.Prelude.{ℕ, List}
use Rattle.benches.specs.declared.Benches.{Benches}
use Rattle.benches.specs.Benches.{Outcome, leaves}

-- the answer, the benches at exit, both texts, the history and the output, as a call by value leaves them
abbrev pub left : Answer → Benches → List ℕ → List ℕ → List ℕ → List ℕ → Outcome
left r b = leaves (record { answer = r; benches = b })
