use Rattle.std.proofs.Common.{◌-◌, take, drop}
use Rattle.std.specs.Prelude.{map}
use Rattle.answer.specs.Inner.{Put}
use Rattle.encoded_word_write.specs.Inner.{shown_as}
use Rattle.encoded_word_write.proofs.show.Given as goal

abbrev pub invariant-loop-k : goal.invariant-loop-k
invariant-loop-k l =
    Put (map shown_as (take l.n l.initial.out)) l.initial.out l.out l.k (map shown_as (take (l.n - l.k) (drop l.k l.initial.out)))
