use Rattle.std.proofs.Common.{◌++◌, ◌-◌, take, drop}
use Rattle.std.specs.Prelude.{map}
use Rattle.answer.specs.Inner.{Put}
use Rattle.alphabet.specs.Letters.{letter_of}
use Rattle.utf7_write.proofs.turn_letters.Given as goal

abbrev pub invariant-loop-k : goal.invariant-loop-k
invariant-loop-k l =
    Put (take l.from l.initial.out ++ map (letter_of l.last) (take (l.to - l.from) (drop l.from l.initial.out))) l.initial.out l.out l.k
    (map (letter_of l.last) (take (l.to - l.k) (drop l.k l.initial.out)))
