use Rattle.desk.specs.Hands.{Holds, desk_in}
use Rattle.desk.proofs.Working.{Going}
use Rattle.desk.proofs.lines.work.Given as goal

abbrev pub invariant-loop-turn : goal.invariant-loop-turn
invariant-loop-turn l =
    record {
      holds : Holds l.hand l.buf;
      going : Going l.letter (desk_in l.initial.hand l.initial.text l.initial.history) l.hand l.text l.history l._turn;
    }
