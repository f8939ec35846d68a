use Rattle.std.proofs.Common.{sym, ap, ◌∙◌, arith, Some}
use Rattle.bench_records.proofs.Turns.{no-bench, not-mine, beyond, too_long, one_more}
use Rattle.bench_records.proofs.pass_one.Goals as goal

pub returns-then-h-le1 : goal.returns-then-h-le1
returns-then-h-le1 c =
    let a = c.args in
    sym (not-mine a.room a.standing a.mine a.at a.p a.h c.if-h-mine.true (omega arith))

pub returns-else-h-le1 : goal.returns-else-h-le1
returns-else-h-le1 c =
    let a = c.args in
    sym (no-bench a.room a.standing a.mine a.at a.p a.h c.if-h-mine.true (omega arith))

pub returns-then-len-h : goal.returns-then-len-h
returns-then-len-h c =
    let a = c.args in
    sym (beyond a.room a.standing a.mine a.at a.p a.h (omega arith) (omega arith))

pub returns-then-room-after : goal.returns-then-room-after
returns-then-room-after c =
    let a = c.args in
    sym (too_long a.room a.standing a.mine a.at a.p a.h (omega arith) (omega arith) (omega arith))

pub returns : goal.returns
returns c =
    let a = c.args in
    ap Some c.pass_own.ensures
    ∙ sym (one_more a.room a.standing a.mine a.at a.p a.h (omega arith) (omega arith) (omega arith))
