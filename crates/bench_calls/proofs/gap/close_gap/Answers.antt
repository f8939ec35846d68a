-- One turn of the pass, by the lemmas on where it stands.
use Rattle.std.proofs.Common.{refl, arith}
use Rattle.bench_calls.proofs.Closing.{begin, turn-fits, turn, ended}
use Rattle.bench_calls.proofs.gap.close_gap.Goals as goal

pub loop-at-init : goal.loop-at-init
loop-at-init c =
    let a = c.args in
    begin a.mine a.from a.used a.history.now c.requires.1 c.requires.0 c.requires.4

pub size_at-size-requires : goal.size_at-size-requires
size_at-size-requires c =
    let a = c.args in
    let l = c.loop-at.invariant in
    let f = turn-fits a.mine a.from a.used a.history.now c.requires.1 c.requires.3 l c.loop-at-test.true _ refl in
    omega (arith, f, l.long)

pub keep_other-to-requires : goal.keep_other-to-requires
keep_other-to-requires c =
    let a = c.args in
    let l = c.loop-at.invariant in
    let s = c.size_at-size in
    let f = turn-fits a.mine a.from a.used a.history.now c.requires.1 c.requires.3 l c.loop-at-test.true s.result s.ensures in
    (l.behind, omega (arith, f, l.long), omega (arith, s.ensures))

pub loop-at-preserved : goal.loop-at-preserved
loop-at-preserved c =
    let a = c.args in
    let s = c.size_at-size in
    let k = c.keep_other-to in
    turn a.mine a.from a.used a.history.now c.requires.1 c.requires.3 c.loop-at.invariant c.loop-at-test.true s.result
    s.ensures _ k.result k.ensures.0 k.ensures.1

pub returns : goal.returns
returns c =
    let a = c.args in
    ended a.mine a.from a.used a.history.now c.requires.1 c.requires.3 c.loop-at.invariant c.loop-at-test.false
