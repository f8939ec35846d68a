use Rattle.std.proofs.Common.{◌≡◌, length, arith}
use Rattle.answer.proofs.Put.{put-start}
use Rattle.page.proofs.Savings.{no_room, give-turn, give-end}
use Rattle.page.proofs.output.give.Goals as goal

pub returns-then-out-bytes : goal.returns-then-out-bytes
returns-then-out-bytes c = no_room c.args.bytes.now c.args.out.now (omega arith)

pub loop-i-init : goal.loop-i-init
loop-i-init c = put-start c.args.bytes.now c.args.out.now (omega arith)

pub loop-i-preserved : goal.loop-i-preserved
loop-i-preserved c =
    let a = c.args in
    let l = c.loop-i in
    give-turn a.bytes.now a.out.now l.out l.i l.invariant (omega arith)

pub returns : goal.returns
returns c =
    let a = c.args in
    let l = c.loop-i in
    let all : l.i ≡ length a.bytes.now = omega (arith, l.invariant.upto) in
    rw all at (give-end a.bytes.now a.out.now l.out l.i l.invariant (omega arith))
