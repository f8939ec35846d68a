use Rattle.std.proofs.Common.{◌≡◌, ◌∙◌, ap, length, arith}
use lib.Seq.{paste, paste-zero}
use Rattle.splice.proofs.Splices.{copy-turn}
use Rattle.splice.proofs.copy_at.Goals as goal

pub loop-j-init : goal.loop-j-init
loop-j-init c = paste-zero c.args.s.now c.args.at c.args.cells.now

pub loop-j-preserved : goal.loop-j-preserved
loop-j-preserved c =
    let a = c.args in
    let l = c.loop-j in
    copy-turn a.s.now l.s a.cells.now a.at l.j l.invariant (omega arith) (omega arith)

pub returns : goal.returns
returns c =
    let a = c.args in
    let l = c.loop-j in
    let n : l.j ≡ length a.cells.now = omega arith in
    l.invariant ∙ ap (paste a.s.now a.at a.cells.now) n
