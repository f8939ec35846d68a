use Rattle.std.proofs.Common.{arith}
use Rattle.page_read.proofs.Values.{read-start, read_next, read_done}
use Rattle.page_read.proofs.hex.read_words.Goals as goal

pub loop-i-init : goal.loop-i-init
loop-i-init c = read-start c.args.s.now c.args.from 8 c.args.n c.args.out.now (omega arith)

pub loop-i-preserved : goal.loop-i-preserved
loop-i-preserved c =
    read_next c.args.s.now c.args.from 8 c.args.n c.loop-i.invariant (omega arith) c.word_at.ensures

pub returns : goal.returns
returns c = read_done c.args.s.now c.args.from 8 c.args.n c.loop-i.invariant (omega arith)
