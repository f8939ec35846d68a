use Rattle.std.proofs.Common.{refl, arith}
use Rattle.scan.proofs.Words.{stands-end, stands-short, stands-other, stands-next}
use Rattle.scan.proofs.word.Goals as goal

pub loop-i-init : goal.loop-i-init
loop-i-init c = record { upto = omega arith; so = refl }

pub returns-then-s-at : goal.returns-then-s-at
returns-then-s-at c = rw c.not_found.ensures (stands-short c.loop-i.invariant (omega arith) (omega arith))

pub returns-then-s-at-2 : goal.returns-then-s-at-2
returns-then-s-at-2 c = rw c.not_found-then-s-at-2.ensures (stands-other c.loop-i.invariant (omega arith) (omega arith) c.if-s-at-2.true)

pub loop-i-preserved : goal.loop-i-preserved
loop-i-preserved c = stands-next c.loop-i.invariant (omega arith) (omega arith) c.if-s-at-2.false

pub returns : goal.returns
returns c = stands-end c.loop-i.invariant (omega arith)
