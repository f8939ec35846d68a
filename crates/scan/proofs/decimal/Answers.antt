use Rattle.std.proofs.Common.{◌+◌, ◌-◌, ◌*◌, arith}
use Rattle.scan.proofs.Numbers.{reads-start, reads_end, reads_short, code-none, code-big, code-on}
use Rattle.scan.proofs.Numbers.{few-power, few-product, width_few, most-few}
use Rattle.scan.proofs.decimal.Goals as goal

pub loop-k-init : goal.loop-k-init
loop-k-init c =
    (rw c.width_of-k.ensures (reads-start _ _ _ _), c.most_of-most.ensures, most-few c.args.long, width_few c.args.long)

pub returns-then-s-at : goal.returns-then-s-at
returns-then-s-at c = rw c.not_found.ensures (reads_short _ _ c.loop-k.invariant.0 (omega arith) (omega arith))

pub returns-then-d-gt9 : goal.returns-then-d-gt9
returns-then-d-gt9 c =
    rw c.not_found-then-d-gt9.ensures
    (code-none _ _ (omega arith) c.loop-k.invariant.0 (omega arith) c.digit_at-d.ensures.0 (omega arith))

pub overflow_mul-next : goal.overflow_mul-next
overflow_mul-next c = omega (arith, c.loop-k.invariant.0.small, c.loop-k.invariant.2)

pub overflow_add-next : goal.overflow_add-next
overflow_add-next c = omega (arith, c.loop-k.invariant.0.small, c.loop-k.invariant.2)

pub pow-requires : goal.pow-requires
pow-requires c =
    omega (arith, few-power (c.loop-k.k - 1) (omega (arith, c.loop-k.invariant.0.few, c.loop-k.invariant.3)))

pub overflow_mul-next-in-loop-k : goal.overflow_mul-next-in-loop-k
overflow_mul-next-in-loop-k c =
    let l = c.loop-k in
    omega (
      arith,
      few-product (l.v * 10 + c.digit_at-d.result) c.pow.result (omega (arith, l.invariant.0.small, l.invariant.2))
          (omega (arith, c.pow.ensures, few-power (l.k - 1) (omega (arith, l.invariant.0.few, l.invariant.3)))),
    )

pub returns-then-most-next : goal.returns-then-most-next
returns-then-most-next c =
    let l = c.loop-k in
    rw c.not_found-then-most-next.ensures
    (code-big _ _ (omega arith) l.invariant.0 (omega arith) c.digit_at-d.ensures.0 c.pow.ensures (omega arith)
    (omega (arith, c.if-most-next.true, l.invariant.1)))

pub loop-k-preserved : goal.loop-k-preserved
loop-k-preserved c =
    let l = c.loop-k in (
      code-on _ _ (omega arith) l.invariant.0 (omega arith) c.digit_at-d.ensures.0 c.pow.ensures (omega arith)
          (omega (arith, c.if-most-next.false, l.invariant.1)),
      l.invariant.1,
      l.invariant.2,
      l.invariant.3,
    )

pub returns : goal.returns
returns c = reads_end _ _ c.loop-k.invariant.0 (omega arith)
