use Rattle.std.proofs.Common.{◌≡◌, ◌+◌, ◌-◌, arith}
use Rattle.scan.proofs.Words.{digits-next}
use Rattle.scan.proofs.digits_end.Goals as goal

pub loop-at-init : goal.loop-at-init
loop-at-init c = c.past_digits-at.ensures.2

pub returns-then-digit_at-ge16 : goal.returns-then-digit_at-ge16
returns-then-digit_at-ge16 c =
    let e = c.past_digits-at.ensures in
    let a = c.loop-at.auto in
    (omega (arith, a.at, e.0), omega (arith, a.at-end e.1), c.loop-at.invariant, λ _. omega (arith, c.digit_at.ensures.0))

pub loop-at-preserved : goal.loop-at-preserved
loop-at-preserved c =
    let a = c.args in
    let l = c.loop-at in
    let low = c.past_digits-at.ensures.0 in
    let e : l.at + 1 - a.from ≡ l.at - a.from + 1 = omega (arith, l.auto.at, low) in
    let z : a.from + (l.at - a.from) ≡ l.at = omega (arith, l.auto.at, low) in
    rw e (digits-next a.s.now a.from (l.at - a.from) l.invariant (rw z (omega (arith, c.digit_at.ensures.0))))

pub returns : goal.returns
returns c =
    let p = c.past_digits-at.ensures in
    let e : c.loop-at.at ≡ c.args.to = omega (arith, c.loop-at.auto.at-end p.1, c.loop-at-test.false) in
    (c.requires.0, omega arith, rw e at c.loop-at.invariant, λ h. absurd (omega arith))
