use Prim.Native.Nat.{◌-◌, ◌<◌}
use native.Mathlib.Omega.{arith}
use borrow.Author.Rules.{rules}
use lib.ListN.{length}
use Rattle.codec.specs.declared.Format.{Format}
use Rattle.comparer.proofs.Comparing.{few-marks, is-cell}
use Rattle.comparer.proofs.Comparing.{Beside, beside-start, beside-next, beside-part}
use Rattle.comparer.proofs.Comparing.{beside_first, beside-second, beside_same}
use Rattle.comparer.proofs.parting.Statement.{statement}
use Rattle.comparer.proofs.parting.Tie as tie

abbrev invariant-loop : tie.invariant-loop-c
invariant-loop first second p₀ q₀ n₀ p q n = (f : Format) → Beside f first second p₀ q₀ n₀ → Beside f first second p q n

abbrev decreases-loop : tie.decreases-loop-c
decreases-loop first second p₀ q₀ n₀ p q n = length first - n

loop-holds : tie.Need-loop-c-init invariant-loop decreases-loop
loop-holds c = λ f b. b

-- what is known where the loop begins a turn
abbrev Stands : tie.At-loop-c invariant-loop decreases-loop → Type 0
Stands l =
    let a = l.args in
    Beside a.format a.first.now a.second.now l.loop-c.p l.loop-c.q l.loop-c.n

stands : (l : tie.At-loop-c invariant-loop decreases-loop) → Stands l
stands l =
    let a = l.args in
    l.loop-c.invariant a.format
    (rw (l.start-p.ensures, l.start-q.ensures)
    (beside-start a.format a.first.now a.second.now))

-- a cell of the first text was given, so it has one more
abbrev Known : tie.Then-c-d invariant-loop decreases-loop → Type 0
Known c =
    let l = c in
    l.loop-c.n < length l.args.first.now

known : (c : tie.Then-c-d invariant-loop decreases-loop) → Known c
known c =
    let x = c in
    let s = x in
    let l = s.before.before.before.before.before.before.before in
    let a = l.args in
    let i = is-cell (stands l).left (rw x.in-Continue.is at s.step-a.ensures.0) in
    omega (arith, i.0, few-marks a.format a.first.now)

add-n : tie.Need-overflow_add-n invariant-loop decreases-loop
add-n c =
    let l = c in
    omega (arith, known c, l.well_formed)

loop-less : tie.Need-loop-c-smaller invariant-loop decreases-loop
loop-less c = omega (arith, known c)

loop-again : tie.Need-loop-c-preserved invariant-loop decreases-loop
loop-again c = λ f b.
    let y = c in
    let x = y in
    let s = x in
    let first = rw x.in-Continue.is at s.step-a.ensures.0 in
    let second = rw y.in-Continue-y.is at x.step-b.ensures.0 in
    rw (s.step-a.ensures.1, x.step-b.ensures.1)
    (beside-next (s.loop-c.invariant f b) first second c.if-c-d.true)

returns : tie.Need-returns-else-c-d invariant-loop decreases-loop
returns c =
    let y = c in
    let x = y in
    let s = x in
    let first = rw x.in-Continue.is at s.step-a.ensures.0 in
    let second = rw y.in-Continue-y.is at x.step-b.ensures.0 in
    beside-part (stands s.before.before.before.before.before.before.before) first second c.if-c-d.false

returns-2 : tie.Need-returns-in-Break-y invariant-loop decreases-loop
returns-2 c =
    let x = c in
    let s = x in
    let first = rw x.in-Continue.is at s.step-a.ensures.0 in
    let second = rw c.in-Break-y.is at x.step-b.ensures.0 in
    beside-second (stands s.before.before.before.before) first second

returns-3 : tie.Need-returns-in-Continue-y-2 invariant-loop decreases-loop
returns-3 c =
    let y = c in
    let x = y in
    let s = x in
    let first = rw x.in-Break.is at s.step-a.ensures.0 in
    let second = rw y.in-Continue-y-2.is at x.step-b.ensures.0 in
    beside_first (stands s.before.before.before.before) first second

returns-4 : tie.Need-returns-in-Break-y-2 invariant-loop decreases-loop
returns-4 c =
    let x = c in
    let s = x in
    let first = rw x.in-Break.is at s.step-a.ensures.0 in
    let second = rw c.in-Break-y-2.is at x.step-b.ensures.0 in
    beside_same (stands s.before.before.before.before) first second

pub parting_spec : {M : Type 1} → statement M
parting_spec =
    tie.close
    (tie.spec
    invariant-loop
    decreases-loop
    (λ c κs. tt)
    (λ c κs. tt)
    loop-holds
    (λ c κs. tt)
    (λ c κs. tt)
    (λ c. search rules)
    (λ c. search rules)
    add-n
    loop-less
    loop-again
    returns
    (λ c. search rules)
    returns-2
    (λ c. search rules)
    (λ c. search rules)
    returns-3
    (λ c. search rules)
    returns-4)
