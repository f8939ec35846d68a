use native.Mathlib.Omega.{arith}
use Prim.Native.Nat.{◌-◌, ◌≤◌}
use mathlib.Core.Path.{◌≡◌, refl, ◌∙◌}
use lib.Seq.{slice}
use Rattle.answer.proofs.Once.{limit-small}
use Rattle.bench_records.specs.Turning.{size_at, Bounded, pass_in}
use Rattle.bench_records.proofs.Turns.{turn-alike}
use borrow.Author.Rules.{rules}
use Rattle.bench_records.proofs.past_alike.Statement.{statement}
use Rattle.bench_records.proofs.past_alike.Tie as tie

abbrev invariant-loop : tie.invariant-loop-at
invariant-loop history used mine standing room like size at₀ pass₀ at pass =
    (at₀ ≤ at) × (at ≤ used) × Bounded room at pass
    × (pass_in room standing mine at₀ pass₀ (slice at₀ used history)
    ≡ pass_in room standing mine at pass (slice at used history))

abbrev decreases-loop : tie.decreases-loop-at
decreases-loop history used mine standing room like size at₀ pass₀ at pass = used - at

add-size : tie.Need-overflow_add-size invariant-loop decreases-loop
add-size c = omega (arith, limit-small)

add-size-2 : tie.Need-overflow_add-size-2 invariant-loop decreases-loop
add-size-2 c = omega (arith, limit-small)

loop-holds : tie.Need-loop-at-init invariant-loop decreases-loop
loop-holds c = (omega arith, omega arith, c.requires.4, refl)

sub-loop : tie.Need-overflow_sub-used invariant-loop decreases-loop
sub-loop c = search rules

head-at-requires : tie.Need-head_at-h-requires invariant-loop decreases-loop
head-at-requires c κs = omega arith

returns : tie.Need-returns-then-h-like invariant-loop decreases-loop
returns c = c.loop-at.invariant

returns-2 : tie.Need-returns-then-h-like-2 invariant-loop decreases-loop
returns-2 c = c.loop-at.invariant

pass-one-requires : tie.Need-pass_one-requires invariant-loop decreases-loop
pass-one-requires c κs =
    let l = c.loop-at in
    let h = c.head_at-h in
    (l.invariant.2, omega arith, omega arith, h.ensures.1)

enum-known-found : tie.Need-enum_known-next invariant-loop decreases-loop
enum-known-found c = search rules

enum_told : tie.Need-enum_told-1 invariant-loop decreases-loop
enum_told c = search rules

returns-3 : tie.Need-returns-in_default invariant-loop decreases-loop
returns-3 c = c.loop-at.invariant

add_at : tie.Need-overflow_add-at invariant-loop decreases-loop
add_at c =
    let w = c in
    let s = w in
    omega (arith, limit-small, w.loop-at-test.true, s.requires.1, s.requires.2)

loop-less : tie.Need-loop-at-smaller invariant-loop decreases-loop
loop-less c = omega arith

loop-again : tie.Need-loop-at-preserved invariant-loop decreases-loop
loop-again c =
    let w = c in
    let s = w in
    let a = s.args in
    let l = w.loop-at in
    let whole = w.loop-at-test.true in
    let h = c.head_at-h in
    let r = c.if-h-like.false in
    let d = c.if-h-like-2.false in
    let f = c.pass_one in
    let g = c.in-Some.is in
    let next =
    turn-alike a.room a.standing a.mine s.requires.3 a.history.now a.used s.requires.1 l.at l.pass
    (omega arith) h.result h.ensures.0 (omega arith) f.result f.ensures l.invariant.2 _ g (size_at a.like)
    (omega arith) in
    (omega arith, omega arith, next.0, l.invariant.3 ∙ next.1)

returns-4 : tie.Need-returns invariant-loop decreases-loop
returns-4 c = c.loop-at.invariant

pub past_alike_spec : {M : Type 1} → statement M
past_alike_spec =
    tie.close
    (tie.spec
    invariant-loop
    decreases-loop
    add-size
    add-size-2
    loop-holds
    sub-loop
    head-at-requires
    returns
    returns-2
    pass-one-requires
    enum-known-found
    enum_told
    returns-3
    add_at
    loop-less
    loop-again
    returns-4)
