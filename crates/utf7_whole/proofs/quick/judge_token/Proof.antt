use Prim.Native.Nat.{◌+◌, ◌-◌, ◌*◌, ◌/◌}
use native.Mathlib.Omega.{arith}
use borrow.Author.Rules.{rules}
use Rattle.reading.proofs.Laws.{Left}
use Rattle.utf7.specs.Rule.{outside, utf7}
use Rattle.utf7_whole.specs.Quick.{past}
use Rattle.utf7_whole.proofs.Tokens.{past-on}
use Rattle.utf7_whole.proofs.Judged.{left-sign, left-run, left_one}
use Rattle.utf7_whole.proofs.quick.judge_token.Statement.{statement}
use Rattle.utf7_whole.proofs.quick.judge_token.Tie as tie

shared-slice-read-if1 : tie.Need-bounds-text-at
shared-slice-read-if1 c = search rules

returns : tie.Need-returns-then-text-at-ne43
returns c = (c.requires.1, omega arith)

add-from : tie.Need-overflow_add-from
add-from c = search rules

one-at-requires : tie.Need-one_at-requires
one-at-requires c κs = search rules

add-judge-shorts : tie.Need-overflow_add-at
add-judge-shorts c = search rules

add-judge-shorts-2 : tie.Need-overflow_add-n
add-judge-shorts-2 c = omega (arith, c.requires.1.few, c.requires.1.within)

judge-shorts-requires : tie.Need-judge_shorts-requires
judge-shorts-requires c κs = left_one c.requires.1 c.if-text-at-ne43.false (c.one_at.ensures c.if-one_at-lt65536.true)

returns-2 : tie.Need-returns-then-one_at-lt65536
returns-2 c = (c.judge_shorts.ensures.0, omega (arith, c.judge_shorts.ensures.1))

shared-slice-read-if3 : tie.Need-bounds-text-from
shared-slice-read-if3 c = search rules

add-t13 : tie.Need-overflow_add-result
add-t13 c = search rules

add-t14 : tie.Need-overflow_add-result-then-text-from-eq45
add-t14 c = omega (arith, c.requires.1.few, c.requires.1.within)

returns-3 : tie.Need-returns-then-text-from-eq45
returns-3 c = (left-sign c.requires.1 c.if-text-at-ne43.false c.if-text-from-eq45.true, omega arith)

judge-run-requires : tie.Need-judge_run-end-requires
judge-run-requires c κs = omega (arith, c.requires.0)

returns-4 : tie.Need-returns-then-end-from
returns-4 c = (c.requires.1, omega arith)

past-run-requires : tie.Need-past_run-requires
past-run-requires c κs = search rules

-- behind a run
run :
    (c : tie.Else-end-from) →
    let a = c.args in
    let end = c.judge_run-end.result in
    Left utf7 a.text.now (past a.text.now end) outside (a.n + (end - (a.at + 1)) * 6 / 16)
run c = left-run c.requires.1 c.if-text-at-ne43.false (c.judge_run-end.ensures c.if-end-from.false)

sub-units : tie.Need-overflow_sub-end
sub-units c = omega (arith, (c.judge_run-end.ensures c.if-end-from.false).some)

units-requires : tie.Need-units-requires
units-requires c κs = search rules

add-t18 : tie.Need-overflow_add-result-2
add-t18 c = let l = run c.before.before in omega (arith, c.units.ensures, l.few, l.within)

returns-5 : tie.Need-returns
returns-5 c = let e = c.before.before in
    (rw (c.past_run.ensures, c.units.ensures) (run e), rw c.past_run.ensures (omega (arith, past-on e.args.text.now e.judge_run-end.result, (e.judge_run-end.ensures e.if-end-from.false).some)))

pub judge_token_spec : {M : Type 1} → statement M
judge_token_spec =
    tie.close
    (tie.spec
    shared-slice-read-if1
    returns
    add-from
    one-at-requires
    add-judge-shorts
    add-judge-shorts-2
    judge-shorts-requires
    returns-2
    shared-slice-read-if3
    add-t13
    add-t14
    returns-3
    judge-run-requires
    returns-4
    past-run-requires
    sub-units
    units-requires
    add-t18
    returns-5)
