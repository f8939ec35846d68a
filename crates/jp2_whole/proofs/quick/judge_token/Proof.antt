use Prim.Native.Nat.{◌+◌, ◌-◌, ◌/◌}
use mathlib.Core.Path.{◌≡◌, sym, ◌∙◌}
use native.Mathlib.Omega.{arith}
use borrow.Author.Rules.{rules}
use Rattle.reading.proofs.Laws.{Left}
use Rattle.reading.proofs.Strides.{left-stride, left-none}
use Rattle.jp2.specs.Rule.{plain, state, jp2}
use Rattle.jp2_whole.proofs.Tokens.{pair-stride, shift-stride, pairs-stride, pairs-count}
use Rattle.jp2_whole.proofs.Laying.{stride-of}
use Rattle.jp2_whole.proofs.quick.judge_token.Statement.{statement}
use Rattle.jp2_whole.proofs.quick.judge_token.Tie as tie

shared-slice-read-b : tie.Need-bounds-text-at
shared-slice-read-b c = c.requires.1

is-shift-requires : tie.Need-is_shift-requires
is-shift-requires c κs = c.requires.1

-- ESC N and a byte
shifts :
    (c : tie.Then-is_shift) →
    let f = c.args.from in
    Left jp2 c.args.text.now (f.at + 3) (state f.g0 f.g2 plain) (f.n + 1)
shifts c = left-stride (shift-stride c.if-b-eq27.true (c.is_shift.ensures c.if-is_shift.true)) c.requires.0

add-t13 : tie.Need-overflow_add-result
add-t13 c = omega (arith, (shifts c).within, c.well_formed)

add-t14 : tie.Need-overflow_add-result-then-is_shift
add-t14 c = omega (arith, (shifts c).few, (shifts c).within, c.well_formed)

returns : tie.Need-returns-then-is_shift
returns c = shifts c

after-row-requires : tie.Need-after_row-requires
after-row-requires c κs = (c.requires.1, c.if-b-eq27.true)

returns-2 : tie.Need-returns-then-b-eq27
returns-2 c =
    let e = c.after_row.ensures in
    rw e.1 (left-none c.requires.0 (stride-of e.0))

is-single-requires : tie.Need-is_single-requires
is-single-requires c κs = search rules

is-plain-requires : tie.Need-is_plain-requires
is-plain-requires c κs = search rules

judge-single-requires : tie.Need-judge_single-requires
judge-single-requires c κs = (c.requires, (sym c.is_single.ensures ∙ c.if-is_single.true, sym c.is_plain.ensures ∙ c.if-is_plain.true))

returns-3 : tie.Need-returns-then-is_plain
returns-3 c = c.judge_single.ensures

returns-4 : tie.Need-returns-then-is_single
returns-4 c = c.requires.0

is-pair-requires : tie.Need-is_pair-requires
is-pair-requires c κs = c.requires.1

returns-5 : tie.Need-returns-then-not-is_pair
returns-5 c = c.requires.0

-- a pair, and pairs behind it
two :
    (c : tie.Else-not-is_pair) →
    let f = c.args.from in
    Left jp2 c.args.text.now (f.at + 2) (state f.g0 f.g2 plain) (f.n + 1)
two c =
    left-stride
    (pair-stride (sym c.is_single.ensures ∙ c.if-is_single.false) (c.is_pair.ensures (c.if-not-is_pair.false)))
    c.requires.0

add-pairs-end : tie.Need-overflow_add-at
add-pairs-end c = omega (arith, (two c).within, c.well_formed)

pairs-end-requires : tie.Need-pairs_end-end-requires
pairs-end-requires c κs = (two c).within

more :
    (c : tie.After-pairs_end-end) →
    let f = c.args.from in
    Left jp2 c.args.text.now c.pairs_end-end.result (state f.g0 f.g2 plain) (f.n + 1 + (c.pairs_end-end.result - (f.at + 2)) / 2)
more c =
    let p = c.pairs_end-end.ensures in
    let e : p.count ≡ (c.pairs_end-end.result - (c.args.from.at + 2)) / 2 = omega (arith, p.size) in
    let m = sym c.is_single.ensures ∙ c.if-is_single.false in
    rw (pairs-count _ _ _ p.count, e) at (left-stride (pairs-stride m p) (two c.before))

add-t18 : tie.Need-overflow_add-result-2
add-t18 c = omega (arith, (two c.before).few, (two c.before).within, c.well_formed)

add-t19 : tie.Need-overflow_add-result-3
add-t19 c = omega (arith, (two c.before).within, c.well_formed)

sub-t20 : tie.Need-overflow_sub-result
sub-t20 c = c.pairs_end-end.ensures.codes.ordered

add-t22 : tie.Need-overflow_add-result-4
add-t22 c = omega (arith, (more c).few, (more c).within, c.well_formed)

returns-6 : tie.Need-returns
returns-6 c = more c

pub judge_token_spec : {M : Type 1} → statement M
judge_token_spec =
    tie.close
    (tie.spec
    shared-slice-read-b
    is-shift-requires
    add-t13
    add-t14
    returns
    after-row-requires
    returns-2
    is-single-requires
    is-plain-requires
    judge-single-requires
    returns-3
    returns-4
    is-pair-requires
    returns-5
    add-pairs-end
    pairs-end-requires
    add-t18
    add-t19
    sub-t20
    add-t22
    returns-6)
