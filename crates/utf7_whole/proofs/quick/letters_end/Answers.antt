use lib.ListN.{get_or-eq_default}
use borrow.Author.Tests.{lt-ltb, le-ltb}
use Rattle.std.proofs.Common.{◌≡◌, ◌≤◌, length, arith}
use Rattle.alphabet.specs.Letters.{set_b}
use Rattle.utf7_whole.proofs.Tokens.{span-stay, span_more}
use Rattle.utf7_whole.proofs.Buffers.{zero-letter}
use Rattle.utf7_whole.proofs.quick.letters_end.Goals as goal

pub loop-at-init : goal.loop-at-init
loop-at-init c = span-stay _ c.requires.1

pub returns-then-value-ge64 : goal.returns-then-value-ge64
unfolding set_b
returns-then-value-ge64 c = record { letters = c.loop-at.invariant; over = rw (← c.value.ensures) (le-ltb _ 64 c.if-value-ge64.true) }

pub loop-at-preserved : goal.loop-at-preserved
unfolding set_b
loop-at-preserved c = span_more c.loop-at.invariant c.loop-at-test.true (rw (← c.value.ensures) (lt-ltb _ 64 c.if-value-ge64.false))

pub returns : goal.returns
returns c =
    let end : c.loop-at.at ≡ length c.args.text.now = omega (arith, c.loop-at.auto.at-end c.requires.1, c.loop-at-test.false) in
    let past : length c.args.text.now ≤ length c.args.text.now = omega arith in
    record { letters = rw end at c.loop-at.invariant; over = rw (get_or-eq_default c.args.text.now 0 past) (zero-letter _ c.requires.0) }
