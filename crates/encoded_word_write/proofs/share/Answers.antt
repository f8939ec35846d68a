use lib.Dec.{eqb}
use Rattle.std.proofs.Common.{◌≡◌, ◌∙◌, ◌+◌, ℕ, ap, length, get_or, arith}
use Rattle.std.specs.Prelude.{cond}
use Rattle.encoded_word.specs.Inner.{brings, run_after}
use Rattle.encoded_word.proofs.Shares.{taking-start, taking-run, taking-more, taking-some, taking-cut, taking-all}
use Rattle.encoded_word_write.specs.Inner.{alone_of, bringing}
use Rattle.encoded_word_write.proofs.Spelling.{brings-few}
use Rattle.encoded_word_write.proofs.Bringing.{alone-brings, alone-after}
use Rattle.encoded_word_write.proofs.share.Goals as goal

more : (u run own : ℕ) {n : ℕ} → own ≡ alone_of u → n ≡ bringing own run → n ≡ brings u run
more u run own e f = f ∙ ap (λ (n : ℕ). bringing n run) e ∙ alone-brings u run

pub loop-i-init : goal.loop-i-init
loop-i-init c = taking-start _

pub overflow_add-more : goal.overflow_add-more
overflow_add-more c =
    let l = c.loop-i in
    let p = c.requires in
    let u = get_or c.args.units.now l.i 0 in
    let h = brings-few u l.run (omega (arith, taking-run p.0 l.invariant, l.invariant.upto, p.2)) in
    omega (arith, more u l.run _ c.alone-own.ensures c.brought.ensures, h, l.invariant.few)

pub cut-requires : goal.cut-requires
cut-requires c =
    let t = c.loop-i-test.true in
    let over = rw (more _ _ _ c.alone-own.ensures c.brought.ensures) at c.if-more-gt63.true in
    (taking-some c.requires.0 c.loop-i.invariant t over, t)

pub returns-then-more-gt63 : goal.returns-then-more-gt63
returns-then-more-gt63 c =
    let over = rw (more _ _ _ c.alone-own.ensures c.brought.ensures) at c.if-more-gt63.true in
    let k = taking-cut c.requires.0 c.loop-i.invariant c.loop-i-test.true over in
    (c.cut.ensures.0 ∙ k.0, c.cut.ensures.1 ∙ k.1)

pub run_after-run-requires : goal.run_after-run-requires
run_after-run-requires c =
    let p = c.requires in
    omega (arith, taking-run p.0 c.loop-i.invariant, c.loop-i.invariant.upto, p.2)

pub loop-i-preserved : goal.loop-i-preserved
loop-i-preserved c =
    let l = c.loop-i in
    let u = get_or c.args.units.now l.i 0 in
    let b = more u l.run _ c.alone-own.ensures c.brought.ensures in
    let r : c.run_after-run.result ≡ run_after u l.run =
    c.run_after-run.ensures ∙ ap (λ (n : ℕ). cond (eqb n 0) (l.run + 1) 0) c.alone-own.ensures ∙ alone-after u l.run in
    let less = rw b at c.if-more-gt63.false in
    rw (r, b) (taking-more c.requires.0 l.invariant c.loop-i-test.true less)

pub returns : goal.returns
returns c =
    let p = c.requires in
    let e : length c.args.units.now ≡ c.loop-i.i = omega (arith, c.loop-i.auto.i-end, c.loop-i-test.false) in
    rw e (taking-all p.0 c.loop-i.invariant p.1 c.loop-i-test.false)
