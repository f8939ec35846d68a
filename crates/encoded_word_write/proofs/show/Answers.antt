use native.Mathlib.Nat.{sub-zero}
use native.Mathlib.Numerals.{add-one}
use lib.ListN.{length-map}
use lib.Seq.{drop-cons, length-take-le}
use Rattle.std.proofs.Common.{◌≡◌, ◌<◌, ◌+◌, ◌-◌, suc, length, take, arith}
use Rattle.answer.proofs.Put.{put-start, put_as, put_next, put-done}
use Rattle.utf7_write.proofs.Several.{put-ahead}
use Rattle.encoded_word_write.specs.Inner.{shown_as}
use Rattle.encoded_word_write.proofs.show.Goals as goal

pub loop-k-init : goal.loop-k-init
loop-k-init c =
    let a = c.args in
    rw (sub-zero a.n)
    (put-start _ _ (omega (arith, length-map (take a.n a.out.now) shown_as, length-take-le a.n a.out.now c.requires, c.requires)))

pub loop-k-preserved : goal.loop-k-preserved
loop-k-preserved c =
    let a = c.args in
    let l = c.loop-k in
    let h : l.k < a.n = c.loop-k-test.true in
    let k : l.k < length a.out.now = omega (arith, h, c.requires) in
    let e : a.n - l.k ≡ suc (a.n - (l.k + 1)) = omega (arith, h) in
    rw (c.shown.ensures, put-ahead _ l.invariant k)
    (put_next (put_as (rw (e, drop-cons a.out.now l.k 0 k, ← add-one l.k)) l.invariant))

pub returns : goal.returns
returns c =
    let e : c.args.n - c.loop-k.k ≡ 0 = omega (arith, c.loop-k-test.false) in
    put-done (put_as (rw e) c.loop-k.invariant)
