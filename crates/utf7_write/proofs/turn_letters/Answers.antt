use native.Mathlib.Numerals.{add-one}
use lib.ListN.{length-map, length-take, length-drop}
use lib.Seq.{drop-cons}
use Rattle.std.proofs.Common.{◌≡◌, ◌≤◌, ◌+◌, ◌-◌, ℕ, suc, List, length, take, drop, arith}
use Rattle.std.specs.Prelude.{map}
use Rattle.answer.proofs.Put.{put_as, put_next}
use Rattle.alphabet.specs.Letters.{letter_of}
use Rattle.utf7_write.proofs.Several.{put-from, put-sets, put-ahead}
use Rattle.utf7_write.proofs.turn_letters.Goals as goal

-- the letters, and the room that their values have
part : (last from to : ℕ) → List ℕ → List ℕ
part last from to out = map (letter_of last) (take (to - from) (drop from out))

bound : (last from to : ℕ) (out : List ℕ) → from ≤ to → to ≤ length out → from + length (part last from to out) ≤ length out
unfolding part
bound last from to out h k = simp (length-map, length-take, length-drop) (omega (arith, h, k))

pub loop-k-init : goal.loop-k-init
unfolding part
loop-k-init c =
    let a = c.args in
    put-from a.out.now (part a.last a.from a.to a.out.now) a.from (bound a.last a.from a.to a.out.now c.requires.0 c.requires.1)

pub loop-k-preserved : goal.loop-k-preserved
loop-k-preserved c =
    let a = c.args in
    let k = c.loop-k.k in
    let h = c.loop-k-test.true in
    let e : a.to - k ≡ suc (a.to - (k + 1)) = omega (arith, h) in
    rw (c.letter_of.ensures, put-ahead _ c.loop-k.invariant (omega (arith, h, c.requires.1)))
    (put_next (put_as (rw (e, drop-cons a.out.now k 0 (omega (arith, h, c.requires.1)), ← add-one k)) c.loop-k.invariant))

pub returns : goal.returns
unfolding part
returns c =
    let a = c.args in
    let e : a.to - c.loop-k.k ≡ 0 = omega (arith, c.loop-k-test.false) in
    (put-sets a.out.now (part a.last a.from a.to a.out.now) a.from (bound a.last a.from a.to a.out.now c.requires.0 c.requires.1)
    (put_as (rw e) c.loop-k.invariant)).1
