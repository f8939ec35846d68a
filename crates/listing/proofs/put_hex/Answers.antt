use Prim.Native.Nat.{◌+◌, ◌-◌}
use mathlib.Core.Path.{◌≡◌, ap, ◌∙◌}
use native.Mathlib.Omega.{arith}
use Rattle.answer.proofs.Put.{put-start, put_as, put_next, put-done}
use Rattle.listing.specs.Listing.{hex_in}
use Rattle.listing.proofs.Digits.{hex-next, length-hex}
use Rattle.listing.proofs.put_hex.Goals as goal

pub loop-at-init : goal.loop-at-init
loop-at-init c = put-start _ _ (rw length-hex c.requires)

pub loop-at-preserved : goal.loop-at-preserved
loop-at-preserved c =
    let at = c.loop-at.at in
    let one : 8 - at - 1 ≡ 7 - at = omega arith in
    let less : 8 - (at + 1) ≡ 7 - at = omega arith in
    put_next (put_as (hex-next (8 - at) _ (omega arith) (omega arith) ∙ rw (one, less, c.digit_of.ensures)) c.loop-at.invariant)

pub returns : goal.returns
unfolding hex_in
returns c =
    let none : 8 - c.loop-at.at ≡ 0 = omega arith in
    put-done (put_as (ap (λ w. hex_in w c.args.v) none) c.loop-at.invariant)
