use Prim.Native.Nat.{ℕ, ◌-◌, ◌≤◌, ◌<◌, ◌^◌}
use mathlib.Core.Path.{◌≡◌, ap, ◌∙◌}
use native.Mathlib.Omega.{arith}
use native.Mathlib.Nat.{pow-le-pow_right}
use lib.Dec.{lit<}
use Rattle.scan.specs.Inner.{hex_at}
use Rattle.page_read.proofs.Values.{hex-none, hex-suc, hex-small}
use borrow.Author.Rules.{rules}
use Rattle.page_read.proofs.hex.word_at.Statement.{statement}
use Rattle.page_read.proofs.hex.word_at.Tie as tie

abbrev invariant-loop : tie.invariant-loop-k
invariant-loop s at v₀ k₀ v k = (k ≤ 8) × (v ≡ hex_at s at k)

abbrev decreases-loop : tie.decreases-loop-k
decreases-loop s at v₀ k₀ v k = 8 - k

few : (v k : ℕ) → v < 16 ^ k → k < 8 → v < 268435456
few v k h l = let p : 16 ^ k ≤ 16 ^ 7 = pow-le-pow_right {n = 16} (lit< tt) {i = k} {j = 7} (omega arith) in omega arith

loop-holds : tie.Need-loop-k-init invariant-loop decreases-loop
loop-holds c = (omega arith, hex-none c.args.s.now c.args.at)

mul-v : tie.Need-overflow_mul-v invariant-loop decreases-loop
mul-v c = omega (
  arith,
  few c.loop-k.v c.loop-k.k
      (omega (
        arith,
        c.loop-k.invariant.1,
        hex-small c.args.s.now
            c.args.at c.loop-k.k,
      )) (omega arith),
)

add-nibble-of : tie.Need-overflow_add-at invariant-loop decreases-loop
add-nibble-of c = search rules

shared-slice-read-nibble-of : tie.Need-bounds-s-at invariant-loop decreases-loop
shared-slice-read-nibble-of c = search rules

nibble-of-requires : tie.Need-nibble_of-requires invariant-loop decreases-loop
nibble-of-requires c κs = search rules

wide-requires : tie.Need-wide-requires invariant-loop decreases-loop
wide-requires c κs = search rules

add-v : tie.Need-overflow_add-v invariant-loop decreases-loop
add-v c = omega (
  arith,
  few c.loop-k.v c.loop-k.k
      (omega (
        arith,
        c.loop-k.invariant.1,
        hex-small
            c.args.s.now
            c.args.at c.loop-k.k,
      ))
      (omega arith),
)

add-k : tie.Need-overflow_step-k invariant-loop decreases-loop
add-k c = search rules

loop-less : tie.Need-loop-k-smaller invariant-loop decreases-loop
loop-less c = search rules

loop-again : tie.Need-loop-k-preserved invariant-loop decreases-loop
loop-again c = (
  omega arith,
  hex-suc c.args.s.now
      c.args.at c.loop-k.k
      c.loop-k.invariant.1 (c.wide.ensures.0 ∙ c.nibble_of.ensures.0),
)

returns : tie.Need-returns invariant-loop decreases-loop
returns c =
    let e : c.loop-k.k ≡ 8 = omega arith in
    c.loop-k.invariant.1 ∙ ap (hex_at c.args.s.now
    c.args.at) e

pub word_at_spec : {M : Type 1} → statement M
word_at_spec =
    tie.close
    (tie.spec
    invariant-loop
    decreases-loop
    loop-holds
    mul-v
    add-nibble-of
    shared-slice-read-nibble-of
    nibble-of-requires
    wide-requires
    add-v
    add-k
    loop-less
    loop-again
    returns)
