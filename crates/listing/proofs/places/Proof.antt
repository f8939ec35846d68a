use Prim.Native.Nat.{◌+◌, ◌^◌, ◌<◌}
use mathlib.Core.Path.{◌≡◌, ap}
use native.Mathlib.Omega.{arith}
use lib.ListN.{length}
use Rattle.listing.specs.Listing.{decimal}
use Rattle.listing.proofs.Digits.{decimal-one, decimal-size, decimal-few}
use borrow.Author.Rules.{rules}
use Rattle.listing.proofs.places.Statement.{statement}
use Rattle.listing.proofs.places.Tie as tie

abbrev invariant-loop : tie.invariant-loop-rest
invariant-loop n rest₀ k₀ rest k = (k + length (decimal rest) ≡ length (decimal n) + 1) × (rest < 2 ^ 64)

abbrev decreases-loop : tie.decreases-loop-rest
decreases-loop n rest₀ k₀ rest k = rest

loop-holds : tie.Need-loop-rest-init invariant-loop decreases-loop
loop-holds c = search rules

add-k : tie.Need-overflow_add-k invariant-loop decreases-loop
add-k c = omega (arith, decimal-few 20 c.args.n)

loop-less : tie.Need-loop-rest-smaller invariant-loop decreases-loop
loop-less c = search rules

loop-again : tie.Need-loop-rest-preserved invariant-loop decreases-loop
loop-again c =
    let s = decimal-size _ c.loop-rest.invariant.1 c.loop-rest-test.true in
    search rules

returns : tie.Need-returns invariant-loop decreases-loop
returns c = omega (arith, ap length (decimal-one c.loop-rest.rest c.loop-rest-test.false))

pub places_spec : {M : Type 1} → statement M
places_spec = tie.close (tie.spec invariant-loop decreases-loop loop-holds add-k loop-less loop-again returns)
