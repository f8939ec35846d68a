use Prim.Native.Nat.{◌-◌}
use Rattle.answer.proofs.Put.{Put}
use Rattle.listing.specs.Listing.{hex_in}
use Rattle.listing.proofs.put_hex.Given as goal

abbrev pub invariant-loop-at : goal.invariant-loop-at
invariant-loop-at l = Put (hex_in 8 l.v) l.initial.out l.out l.at (hex_in (8 - l.at) l.v)
