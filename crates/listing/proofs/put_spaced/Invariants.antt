use lib.ListN.{drop}
use Rattle.answer.proofs.Put.{Put}
use Rattle.listing.specs.Listing.{spaced}
use Rattle.listing.proofs.put_spaced.Given as goal

abbrev pub invariant-loop-cell : goal.invariant-loop-cell
invariant-loop-cell l = Put (spaced l.cells) l.initial.out l.out l.at (spaced (drop l.cell-index l.cells))
