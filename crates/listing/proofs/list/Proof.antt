use mathlib.Core.Path.{◌≡◌, sym, ◌∙◌}
use mathlib.Core.Bool.{false}
use lib.ListN.{length}
use lib.Dec.{ltb}
use borrow.Author.Tests.{ltb-false, lt-ltb, le-ltb}
use Rattle.answer.specs.Answer.{limit, numbered, in_numbers}
use Rattle.answer.specs.Output.{deliver}
use Rattle.listing.specs.Listing.{list_into}
use borrow.Author.Rules.{rules}
use Rattle.listing.proofs.list.Statement.{statement}
use Rattle.listing.proofs.list.Tie as tie

-- the cells are not too many; the answer's numbers
within : (c : tie.Else-over_limit) → ltb limit (length c.args.cells.now) ≡ false
within c = sym c.over_limit.ensures ∙ c.if-over_limit.false

numbers :
    (c : tie.After-place-place) →
    in_numbers c.args.given ≡ numbered c.number-number.result c.place-place.result
numbers c = rw (c.number-number.ensures, c.place-place.ensures)

over-limit-requires : tie.Need-over_limit-requires
over-limit-requires c κs = search rules

too-long-requires : tie.Need-too_long-requires
too-long-requires c κs = search rules

returns : tie.Need-returns-then-over_limit
unfolding list_into
returns c = simp (sym c.over_limit.ensures ∙ c.if-over_limit.true, c.too_long.ensures)

number-requires : tie.Need-number-number-requires
number-requires c κs = search rules

cast-number : tie.Need-overflow_cast-number
cast-number c = search rules

place-requires : tie.Need-place-place-requires
place-requires c κs = search rules

size-requires : tie.Need-size-need-requires
size-requires c κs = ltb-false _ _ (within c.before.before)

returns-2 : tie.Need-returns-then-out-need
unfolding list_into deliver
returns-2 c =
    let s = c.before in
    simp (within s.before.before.before, numbers s.before, sym s.size-need.ensures, lt-ltb _ _ c.if-out-need.true)

put-listing-requires : tie.Need-put_listing-requires
put-listing-requires c κs = search rules

same_length : tie.Need-shape_of-out
same_length c = search rules

returns-3 : tie.Need-returns
unfolding list_into deliver
returns-3 c =
    let w = c.before.before in
    let g = w.before.before in
    let s = g.before in
    simp (within s.before.before.before, numbers s.before, sym s.size-need.ensures, le-ltb _ _ g.if-out-need.false, w.put_listing.ensures)

pub list_spec : {M : Type 1} → statement M
list_spec =
    tie.close
    (tie.spec
    over-limit-requires
    too-long-requires
    returns
    number-requires
    cast-number
    place-requires
    size-requires
    returns-2
    put-listing-requires
    same_length
    returns-3)
