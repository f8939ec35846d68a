use mathlib.Core.Path.{◌≡◌, sym}
use borrow.Author.Tests.{lt-ltb, le-ltb}
use Rattle.answer.specs.Answer.{numbered, in_numbers}
use Rattle.answer.specs.Output.{deliver}
use Rattle.listing.specs.Listing.{tell_into}
use borrow.Author.Rules.{rules}
use Rattle.listing.proofs.tell.Statement.{statement}
use Rattle.listing.proofs.tell.Tie as tie

-- the answer's numbers
numbers : (c : tie.After-place-place) → in_numbers c.args.given ≡ numbered c.number-number.result c.place-place.result
numbers c = rw (c.number-number.ensures, c.place-place.ensures)

number-requires : tie.Need-number-number-requires
number-requires c κs = search rules

cast-number : tie.Need-overflow_cast-number
cast-number c = search rules

place-requires : tie.Need-place-place-requires
place-requires c κs = search rules

answer-size-requires : tie.Need-answer_size-need-requires
answer-size-requires c κs = search rules

returns : tie.Need-returns-then-out-need
unfolding tell_into deliver
returns c = let s = c.before in simp (numbers s.before, sym s.answer_size-need.ensures, lt-ltb _ _ c.if-out-need.true)

put-answer-requires : tie.Need-put_answer-requires
put-answer-requires c κs = search rules

same_length : tie.Need-shape_of-out
same_length c = search rules

returns-2 : tie.Need-returns
unfolding tell_into deliver
returns-2 c =
    let w = c.before.before in
    let g = w.before.before in
    let s = g.before in
    simp (numbers s.before, sym s.answer_size-need.ensures, le-ltb _ _ g.if-out-need.false, w.put_answer.ensures.1)

pub tell_spec : {M : Type 1} → statement M
tell_spec =
    tie.close
    (tie.spec
    number-requires
    cast-number
    place-requires
    answer-size-requires
    returns
    put-answer-requires
    same_length
    returns-2)
