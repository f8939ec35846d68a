use mathlib.Core.Path.{refl}
use native.Mathlib.Omega.{arith}
use lib.ListN.{drop, length-append}
use Rattle.answer.specs.Answer.{numbered}
use Rattle.answer.proofs.Put.{Put, put-done}
use Rattle.listing.specs.Listing.{spaced, line, cells_name, answer_lines, listing}
use Rattle.listing.proofs.Lines.{put_first, last-room, put_last, refused-lines, accepted-lines}
use borrow.Author.Rules.{rules}
use Rattle.listing.proofs.put_listing.Statement.{statement}
use Rattle.listing.proofs.put_listing.Tie as tie

-- what is put after the answer
answered :
    (c : tie.Then-number-eq0) → let p = c.before.before.before in
    let a = p.args in
    Put (listing (numbered a.number a.place) a.cells.now) a.out.now p.put_answer-at.new.out p.put_answer-at.result (line cells_name (drop 1 (spaced a.cells.now)))
answered c =
    let p = c.before.before.before in
    let s = p.before.before.before.before in
    put_first (answer_lines (numbered s.args.number s.args.place)) _ (accepted-lines _ _ _ c.if-number-eq0.true) s.requires p.put_answer-at.ensures

put-answer-requires : tie.Need-put_answer-at-requires
unfolding listing
put-answer-requires c κs = omega (arith, simp length-append at c.requires)

sub-put-row : tie.Need-slice_bounds-put_row-count
sub-put-row c = let p = answered c in search rules

part-put-row-start : tie.Need-slice_bounds-put_row-start
part-put-row-start c = let p = answered c in search rules

part-put-row-end : tie.Need-slice_bounds-put_row-end
part-put-row-end c = search rules

put-row-requires : tie.Need-put_row-requires
put-row-requires c κs = last-room (answered c.before)

same_length : tie.Need-shape_of-out-then-number-eq0
same_length c = search rules

returns : tie.Need-returns-then-number-eq0
returns c = let w = c.before.before in put-done (put_last (answered w.before.before) (refl, w.put_row.ensures))

same-length-2 : tie.Need-shape_of-out-else-number-eq0
same-length-2 c = search rules

returns-2 : tie.Need-returns-else-number-eq0
returns-2 c = rw (refused-lines _ _ _ c.if-number-eq0.false) c.put_answer-at.ensures.1

pub put_listing_spec : {M : Type 1} → statement M
put_listing_spec =
    tie.close
    (tie.spec
    put-answer-requires
    sub-put-row
    part-put-row-start
    part-put-row-end
    put-row-requires
    same_length
    returns
    same-length-2
    returns-2)
