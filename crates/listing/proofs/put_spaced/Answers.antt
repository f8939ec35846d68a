use mathlib.Core.Path.{sym}
use native.Mathlib.Omega.{arith}
use lib.ListN.{get_or}
use borrow.Author.Rules.{rules}
use Rattle.answer.proofs.Put.{put-lt, put_as, put_next, put-lent-room, put-end, put-done}
use Rattle.listing.specs.Listing.{hex_in}
use Rattle.listing.proofs.Digits.{spaced-next, spaced-end, length-hex}
use Rattle.listing.proofs.Lines.{put_then}
use Rattle.listing.proofs.put_spaced.Goals as goal

-- a space and the loop's cell are the next to put
pub bounds-out-at : goal.bounds-out-at
bounds-out-at c = put-lt (put_as (spaced-next _ _ c.loop-cell-test.true) c.loop-cell.invariant)

pub slice_bounds-put_hex-count : goal.slice_bounds-put_hex-count
slice_bounds-put_hex-count c =
    let p = put_next (put_as (spaced-next _ _ c.loop-cell-test.true) c.loop-cell.invariant) in search rules

pub slice_bounds-put_hex-start : goal.slice_bounds-put_hex-start
slice_bounds-put_hex-start c =
    let p = put_next (put_as (spaced-next _ _ c.loop-cell-test.true) c.loop-cell.invariant) in search rules

pub put_hex-requires : goal.put_hex-requires
put_hex-requires c =
    let p = put_next (put_as (spaced-next _ _ c.loop-cell-test.true) c.loop-cell.invariant) in
    rw length-hex at (put-lent-room (hex_in 8 (get_or c.args.cells.now c.loop-cell.cell-index 0)) _ p)

pub loop-cell-preserved : goal.loop-cell-preserved
loop-cell-preserved c =
    let p = put_next (put_as (spaced-next _ _ c.loop-cell-test.true) c.loop-cell.invariant) in
    put_then (hex_in 8 (get_or c.args.cells.now c.loop-cell.cell-index 0)) _ p (sym (length-hex _), c.put_hex.ensures)

pub returns : goal.returns
returns c =
    let p = put_as (spaced-end _ _ c.loop-cell-test.false) c.loop-cell.invariant in (put-end p, put-done p)
