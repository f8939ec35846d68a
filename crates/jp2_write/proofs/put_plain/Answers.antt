use native.Mathlib.Numerals.{add-one}
use lib.ListN.{length-map, drop_of_length-le}
use lib.Seq.{drop-cons}
use Rattle.std.proofs.Common.{ap}
use Rattle.std.specs.Prelude.{map}
use Rattle.answer.proofs.Put.{put-start, put_as, put_next, put-done}
use Rattle.jp2_write.specs.Pieces.{low_byte}
use Rattle.jp2_write.proofs.put_plain.Goals as goal

pub loop-k-init : goal.loop-k-init
loop-k-init c = put-start _ _ (simp length-map c.requires)

pub loop-k-preserved : goal.loop-k-preserved
loop-k-preserved c =
    put_next (put_as (rw (drop-cons c.args.cells.now c.loop-k.k 0 c.loop-k-test.true, add-one)) c.loop-k.invariant)

pub returns : goal.returns
returns c =
    let p = put_as (ap (map low_byte) (drop_of_length-le _ c.loop-k-test.false)) c.loop-k.invariant in
    record { so = put-done p; size = simp length-map }
