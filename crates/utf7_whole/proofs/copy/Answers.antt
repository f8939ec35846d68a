use Rattle.std.proofs.Common.{◌≡◌, ◌+◌, ◌∷◌, get_or, take, drop, arith}
use native.Mathlib.Numerals.{add-one}
use lib.ListN.{drop_of_length-le}
use lib.Seq.{length-take-le, drop-cons, get_or-take}
use Rattle.answer.proofs.Put.{put-start, put_as, put_next, put-done}
use Rattle.utf7_whole.proofs.copy.Goals as goal

pub loop-k-init : goal.loop-k-init
loop-k-init c = put-start _ _ (rw (length-take-le _ _ c.requires.n_in_bounds) c.requires.n_in_bounds_2)

pub loop-k-preserved : goal.loop-k-preserved
loop-k-preserved c =
    let a = c.args in
    let l = c.loop-k in
    let cells = take a.n a.cells.now in
    let h = length-take-le a.n a.cells.now c.requires.n_in_bounds in
    let next : drop l.k cells ≡ get_or a.cells.now l.k 0 ∷ drop (l.k + 1) cells =
    rw (drop-cons cells l.k 0 (omega (arith, h, c.loop-k-test.true)), get_or-take a.n a.cells.now l.k 0 c.loop-k-test.true, add-one) in
    put_next (put_as next l.invariant)

pub returns : goal.returns
returns c =
    let h = length-take-le c.args.n c.args.cells.now c.requires.n_in_bounds in
    put-done (put_as (drop_of_length-le _ {i = c.loop-k.k} (omega (arith, h, c.loop-k-test.false))) c.loop-k.invariant)
