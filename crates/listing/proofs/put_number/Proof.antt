use Prim.Native.Nat.{◌+◌, ◌-◌}
use mathlib.Core.List.{[], ◌∷◌, ◌++◌}
use native.Mathlib.Omega.{arith}
use lib.ListN.{length, length-append}
use borrow.Rule.Slice.PartMut.{put_mid}
use Rattle.answer.proofs.Put.{Put, put-lt, put_next, put-lent-room, put-end, put-done}
use Rattle.listing.specs.Listing.{decimal, line}
use Rattle.listing.proofs.Lines.{put_then, line-size, line-named}
use borrow.Author.Rules.{rules}
use Rattle.listing.proofs.put_number.Statement.{statement}
use Rattle.listing.proofs.put_number.Tie as tie

-- what is put after the name, and after the number
named :
    (c : tie.After-put_name-from) → let a = c.args in
    Put (line a.name.now (decimal a.n)) a.out.now c.put_name-from.new.out c.put_name-from.result (decimal a.n ++ 10 ∷ [])
named c =
    let s = c.before.before.before.before in
    line-named s.args.name.now (decimal s.args.n) s.requires c.put_name-from.ensures

said :
    (c : tie.After-put_decimal) → let f = c.before.before.before.before in
    let a = f.args in
    let out = f.put_name-from.new.out in
    let from = f.put_name-from.result in
    Put (line a.name.now (decimal a.n)) a.out.now
    (put_mid from (length out - from) out c.put_decimal.new.out)
    (from + c.put_decimal.result) (10 ∷ [])
said c =
    let f = c.before.before.before.before in
    put_then (decimal f.args.n) _ (named f) c.put_decimal.ensures

put-name-requires : tie.Need-put_name-from-requires
put-name-requires c κs =
    let s = c.before.before.before in
    simp length-append (omega (arith, line-size s.args.name.now (decimal s.args.n), s.requires))

sub-put-decimal : tie.Need-slice_bounds-put_decimal-count
sub-put-decimal c = let p = named c.before.before in search rules

part-put-decimal-start : tie.Need-slice_bounds-put_decimal-start
part-put-decimal-start c = let p = named c.before.before in search rules

part-put-decimal-end : tie.Need-slice_bounds-put_decimal-end
part-put-decimal-end c = search rules

put-decimal-requires : tie.Need-put_decimal-requires
put-decimal-requires c κs =
    let f = c.before.before.before in
    put-lent-room (decimal f.args.n) _ (named f)

add_at : tie.Need-overflow_add-at
add_at c = let p = said c.before.before in search rules

slice-write-out : tie.Need-bounds-out-at
slice-write-out c = put-lt (said c.before.before)

add-result : tie.Need-overflow_add-result
add-result c = let p = put_next (said c.before.before) in search rules

same_length : tie.Need-shape_of-out
same_length c = (put_next (said c.before.before)).same

returns : tie.Need-returns
returns c = let p = put_next (said c.before.before) in (put-end p, put-done p)

pub put_number_spec : {M : Type 1} → statement M
put_number_spec =
    tie.close
    (tie.spec
    put-name-requires
    sub-put-decimal
    part-put-decimal-start
    part-put-decimal-end
    put-decimal-requires
    add_at
    slice-write-out
    add-result
    same_length
    returns)
