use mathlib.Core.Path.{refl, ap, ◌∙◌}
use mathlib.Core.List.{◌++◌}
use native.Mathlib.Omega.{arith}
use lib.ListN.{length, length-set}
use lib.Seq.{length-sets}
use Rattle.answer.specs.Bytes.{bytes}
use Rattle.parsing.specs.Digits.{groups, LF}
use Rattle.page_keep.proofs.Puts.{sets_then, length-groups}
use borrow.Author.Rules.{rules}
use Rattle.page_keep.proofs.put.put_arrived.Statement.{statement}
use Rattle.page_keep.proofs.put.put_arrived.Tie as tie

put-bytes-requires : tie.Need-put_bytes-value-requires
put-bytes-requires c κs = search rules

put-pairs-requires : tie.Need-put_pairs-end-requires
put-pairs-requires c κs = search rules

slice-write-out : tie.Need-bounds-out-end
slice-write-out c = search rules

add-result : tie.Need-overflow_add-result
add-result c = search rules

same_length : tie.Need-shape_of-out
same_length c = simp length-set (ap length c.put_pairs-end.ensures.1 ∙ simp length-sets
    (ap length c.put_bytes-value.ensures.1 ∙ simp length-sets))

returns : tie.Need-returns
returns c =
    let a = c.args in
    let e = c.put_bytes-value.ensures in
    let v = c.put_bytes-value.result in
    let p = c.put_pairs-end.ensures in
    let g = groups 2 a.bytes.now in (
      omega arith,
      sets_then a.out.now _ _ (bytes "arrived=") (g ++ LF) a.at v e.1 e.0
          (sets_then _ _ _ g LF v c.put_pairs-end.result p.1
          (omega (arith, length-groups 2 a.bytes.now)) refl),
    )

pub put_arrived_spec : {M : Type 1} → statement M
put_arrived_spec =
    tie.close
    (tie.spec
    put-bytes-requires
    put-pairs-requires
    slice-write-out
    add-result
    same_length
    returns)
