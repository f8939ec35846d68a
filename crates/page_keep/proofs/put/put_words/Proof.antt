use mathlib.Core.Path.{refl, ap, ◌∙◌}
use mathlib.Core.List.{◌++◌}
use native.Mathlib.Omega.{arith}
use lib.ListN.{length, length-set}
use lib.Seq.{length-sets}
use Rattle.parsing.specs.Digits.{groups, LF}
use Rattle.page_keep.proofs.Puts.{sets_then, length-groups}
use borrow.Author.Rules.{rules}
use Rattle.page_keep.proofs.put.put_words.Statement.{statement}
use Rattle.page_keep.proofs.put.put_words.Tie as tie

put-bytes-requires : tie.Need-put_bytes-value-requires
put-bytes-requires c κs = search rules

put-groups-requires : tie.Need-put_groups-end-requires
put-groups-requires c κs = search rules

slice-write-out : tie.Need-bounds-out-end
slice-write-out c = search rules

add-result : tie.Need-overflow_add-result
add-result c = search rules

same_length : tie.Need-shape_of-out
same_length c = simp length-set (ap length c.put_groups-end.ensures.1 ∙ simp length-sets
    (ap length c.put_bytes-value.ensures.1 ∙ simp length-sets))

returns : tie.Need-returns
returns c =
    let a = c.args in
    let e = c.put_bytes-value.ensures in
    let v = c.put_bytes-value.result in
    let p = c.put_groups-end.ensures in
    let g = groups 8 a.words.now in (
      omega arith,
      sets_then _ _ _ a.key.now (g ++ LF) a.at v e.1 e.0
          (sets_then _ _ _ g LF v c.put_groups-end.result p.1
          (omega (arith, length-groups 8 a.words.now)) refl),
    )

pub put_words_spec : {M : Type 1} → statement M
put_words_spec =
    tie.close
    (tie.spec
    put-bytes-requires
    put-groups-requires
    slice-write-out
    add-result
    same_length
    returns)
