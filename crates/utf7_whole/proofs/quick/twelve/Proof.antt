use mathlib.Core.Path.{refl, ◌∙◌}
use borrow.Author.Rules.{rules}
use Rattle.answer.proofs.Laid.{laid_on}
use Rattle.utf7_whole.proofs.Buffers.{laid-all}
use Rattle.utf7_whole.proofs.quick.twelve.Statement.{statement}
use Rattle.utf7_whole.proofs.quick.twelve.Tie as tie

slice-aggregate-put-three : tie.Need-slice_bounds-put_three-end
slice-aggregate-put-three c = search rules

put-three-requires : tie.Need-put_three-requires
put-three-requires c κs = search rules

slice-aggregate-put-three-2 : tie.Need-slice_bounds-put_three-end-2
slice-aggregate-put-three-2 c = search rules

put-three-requires-2 : tie.Need-put_three-requires-2
put-three-requires-2 c κs = search rules

slice-aggregate-put-three-3 : tie.Need-slice_bounds-put_three-end-3
slice-aggregate-put-three-3 c = search rules

put-three-requires-3 : tie.Need-put_three-requires-3
put-three-requires-3 c κs = search rules

slice-aggregate-put-three-4 : tie.Need-slice_bounds-put_three-end-4
slice-aggregate-put-three-4 c = search rules

put-three-requires-4 : tie.Need-put_three-requires-4
put-three-requires-4 c κs = search rules

returns : tie.Need-returns
returns c =
    let d = c in
    let b = d in
    let a = b in
    laid-all (laid_on (laid_on (laid_on a.put_three.ensures refl b.put_three-2.ensures) refl d.put_three-3.ensures) refl c.put_three-4.ensures)
    (c.put_three-4.ensures.same ∙ d.put_three-3.ensures.same ∙ b.put_three-2.ensures.same ∙ a.put_three.ensures.same)

pub twelve_spec : {M : Type 1} → statement M
twelve_spec =
    tie.close
    (tie.spec
    slice-aggregate-put-three
    put-three-requires
    slice-aggregate-put-three-2
    put-three-requires-2
    slice-aggregate-put-three-3
    put-three-requires-3
    slice-aggregate-put-three-4
    put-three-requires-4
    returns)
