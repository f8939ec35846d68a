use mathlib.Core.Path.{refl, ◌∙◌}
use borrow.Author.Rules.{rules}
use Rattle.answer.proofs.Laid.{laid_on}
use Rattle.utf7_whole.proofs.quick.put_twelve.Statement.{statement}
use Rattle.utf7_whole.proofs.quick.put_twelve.Tie as tie

put-three-requires : tie.Need-put_three-requires
put-three-requires c κs = search rules

add-put-three : tie.Need-overflow_add-n
add-put-three c = search rules

put-three-requires-2 : tie.Need-put_three-requires-2
put-three-requires-2 c κs = search rules

add-put-three-2 : tie.Need-overflow_add-n-2
add-put-three-2 c = search rules

put-three-requires-3 : tie.Need-put_three-requires-3
put-three-requires-3 c κs = search rules

add-put-three-3 : tie.Need-overflow_add-n-3
add-put-three-3 c = search rules

put-three-requires-4 : tie.Need-put_three-requires-4
put-three-requires-4 c κs = search rules

same_length : tie.Need-shape_of-out
same_length c = let d = c in
    let a = d in
    c.put_three-4.ensures.same ∙ d.put_three-3.ensures.same ∙ a.put_three-2.ensures.same ∙ a.put_three.ensures.same

returns : tie.Need-returns
returns c = let d = c in
    let a = d in
    laid_on (laid_on (laid_on a.put_three.ensures refl a.put_three-2.ensures) refl d.put_three-3.ensures) refl c.put_three-4.ensures

pub put_twelve_spec : {M : Type 1} → statement M
put_twelve_spec =
    tie.close
    (tie.spec
    put-three-requires
    add-put-three
    put-three-requires-2
    add-put-three-2
    put-three-requires-3
    add-put-three-3
    put-three-requires-4
    same_length
    returns)
