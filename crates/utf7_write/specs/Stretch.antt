-- The units of a run, and how many of them stand in front of a list: what the writer's private functions find.
use Rattle.std.specs.Prelude.{ℕ, suc, Bool, cond, ◌&&◌, not, List, [], ◌∷◌, eqb}
use Rattle.utf7.specs.Sets.{sign_of, own}
use Rattle.utf7.specs.declared.Style.{Style}

-- neither written as itself nor the sign
unfoldable pub other : Style → ℕ → Bool
other style u = not (own style u) && not (eqb u (sign_of style))

unfoldable pub stretch_length : Style → List ℕ → ℕ
stretch_length style [] = 0
stretch_length style (u ∷ us) = cond (other style u) (suc (stretch_length style us)) 0
