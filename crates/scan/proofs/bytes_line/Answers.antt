use Rattle.std.proofs.Common.{◌≡◌, ◌∙◌, ℕ, zero, suc, List, refl, ap, arith}
use Rattle.std.specs.Prelude.{min}
use Rattle.parsing.specs.Parsing.{Parser}
use Rattle.parsing.specs.Digits.{with_more, list}
use Rattle.scan.proofs.bytes_line.Goals as goal

-- more than the most are asked for as the most
list-least : (k least most : ℕ) → list k (min least most) most ≡ list k least most
unfolding list
list-least k least zero = refl
list-least k zero (suc most) =
    let e : min zero (suc most) ≡ zero = omega arith in
    rw e
list-least k (suc least) (suc most) =
    let e : min (suc least) (suc most) ≡ suc (min least most) = omega arith in
    rw e (ap (λ (more : Parser (List ℕ)). with_more k more) (list-least k least most))

pub returns : goal.returns
returns c =
    let a = c.args in
    let e = c.line_of.ensures in (
      e.0 ∙ rw c.min.ensures (rw (list-least 2 a.least a.most)),
      (λ h. (omega arith, (e.1 h).1, (e.1 h).2, (e.1 h).3)),
    )
