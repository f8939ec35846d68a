use Rattle.std.proofs.Common.{◌≡◌, ◌-◌, ◌∙◌, ℕ, ap, length, take, drop, replicate, length-take, length-drop, arith}
use Rattle.splice.proofs.Splices.{cleared-is}
use Rattle.splice.proofs.clear_part.Goals as goal

pub returns-then-at-to : goal.returns-then-at-to
returns-then-at-to c =
    let a = c.args in
    let size : length (take (a.to - a.at) (drop a.at a.s.now)) ≡ a.to - a.at =
    omega (arith, length-take {A = ℕ}, length-drop {A = ℕ}) in
    cleared-is a.s.now c.fill.new.self a.at a.to (omega arith)
    (c.fill.ensures.after (λ y h. h) ∙ ap (λ (n : ℕ). replicate {A = ℕ} n 0) size)
