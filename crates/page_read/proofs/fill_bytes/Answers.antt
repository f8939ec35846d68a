use Rattle.std.proofs.Common.{◌≡◌, ◌-◌, ◌∙◌, ℕ, List, ap, length, drop, take, replicate, length-take, length-drop, arith}
use Rattle.scan.specs.Inner.{hexes_at}
use Rattle.splice.proofs.Splices.{cleared-is, clear-all}
use Rattle.page_read.proofs.Values.{length-hexes}
use Rattle.page_read.proofs.Answers.{pads-words}
use Rattle.page_read.proofs.fill_bytes.Goals as goal

pub returns : goal.returns
returns c =
    let a = c.args in
    let out : List ℕ = c.read_bytes.new.out in
    let rest = c.fill.ensures.after (λ y h. h) in
    let size : length (take (length out - a.n) (drop a.n out)) ≡ length out - a.n =
    omega (arith, length-take {A = ℕ}, length-drop {A = ℕ}) in
    pads-words (hexes_at a.file.now a.from 2 a.n) a.out.now out a.n
    (length-hexes a.file.now a.from 2 a.n) (omega arith) c.read_bytes.ensures
    (cleared-is out c.fill.new.self a.n (length out) (omega arith)
    (rest ∙ ap (λ (n : ℕ). replicate {A = ℕ} n 0) size)
    ∙ clear-all out a.n)
