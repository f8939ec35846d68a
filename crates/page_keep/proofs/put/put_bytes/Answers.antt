use Rattle.std.proofs.Common.{◌∙◌, ℕ, List, refl, ap, arith}
use Rattle.std.proofs.lemmas.List.Edits.{sets}
use lib.Seq.{take_all}
use Rattle.page_keep.proofs.Puts.{sets-next}
use Rattle.page_keep.proofs.put.put_bytes.Goals as goal

pub loop-i-init : goal.loop-i-init
loop-i-init c = refl

pub loop-i-preserved : goal.loop-i-preserved
loop-i-preserved c =
    let a = c.args in
    let l = c.loop-i in
    sets-next a.out.now l.out a.bytes.now a.at l.i (omega arith) l.invariant

pub returns : goal.returns
returns c =
    let a = c.args in (
      refl,
      c.loop-i.invariant ∙ ap (λ (w : List ℕ). sets a.out.now a.at w) (take_all c.loop-i.i a.bytes.now (omega arith)),
    )
