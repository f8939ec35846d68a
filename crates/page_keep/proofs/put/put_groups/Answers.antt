use Rattle.std.proofs.Common.{◌∙◌, ℕ, List, refl, ap, arith}
use Rattle.std.proofs.lemmas.List.Edits.{sets}
use lib.Seq.{take_all}
use Rattle.parsing.specs.Digits.{groups}
use Rattle.page_keep.proofs.Puts.{groups-next}
use Rattle.page_keep.proofs.put.put_groups.Goals as goal

pub loop-i-init : goal.loop-i-init
unfolding groups
loop-i-init c = refl

pub loop-i-preserved : goal.loop-i-preserved
loop-i-preserved c =
    let a = c.args in
    let l = c.loop-i in
    groups-next 8 a.out.now l.out _ a.words.now a.at l.i (omega arith) l.invariant c.put_digits.ensures.1

pub returns : goal.returns
returns c =
    let a = c.args in (
      refl,
      c.loop-i.invariant
          ∙ ap (λ (w : List ℕ). sets a.out.now a.at (groups 8 w)) (take_all c.loop-i.i a.words.now (omega arith)),
    )
