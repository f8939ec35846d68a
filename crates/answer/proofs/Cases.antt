-- The cases hold of the definitions that the promises cite, by computing them. Assumes nothing.
use mathlib.Core.Path.{refl}
use Rattle.answer.specs.Answer.{limit}
use Rattle.answer.specs.Output.{deliver}
use Rattle.answer.specs.Cases.{AllHold}
use Rattle.answer.proofs.Below.{◌and◌}

pub hold : AllHold
unfolding limit deliver
hold = refl and refl and refl and refl and refl and refl and refl and (λ _ e. rw e) and (λ _ e. rw e) and
    (λ _ e. rw e) and (λ _ e. rw e) and tt
