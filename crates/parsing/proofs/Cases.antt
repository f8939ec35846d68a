-- The cases hold of the definitions, by computing them. Assumes nothing.
use mathlib.Core.Path.{refl}
use Rattle.answer.proofs.Below.{◌and◌}
use Rattle.parsing.specs.Parsing.{literal}
use Rattle.parsing.specs.Digits.{value_of, digits, groups, digit_where, number_from, list}
use Rattle.parsing.specs.Cases.{AllHold}

pub hold : AllHold
unfolding literal value_of digits groups digit_where number_from list
hold = refl and refl and refl and refl and refl and refl and refl and refl and refl and refl and refl and refl and refl
    and refl and refl and refl and refl and refl and refl and refl and refl and refl and refl and refl and refl and refl
    and refl and refl and refl and refl and tt
