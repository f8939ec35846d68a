-- The cases hold of the definitions that the promises cite, by computing them. Assumes nothing.
use mathlib.Core.Path.{refl}
use Rattle.answer.specs.Answer.{limit}
use Rattle.answer.specs.Output.{deliver}
use Rattle.answer.proofs.Below.{◌and◌}
use Rattle.bits.specs.Bits.{bits, number, all_zero, bits_of, groups, full, filler}
use Rattle.alphabet.specs.Letters.{value_of, set_b, letter_of}
use Rattle.reading.specs.Reading.{read_from, reading, read_into}
use Rattle.reading.specs.Spans.{marked_from, marked_in}
use Rattle.utf7.specs.Sets.{alphanumeric, set_d, set_o, direct, own}
use Rattle.utf7.specs.Rule.{outside_does, unit_does, may_end, end_does, low_does, byte_does, ends_in}
use Rattle.utf7.specs.Spans.{span_in}
use Rattle.utf7.specs.Writing.{pieces, letters, spell, spell_all, writing, first_over, write_into}
use Rattle.utf7.specs.Cases.{AllHold}

pub hold : AllHold
unfolding limit deliver bits number all_zero bits_of groups full filler value_of set_b letter_of read_from reading
    read_into marked_from marked_in alphanumeric set_d set_o direct own outside_does unit_does may_end end_does low_does
    byte_does ends_in span_in pieces letters spell spell_all writing first_over write_into
hold = (λ _. refl) and (λ _. refl) and (λ _. refl) and (λ _. refl) and (λ _. refl) and (λ _. refl) and
    (λ _. refl) and (λ _. refl) and (λ _. refl) and (λ _. refl) and (λ _. refl) and (λ _. refl) and
    (λ _. refl) and refl and refl and refl and refl and refl and refl and refl and refl and (λ _. refl) and tt
