-- The marked cases hold of the definitions that the promises cite, by computing them. Assumes nothing.
use mathlib.Core.Path.{refl}
use Rattle.answer.specs.Answer.{limit}
use Rattle.answer.specs.Output.{deliver}
use Rattle.bits.specs.Bits.{bits, number, all_zero, bits_of, groups, full, filler}
use Rattle.alphabet.specs.Letters.{value_of, set_b, letter_of}
use Rattle.reading.specs.Reading.{read_from, reading, read_into}
use Rattle.utf7.specs.Sets.{alphanumeric, set_d, set_o, direct, own}
use Rattle.utf7.specs.Rule.{outside_does, unit_does, may_end, end_does, low_does, byte_does, ends_in}
use Rattle.utf7.specs.Writing.{pieces, letters, spell, spell_all, writing, first_over, write_into}
use Rattle.jp2.specs.Table.{designations, begins, first_where, row_of_number, row_of_escape, row_begun_by}
use Rattle.jp2.specs.Rule as jp2-rule
use Rattle.jp2.specs.Rule.{graphic, single_does, first_does, second_does, between_does, shifted_does, escape_does}
use Rattle.jp2.specs.Writable.{ascii, pair_set, shift_set, codes, writable, first_foreign}
use Rattle.jp2.specs.Writing as jp2-writing
use Rattle.jp2.specs.Writing.{designating, force_after, write_from}
use Rattle.codec.specs.Kinds.{read_in, write_in}
use Rattle.codec.specs.Cases.{All, cases}

also : {A B : Type 0} → A → B → A × B
also a b = (a, b)

pub hold : All cases
unfolding limit deliver bits number all_zero bits_of groups full filler value_of set_b letter_of read_from reading read_into
    alphanumeric set_d set_o direct own outside_does unit_does may_end end_does low_does byte_does ends_in pieces letters spell
    spell_all writing first_over write_into designations begins first_where row_of_number row_of_escape row_begun_by
    jp2-rule.byte_does jp2-rule.ends_in graphic single_does first_does second_does between_does shifted_does escape_does ascii
    pair_set shift_set codes writable first_foreign jp2-writing.spell jp2-writing.writing jp2-writing.write_into
    designating force_after write_from read_in write_in
hold =
    also refl (also refl (also refl (also refl (also refl (also refl (also refl (also (λ _. refl)
    (also (λ _. refl) (also (λ _. refl) (also refl (also (λ _. refl) (also (λ _. refl) (also (λ _. refl)
    (also (λ _. refl) (also refl (also refl (also (λ _. refl) (also (λ _. refl) (also refl (also (λ _. refl)
    (also refl tt)))))))))))))))))))))
