-- The cases hold of the definition that the promise cites, by computing them. Assumes nothing.
use mathlib.Core.Path.{refl}
use Rattle.answer.specs.Answer.{limit}
use Rattle.answer.proofs.Below.{◌and◌}
use Rattle.bits.specs.Bits.{bits, number, all_zero, bits_of, groups, full, filler}
use Rattle.alphabet.specs.Letters.{value_of, set_b, letter_of}
use Rattle.reading.specs.Reading.{read_from, reading}
use Rattle.reading.specs.Spans.{marked_from, marked_in}
use Rattle.utf7.specs.Sets.{alphanumeric, set_d, set_o, direct, own}
use Rattle.utf7.specs.Rule as u
use Rattle.utf7.specs.Spans as utf7-spans
use Rattle.mailbox.specs.Rule as m
use Rattle.mailbox.specs.Spans as mailbox-spans
use Rattle.jp2.specs.Table.{designations, begins, first_where, row_of_number, row_of_escape, row_begun_by}
use Rattle.jp2.specs.Rule as j
use Rattle.jp2.specs.Spans as jp2-spans
use Rattle.comparer.specs.Compare.{parts_at, compare_of}
use Rattle.comparer.specs.Cases.{AllHold}

pub hold : AllHold
unfolding limit bits number all_zero bits_of groups full filler value_of set_b letter_of read_from reading marked_from
    marked_in alphanumeric set_d set_o direct own u.outside_does u.unit_does u.may_end u.end_does u.low_does u.byte_does
    u.ends_in utf7-spans.span_in m.outside_does m.gives_unit m.unit_does m.close_does m.low_does m.byte_does m.ends_in
    mailbox-spans.span_in designations begins first_where row_of_number row_of_escape row_begun_by j.graphic j.single_does
    j.first_does j.second_does j.between_does j.shifted_does j.escape_does j.byte_does j.ends_in jp2-spans.span_in parts_at
    compare_of
hold = refl and refl and refl and refl and refl and refl and refl and refl and refl and refl and refl and refl and
    refl and refl and refl and refl and refl and refl and tt
