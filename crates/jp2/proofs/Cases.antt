-- The cases hold of the definitions that the promises cite, by computing them. Assumes nothing.
use mathlib.Core.Path.{refl}
use Rattle.answer.specs.Answer.{limit}
use Rattle.answer.specs.Output.{deliver}
use Rattle.answer.proofs.Below.{◌and◌}
use Rattle.reading.specs.Reading.{read_from, reading, read_into}
use Rattle.reading.specs.Spans.{marked_from, marked_in}
use Rattle.jp2.specs.Table.{designations, begins, first_where, row_of_number, row_of_escape, row_begun_by}
use Rattle.jp2.specs.Rule.{graphic, single_does, first_does, second_does, between_does, shifted_does, escape_does, byte_does, ends_in}
use Rattle.jp2.specs.Spans.{span_in}
use Rattle.jp2.specs.Writable.{pair_set, shift_set, ascii, codes, writable, first_foreign}
use Rattle.jp2.specs.Writing.{designating, spell, force_after, write_from, writing, write_into}
use Rattle.jp2.specs.Tally.{count_of, tally_of}
use Rattle.jp2.specs.Cases.{AllHold}

pub hold : AllHold
unfolding limit deliver read_from reading read_into marked_from marked_in designations begins first_where row_of_number
    row_of_escape row_begun_by graphic single_does first_does second_does between_does shifted_does escape_does byte_does
    ends_in span_in pair_set shift_set ascii codes writable first_foreign designating spell force_after write_from
    writing write_into count_of tally_of
hold =
    (refl and refl and refl and (λ _. refl) and (λ _. refl) and refl and (λ _. refl) and refl and refl and refl
    and (λ _. refl) and (λ _. refl) and (λ _. refl) and (λ _. refl) and (λ _. refl) and (λ _. refl) and (λ _. refl)
    and (λ _. refl) and (λ _. refl) and (λ _. refl) and (λ _. refl) and (λ _. refl) and (λ _. refl) and (λ _. refl)
    and (λ _. refl) and (λ _. refl) and (λ _. refl) and refl and refl and refl and refl and refl and refl and refl
    and refl and refl and refl and refl and (λ _. refl) and tt)
    and (refl and refl and tt)
