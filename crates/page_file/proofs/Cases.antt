-- The cases hold of the definitions that the promises cite, by computing them. Assumes nothing.
use mathlib.Core.Path.{refl}
use Rattle.answer.specs.Answer.{limit}
use Rattle.answer.specs.Output.{deliver}
use Rattle.answer.proofs.Below.{◌and◌}
use Rattle.codec.proofs.Worked.{letter-reads, letter-reads-as, letter-reads-other}
use Rattle.editor.specs.Records.{reached, lengths_fit, ends_at}
use Rattle.ledger.specs.Words.{records_in, part_at, zeros}
use Rattle.ledger.specs.Page.{framed, reached_at_done, fitting, records}
use Rattle.parsing.specs.Parsing.{literal}
use Rattle.parsing.specs.Digits.{value_of, digits, groups, digit_where, number_from, list}
use Rattle.page_file.specs.File.{file_in}
use Rattle.page_file.specs.Reading.{parse}
use Rattle.page_file.specs.Calls.{belongs, keep_parted, keep_of, read_parted, read_fitting, read_parsed, read_of}
use Rattle.page_file.specs.Cases.{AllHold}

pub hold : AllHold
unfolding limit deliver reached lengths_fit ends_at records_in part_at zeros framed reached_at_done fitting records
    literal value_of digits groups digit_where number_from list file_in parse
    belongs keep_parted keep_of read_parted read_fitting read_parsed read_of
hold = (refl, refl) and (refl, refl) and (refl, refl) and (refl, refl)
    and refl and refl and refl and refl and refl and refl and refl and refl and refl and refl and refl and refl
    and refl and refl and refl and refl and refl and refl and refl and refl and refl and refl and refl and refl
    and refl and refl and refl
    and refl and refl and refl and refl and refl and (refl, refl) and (refl, refl) and refl
    and (rw letter-reads) and (rw letter-reads) and (λ _ e. rw e) and refl and (rw letter-reads)
    and (rw (letter-reads, letter-reads-other)) and (rw (letter-reads, letter-reads-as))
    and (rw letter-reads) and (rw (letter-reads, letter-reads-as))
    and refl and refl and refl and refl and refl and refl and refl and refl and refl
    and (rw letter-reads) and (rw (letter-reads, letter-reads-other))
    and tt
