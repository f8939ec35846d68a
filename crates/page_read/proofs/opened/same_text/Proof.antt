use Rattle.reading.specs.Matching as matching
use Rattle.codec.specs.Kinds.{format_of, reading_of, reads_in}
use borrow.Author.Rules.{rules}
use Rattle.page_read.proofs.opened.same_text.Statement.{statement}
use Rattle.page_read.proofs.opened.same_text.Tie as tie

enum_told : tie.Need-enum_told-1
enum_told c = search rules

utf7-same-requires : tie.Need-utf7_same-requires
utf7-same-requires c κs = search rules

enum-told-2 : tie.Need-enum_told-in-Utf7Body
enum-told-2 c = search rules

utf7-same-requires-2 : tie.Need-utf7_same-requires-in-Utf7Body
utf7-same-requires-2 c κs = search rules

enum-told-3 : tie.Need-enum_told-in-Jp2
enum-told-3 c = search rules

jp2-same-requires : tie.Need-jp2_same-requires
jp2-same-requires c κs = search rules

returns : tie.Need-returns-in-Utf7Header
unfolding format_of reading_of reads_in matching.reads_as
returns c =
    let utf7-same' = c.utf7_same in
    rw c.in-Utf7Header.is utf7-same'.ensures

returns-2 : tie.Need-returns-in-Utf7Body
unfolding format_of reading_of reads_in matching.reads_as
returns-2 c =
    let utf7-same2' = c.utf7_same-in-Utf7Body in
    rw c.in-Utf7Body.is utf7-same2'.ensures

returns-3 : tie.Need-returns-in-Jp2
unfolding format_of reading_of reads_in matching.reads_as
returns-3 c =
    let jp2-same' = c.jp2_same in
    rw c.in-Jp2.is jp2-same'.ensures

pub same_text_spec : {M : Type 1} → statement M
same_text_spec =
    tie.close
    (tie.spec
    enum_told
    utf7-same-requires
    enum-told-2
    utf7-same-requires-2
    enum-told-3
    jp2-same-requires
    returns
    returns-2
    returns-3)
