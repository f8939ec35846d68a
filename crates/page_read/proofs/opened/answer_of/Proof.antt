use Rattle.codec.specs.Kinds.{format_of, reading_of}
use borrow.Author.Rules.{rules}
use Rattle.page_read.proofs.opened.answer_of.Statement.{statement}
use Rattle.page_read.proofs.opened.answer_of.Tie as tie

enum_told : tie.Need-enum_told-1
enum_told c = search rules

utf7-answer-requires : tie.Need-utf7_answer-requires
utf7-answer-requires c κs = search rules

enum-told-2 : tie.Need-enum_told-in-Utf7Body
enum-told-2 c = search rules

utf7-answer-requires-2 : tie.Need-utf7_answer-requires-in-Utf7Body
utf7-answer-requires-2 c κs = search rules

enum-told-3 : tie.Need-enum_told-in-Jp2
enum-told-3 c = search rules

jp2-answer-requires : tie.Need-jp2_answer-requires
jp2-answer-requires c κs = search rules

returns : tie.Need-returns-in-Utf7Header
unfolding format_of reading_of
returns c =
    let utf7-answer' = c.utf7_answer in
    rw c.in-Utf7Header.is utf7-answer'.ensures

returns-2 : tie.Need-returns-in-Utf7Body
unfolding format_of reading_of
returns-2 c =
    let utf7-answer2' = c.utf7_answer-in-Utf7Body in
    rw c.in-Utf7Body.is utf7-answer2'.ensures

returns-3 : tie.Need-returns-in-Jp2
unfolding format_of reading_of
returns-3 c =
    let jp2-answer' = c.jp2_answer in
    rw c.in-Jp2.is jp2-answer'.ensures

pub answer_of_spec : {M : Type 1} → statement M
answer_of_spec =
    tie.close
    (tie.spec
    enum_told
    utf7-answer-requires
    enum-told-2
    utf7-answer-requires-2
    enum-told-3
    jp2-answer-requires
    returns
    returns-2
    returns-3)
