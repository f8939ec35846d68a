use Rattle.codec.specs.Kinds.{reading_in}
use Rattle.codec.proofs.ByKind.{fault-numbered}
use Rattle.scan.specs.Inner.{hexes_at}
use Rattle.page_file.proofs.Belonging.{count_yes, count_no}
use borrow.Author.Rules.{rules}
use Rattle.page_read.proofs.opened.has_cells.Statement.{statement}
use Rattle.page_read.proofs.opened.has_cells.Tie as tie

answer-of-requires : tie.Need-answer_of-answer-requires
answer-of-requires c κs = search rules

enum-known-answer : tie.Need-enum_known-answer
enum-known-answer c = search rules

enum_told : tie.Need-enum_told-1
enum_told c = search rules

returns : tie.Need-returns-in_default
returns c =
    let a = c.args in
    let answer-of' = c.answer_of-answer in
    count_no (reading_in a.kind (hexes_at a.file.now a.base 2 a.n))
    (fault-numbered a.kind (hexes_at a.file.now a.base 2 a.n)) a.cells answer-of'.ensures
    c.in_default.is

returns-2 : tie.Need-returns
returns-2 c =
    let a = c.args in
    let answer-of' = c.answer_of-answer in
    count_yes (reading_in a.kind (hexes_at a.file.now a.base 2 a.n))
    (fault-numbered a.kind (hexes_at a.file.now a.base 2 a.n)) a.cells answer-of'.ensures
    c.in-Ok.is

pub has_cells_spec : {M : Type 1} → statement M
has_cells_spec =
    tie.close (tie.spec answer-of-requires enum-known-answer enum_told returns returns-2)
