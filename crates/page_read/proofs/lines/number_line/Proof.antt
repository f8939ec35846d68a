use Rattle.page_read.proofs.Finds.{found-if, failed-if, handed, end-as}
use borrow.Author.Rules.{rules}
use Rattle.page_read.proofs.lines.number_line.Statement.{statement}
use Rattle.page_read.proofs.lines.number_line.Tie as tie

word-requires : tie.Need-word-start-requires
word-requires c κs = search rules

failed-requires : tie.Need-failed-requires
failed-requires c κs = search rules

returns : tie.Need-returns-then-not-start
returns c =
    let a = c.args in
    let word' = c.word-start in
    let failed' = c.failed in
    rw (failed-if tt a.file.now word'.result word'.ensures c.if-not-start.true)
    (handed failed'.result.value a.file.now failed'.result failed'.ensures)

decimal-requires : tie.Need-decimal-value-requires
decimal-requires c κs = search rules

failed-requires-2 : tie.Need-failed-requires-then-not-value
failed-requires-2 c κs = search rules

returns-2 : tie.Need-returns-then-not-value
returns-2 c =
    let a = c.args in
    let word' = c.word-start in
    let decimal' = c.decimal-value in
    let failed2' = c.failed-then-not-value in
    rw (
      found-if tt a.file.now word'.result word'.ensures c.if-not-start.false,
      failed-if decimal'.result.value
          a.file.now decimal'.result decimal'.ensures c.if-not-value.true,
    )
    (handed failed2'.result.value a.file.now failed2'.result failed2'.ensures)

ended-requires : tie.Need-ended-requires
ended-requires c κs = search rules

returns-3 : tie.Need-returns
returns-3 c =
    let a = c.args in
    let word' = c.word-start in
    let decimal' = c.decimal-value in
    let ended' = c.ended in
    rw (
      found-if tt a.file.now word'.result word'.ensures c.if-not-start.false,
      found-if decimal'.result.value
          a.file.now decimal'.result decimal'.ensures c.if-not-value.false,
      ended'.ensures.0,
    )
    (end-as decimal'.result.value a.file.now ended'.result.ok ended'.result.at ended'.ensures.1)

pub number_line_spec : {M : Type 1} → statement M
number_line_spec =
    tie.close
    (tie.spec
    word-requires
    failed-requires
    returns
    decimal-requires
    failed-requires-2
    returns-2
    ended-requires
    returns-3)
