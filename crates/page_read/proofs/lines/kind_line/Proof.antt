use Rattle.page_read.specs.Inner.{kind_of}
use Rattle.page_read.proofs.Finds.{found-if, failed-if, handed, end-as}
use borrow.Author.Rules.{rules}
use Rattle.page_read.proofs.lines.kind_line.Statement.{statement}
use Rattle.page_read.proofs.lines.kind_line.Tie as tie

word-requires : tie.Need-word-start-requires
word-requires c κs = search rules

failed-requires : tie.Need-failed-requires
failed-requires c κs = search rules

returns : tie.Need-returns-then-not-start
returns c =
    let a = c.args in
    let word' = c.word-start in
    let failed' = c.failed in
    rw (failed-if tt a.file.now word'.result word'.ensures c.if-not-start.true)
    (handed (kind_of failed'.result.value) a.file.now failed'.result failed'.ensures)

kind-name-requires : tie.Need-kind_name-name-requires
kind-name-requires c κs = search rules

failed-requires-2 : tie.Need-failed-requires-then-not-name
failed-requires-2 c κs = search rules

returns-2 : tie.Need-returns-then-not-name
returns-2 c =
    let a = c.args in
    let word' = c.word-start in
    let kind-name' = c.kind_name-name in
    let failed2' = c.failed-then-not-name in
    rw (
      found-if tt a.file.now word'.result word'.ensures c.if-not-start.false,
      failed-if
          (kind_of kind-name'.result.value) a.file.now kind-name'.result kind-name'.ensures c.if-not-name.true,
    )
    (handed (kind_of failed2'.result.value) a.file.now failed2'.result failed2'.ensures)

ended-requires : tie.Need-ended-requires
ended-requires c κs = search rules

returns-3 : tie.Need-returns
returns-3 c =
    let a = c.args in
    let word' = c.word-start in
    let kind-name' = c.kind_name-name in
    let ended' = c.ended in
    rw (
      found-if tt a.file.now word'.result word'.ensures c.if-not-start.false,
      found-if
          (kind_of kind-name'.result.value) a.file.now kind-name'.result kind-name'.ensures c.if-not-name.false,
      ended'.ensures.0,
    ) (end-as (kind_of kind-name'.result.value) a.file.now ended'.result.ok
    ended'.result.at ended'.ensures.1)

pub kind_line_spec : {M : Type 1} → statement M
kind_line_spec =
    tie.close
    (tie.spec
    word-requires
    failed-requires
    returns
    kind-name-requires
    failed-requires-2
    returns-2
    ended-requires
    returns-3)
