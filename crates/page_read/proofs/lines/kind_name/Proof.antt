use Rattle.page_read.specs.Inner.{kind_of}
use Rattle.page_read.proofs.Finds.{is_found, is-failed, handed}
use borrow.Author.Rules.{rules}
use Rattle.page_read.proofs.lines.kind_name.Statement.{statement}
use Rattle.page_read.proofs.lines.kind_name.Tie as tie

word-requires : tie.Need-word-header-requires
word-requires c κs = search rules

returns : tie.Need-returns-then-header
returns c =
    let a = c.args in
    let word' = c.word-header in
    rw (is_found tt a.file.now word'.result.ok word'.result.at word'.ensures c.if-header.true)

word-requires-2 : tie.Need-word-body-requires
word-requires-2 c κs = search rules

returns-2 : tie.Need-returns-then-body
returns-2 c =
    let a = c.args in
    let word' = c.word-header in
    let word2' = c.word-body in
    rw (
      is-failed tt a.file.now word'.result.ok word'.result.at word'.ensures c.if-header.false,
      is_found tt
          a.file.now word2'.result.ok word2'.result.at word2'.ensures c.if-body.true,
    )

word-requires-3 : tie.Need-word-jp2-requires
word-requires-3 c κs = search rules

greater-requires : tie.Need-greater-last-requires
greater-requires c κs = search rules

returns-3 : tie.Need-returns-then-jp2
returns-3 c =
    let a = c.args in
    let word' = c.word-header in
    let word2' = c.word-body in
    let word3' = c.word-jp2 in
    rw (
      is-failed tt a.file.now word'.result.ok word'.result.at word'.ensures c.if-header.false,
      is-failed tt
          a.file.now word2'.result.ok word2'.result.at word2'.ensures c.if-body.false,
      is_found tt
          a.file.now word3'.result.ok word3'.result.at word3'.ensures c.if-jp2.true,
    )

greater-requires-2 : tie.Need-greater-requires
greater-requires-2 c κs = search rules

failed-requires : tie.Need-failed-requires
failed-requires c κs = search rules

returns-4 : tie.Need-returns
returns-4 c =
    let a = c.args in
    let word' = c.word-header in
    let word2' = c.word-body in
    let word3' = c.word-jp2 in
    let greater' = c.greater-last in
    let greater2' = c.greater in
    let failed' = c.failed in
    rw (
      is-failed tt a.file.now word'.result.ok word'.result.at word'.ensures c.if-header.false,
      is-failed tt
          a.file.now word2'.result.ok word2'.result.at word2'.ensures c.if-body.false,
      is-failed tt
          a.file.now word3'.result.ok word3'.result.at word3'.ensures c.if-jp2.false,
      ← greater'.ensures,
      ←
          greater2'.ensures,
    ) (handed (kind_of failed'.result.value) a.file.now failed'.result
    failed'.ensures)

pub kind_name_spec : {M : Type 1} → statement M
kind_name_spec =
    tie.close
    (tie.spec
    word-requires
    returns
    word-requires-2
    returns-2
    word-requires-3
    greater-requires
    returns-3
    greater-requires-2
    failed-requires
    returns-4)
