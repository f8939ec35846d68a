use Rattle.page_read.proofs.Finds.{is_found, is-failed}
use borrow.Author.Rules.{rules}
use Rattle.page_read.proofs.lines.mark_value.Statement.{statement}
use Rattle.page_read.proofs.lines.mark_value.Tie as tie

word-requires : tie.Need-word-none-requires
word-requires c κs = search rules

returns : tie.Need-returns-then-none
returns c =
    let a = c.args in
    let word' = c.word-none in
    rw (is_found tt a.file.now word'.result.ok word'.result.at word'.ensures c.if-none.true)

decimal-requires : tie.Need-decimal-value-requires
decimal-requires c κs = search rules

returns-2 : tie.Need-returns-then-value
returns-2 c =
    let a = c.args in
    let word' = c.word-none in
    let decimal' = c.decimal-value in
    rw (
      is-failed tt a.file.now word'.result.ok word'.result.at word'.ensures c.if-none.false,
      is_found
          decimal'.result.value a.file.now decimal'.result.ok decimal'.result.at decimal'.ensures
          c.if-value.true,
    )

greater-requires : tie.Need-greater-requires
greater-requires c κs = search rules

no-mark-requires : tie.Need-no_mark-requires
no-mark-requires c κs = search rules

returns-3 : tie.Need-returns
returns-3 c =
    let a = c.args in
    let word' = c.word-none in
    let decimal' = c.decimal-value in
    let greater' = c.greater in
    let no-mark' = c.no_mark in
    rw (
      is-failed tt a.file.now word'.result.ok word'.result.at word'.ensures c.if-none.false,
      is-failed
          decimal'.result.value a.file.now decimal'.result.ok decimal'.result.at decimal'.ensures
          c.if-value.false,
      no-mark'.ensures.0,
      no-mark'.ensures.1,
      greater'.ensures,
    )

pub mark_value_spec : {M : Type 1} → statement M
mark_value_spec =
    tie.close
    (tie.spec
    word-requires
    returns
    decimal-requires
    returns-2
    greater-requires
    no-mark-requires
    returns-3)
