use Rattle.page_read.proofs.Finds.{found-if, failed-if, is_found, is-failed, not_yes, not-no, end-as}
use borrow.Author.Rules.{rules}
use Rattle.page_read.proofs.lines.mark_line.Statement.{statement}
use Rattle.page_read.proofs.lines.mark_line.Tie as tie

word-requires : tie.Need-word-start-requires
word-requires c κs = search rules

no-mark-requires : tie.Need-no_mark-requires
no-mark-requires c κs = search rules

returns : tie.Need-returns-then-not-start
returns c =
    let a = c.args in
    let word' = c.word-start in
    let no-mark' = c.no_mark in
    rw (
      failed-if tt a.file.now word'.result word'.ensures c.if-not-start.true,
      no-mark'.ensures.0,
      no-mark'.ensures.1,
    )

mark-value-requires : tie.Need-mark_value-value-requires
mark-value-requires c κs = search rules

no-mark-requires-2 : tie.Need-no_mark-requires-then-not-value
no-mark-requires-2 c κs = search rules

returns-2 : tie.Need-returns-then-not-value
returns-2 c =
    let a = c.args in
    let word' = c.word-start in
    let mark-value' = c.mark_value-value in
    let no-mark2' = c.no_mark-then-not-value in
    rw (
      found-if tt a.file.now word'.result word'.ensures c.if-not-start.false,
      is-failed mark-value'.result.mark
          a.file.now mark-value'.result.ok mark-value'.result.at mark-value'.ensures
          (not_yes _ c.if-not-value.true),
      no-mark2'.ensures.0,
      no-mark2'.ensures.1,
    )

ended-requires : tie.Need-ended-end-requires
ended-requires c κs = search rules

returns-3 : tie.Need-returns
returns-3 c =
    let a = c.args in
    let word' = c.word-start in
    let mark-value' = c.mark_value-value in
    let ended' = c.ended-end in
    rw (
      found-if tt a.file.now word'.result word'.ensures c.if-not-start.false,
      is_found mark-value'.result.mark
          a.file.now mark-value'.result.ok mark-value'.result.at mark-value'.ensures
          (not-no _ c.if-not-value.false),
    ) (end-as mark-value'.result.mark a.file.now ended'.result.ok
    ended'.result.at ended'.ensures.1)

pub mark_line_spec : {M : Type 1} → statement M
mark_line_spec =
    tie.close
    (tie.spec
    word-requires
    no-mark-requires
    returns
    mark-value-requires
    no-mark-requires-2
    returns-2
    ended-requires
    returns-3)
