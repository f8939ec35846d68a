use native.Mathlib.Omega.{arith}
use Rattle.page_read.proofs.Finds.{found-if, failed-if, never}
use borrow.Author.Rules.{rules}
use Rattle.page_read.proofs.lines.words_line.Statement.{statement}
use Rattle.page_read.proofs.lines.words_line.Tie as tie

word-requires : tie.Need-word-start-requires
word-requires c κs = search rules

no-list-requires : tie.Need-no_list-requires
no-list-requires c κs = search rules

returns : tie.Need-returns-then-not-start
returns c =
    let a = c.args in
    let word' = c.word-start in
    let no-list' = c.no_list in (
      rw (
        failed-if tt a.file.now word'.result word'.ensures c.if-not-start.true,
        no-list'.ensures.0,
        no-list'.ensures.1,
      ),
      never _ no-list'.ensures.0,
      never _ no-list'.ensures.0,
    )

words-line-requires : tie.Need-words_line-line-requires
words-line-requires c κs = search rules

returns-2 : tie.Need-returns
returns-2 c =
    let a = c.args in
    let word' = c.word-start in
    let words-line' = c.words_line-line in
    let e = words-line'.ensures in (
      rw (found-if tt a.file.now word'.result word'.ensures c.if-not-start.false) e.0,
      (λ h. ((e.1 h).2, (e.1 h).3)),
      (λ h. omega (arith, (e.1 h).0, (e.1 h).1)),
    )

pub words_line_spec : {M : Type 1} → statement M
words_line_spec =
    tie.close (tie.spec word-requires no-list-requires returns words-line-requires returns-2)
