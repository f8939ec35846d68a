use Rattle.page_read.proofs.Finds.{found-if, failed-if, never}
use borrow.Author.Rules.{rules}
use Rattle.page_read.proofs.lines.arrived_line.Statement.{statement}
use Rattle.page_read.proofs.lines.arrived_line.Tie as tie

word-requires : tie.Need-word-key-requires
word-requires c κs = search rules

no-list-requires : tie.Need-no_list-requires
no-list-requires c κs = search rules

returns : tie.Need-returns-then-not-key
returns c =
    let a = c.args in
    let word' = c.word-key in
    let no-list' = c.no_list in (
      rw (
        failed-if tt a.file.now word'.result word'.ensures c.if-not-key.true,
        no-list'.ensures.0,
        no-list'.ensures.1,
      ),
      never _ no-list'.ensures.0,
    )

least-of-requires : tie.Need-least_of-least-requires
least-of-requires c κs = search rules

most-of-requires : tie.Need-most_of-most-requires
most-of-requires c κs = search rules

bytes-line-requires : tie.Need-bytes_line-line-requires
bytes-line-requires c κs = search rules

returns-2 : tie.Need-returns
returns-2 c =
    let a = c.args in
    let word' = c.word-key in
    let least-of' = c.least_of-least in
    let most-of' = c.most_of-most in
    let e = c.bytes_line-line.ensures in (
      rw (found-if tt a.file.now word'.result word'.ensures c.if-not-key.false)
          (rw (least-of'.ensures, most-of'.ensures) at e.0),
      (λ h. ((e.1 h).2, (e.1 h).3)),
    )

pub arrived_line_spec : {M : Type 1} → statement M
arrived_line_spec =
    tie.close
    (tie.spec
    word-requires
    no-list-requires
    returns
    least-of-requires
    most-of-requires
    bytes-line-requires
    returns-2)
