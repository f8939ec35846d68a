use mathlib.Core.Path.{sym, ◌∙◌}
use lib.ListN.{drop}
use Rattle.page_file.proofs.Forms.{first-form, second-form}
use Rattle.page_read.proofs.Finds.{is_found, is-failed, no-form}
use borrow.Author.Rules.{rules}
use Rattle.page_read.proofs.lines.first_lines.Statement.{statement}
use Rattle.page_read.proofs.lines.first_lines.Tie as tie

word-requires : tie.Need-word-one-requires
word-requires c κs = search rules

page-lines-requires : tie.Need-page_lines-requires
page-lines-requires c κs = search rules

returns : tie.Need-returns-then-one
returns c =
    let a = c.args in
    let word' = c.word-one in
    let s = a.file.now in
    let r = word'.result in
    c.page_lines.ensures
    ∙ sym (first-form s (drop r.at s) r.at (is_found tt s r.ok r.at word'.ensures c.if-one.true))

word-requires-2 : tie.Need-word-two-requires
word-requires-2 c κs = search rules

page-lines-requires-2 : tie.Need-page_lines-requires-then-two
page-lines-requires-2 c κs = search rules

returns-2 : tie.Need-returns-then-two
returns-2 c =
    let a = c.args in
    let word2' = c.word-two in
    let s = a.file.now in
    let r = word2'.result in
    c.page_lines-then-two.ensures
    ∙ sym (second-form s (drop r.at s) r.at (is_found tt s r.ok r.at word2'.ensures c.if-two.true))

greater-requires : tie.Need-greater-requires
greater-requires c κs = search rules

no-head-requires : tie.Need-no_head-requires
no-head-requires c κs = search rules

returns-3 : tie.Need-returns
returns-3 c =
    let a = c.args in
    let word' = c.word-one in
    let word2' = c.word-two in
    let s = a.file.now in
    rw (c.no_head.ensures.0, c.no_head.ensures.1, c.greater.ensures)
    (sym (no-form s (is-failed tt s word'.result.ok word'.result.at word'.ensures c.if-one.false)
    (is-failed tt s word2'.result.ok word2'.result.at word2'.ensures c.if-two.false)))

pub first_lines_spec : {M : Type 1} → statement M
first_lines_spec =
    tie.close
    (tie.spec
    word-requires
    page-lines-requires
    returns
    word-requires-2
    page-lines-requires-2
    returns-2
    greater-requires
    no-head-requires
    returns-3)
