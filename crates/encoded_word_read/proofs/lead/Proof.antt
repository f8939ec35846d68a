use Rattle.encoded_word_read.proofs.Words.{lead-first, lead-next}
use borrow.Author.Rules.{rules}
use Rattle.encoded_word_read.proofs.lead.Statement.{statement}
use Rattle.encoded_word_read.proofs.lead.Tie as tie

word-requires : tie.Need-word-requires
word-requires c κs = search rules

returns : tie.Need-returns-then-at-eq0
returns c =
    let s = c in
    let a = s.args in
    let z = c.if-at-eq0.true in
    λ ok. lead-first a.line.now a.at s.requires c.word.result ok z c.word.ensures

word-requires-2 : tie.Need-word-requires-2
word-requires-2 c κs = search rules

returns-2 : tie.Need-returns
returns-2 c =
    let s = c in
    let a = s.args in
    let z = c.if-at-eq0.false in
    λ ok. lead-next a.line.now a.at s.requires c.word-2.result ok z c.word-2.ensures

pub lead_spec : {M : Type 1} → statement M
lead_spec =
    tie.close
    (tie.spec
    word-requires
    returns
    word-requires-2
    returns-2)
