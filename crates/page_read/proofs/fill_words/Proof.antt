use native.Mathlib.Omega.{arith}
use Rattle.scan.specs.Inner.{hexes_at}
use Rattle.page_read.proofs.Values.{length-hexes}
use Rattle.page_read.proofs.Answers.{pads-words}
use borrow.Author.Rules.{rules}
use Rattle.page_read.proofs.fill_words.Statement.{statement}
use Rattle.page_read.proofs.fill_words.Tie as tie

read-words-requires : tie.Need-read_words-requires
read-words-requires c κs = search rules

clear-from-requires : tie.Need-clear_from-requires
clear-from-requires c κs = search rules

same_length : tie.Need-shape_of-out
same_length c = search rules

returns : tie.Need-returns
returns c =
    let a = c.args in
    let read-words' = c.read_words in
    let clear-from' = c.clear_from in
    pads-words (hexes_at a.file.now a.from 8 a.n) a.out.now _ a.n
    (length-hexes a.file.now a.from 8 a.n) (omega arith) read-words'.ensures clear-from'.ensures

pub fill_words_spec : {M : Type 1} → statement M
fill_words_spec = tie.close (tie.spec read-words-requires clear-from-requires same_length returns)
