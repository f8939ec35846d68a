use native.Mathlib.Omega.{arith}
use Rattle.page_read.proofs.Values.{length-hexes}
use borrow.Author.Rules.{rules}
use Rattle.page_read.proofs.take_in.Statement.{statement}
use Rattle.page_read.proofs.take_in.Tie as tie

fill-bytes-requires : tie.Need-fill_bytes-requires
fill-bytes-requires c κs =
    let pre' = c.requires in
    (pre'.0.arrived, omega arith)

fill-words-requires : tie.Need-fill_words-requires
fill-words-requires c κs =
    let pre' = c.requires in
    (pre'.0.text, omega arith)

fill-words-requires-2 : tie.Need-fill_words-requires-2
fill-words-requires-2 c κs =
    let pre' = c.requires in
    (pre'.0.history, omega arith)

same_length : tie.Need-shape_of-arrived
same_length c = search rules

same-length-2 : tie.Need-shape_of-text
same-length-2 c = search rules

same-length-3 : tie.Need-shape_of-history
same-length-3 c = search rules

returns : tie.Need-returns
returns c =
    let a = c.args in
    let fill-bytes' = c.fill_bytes in
    let fill-words' = c.fill_words in
    let fill-words2' = c.fill_words-2 in
    rw (
      fill-bytes'.ensures,
      fill-words'.ensures,
      fill-words2'.ensures,
      length-hexes a.file.now
          a.plan.arrived 2 a.plan.count,
    )

pub take_in_spec : {M : Type 1} → statement M
take_in_spec =
    tie.close
    (tie.spec
    fill-bytes-requires
    fill-words-requires
    fill-words-requires-2
    same_length
    same-length-2
    same-length-3
    returns)
