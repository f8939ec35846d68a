use borrow.Author.Rules.{rules}
use Rattle.encoded_word_write.proofs.put_end.Statement.{statement}
use Rattle.encoded_word_write.proofs.put_end.Tie as tie

put-bytes-requires : tie.Need-put_bytes-requires
put-bytes-requires c κs = rw c.if-more.true at c.requires

same_length : tie.Need-shape_of-out-then-more
same_length c = search rules

returns : tie.Need-returns-then-more
returns c = rw c.if-more.true c.put_bytes.ensures

put-bytes-requires-2 : tie.Need-put_bytes-requires-2
put-bytes-requires-2 c κs = rw c.if-more.false at c.requires

same-length-2 : tie.Need-shape_of-out
same-length-2 c = search rules

returns-2 : tie.Need-returns
returns-2 c = rw c.if-more.false c.put_bytes-2.ensures

pub put_end_spec : {M : Type 1} → statement M
put_end_spec =
    tie.close
    (tie.spec
    put-bytes-requires
    same_length
    returns
    put-bytes-requires-2
    same-length-2
    returns-2)
