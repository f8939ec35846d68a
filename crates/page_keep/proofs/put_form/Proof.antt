use native.Mathlib.Omega.{arith}
use borrow.Author.Rules.{rules}
use Rattle.page_keep.proofs.put_form.Statement.{statement}
use Rattle.page_keep.proofs.put_form.Tie as tie

put-bytes-requires : tie.Need-put_bytes-requires
put-bytes-requires c κs = search rules

same_length : tie.Need-shape_of-out-then-two
same_length c = search rules

returns : tie.Need-returns-then-two
returns c =
    rw c.if-two.true (omega arith, c.put_bytes.ensures.1)

put-bytes-requires-2 : tie.Need-put_bytes-requires-2
put-bytes-requires-2 c κs = search rules

same-length-2 : tie.Need-shape_of-out
same-length-2 c = search rules

returns-2 : tie.Need-returns
returns-2 c =
    rw c.if-two.false (omega arith, c.put_bytes-2.ensures.1)

pub put_form_spec : {M : Type 1} → statement M
put_form_spec =
    tie.close
    (tie.spec
    put-bytes-requires
    same_length
    returns
    put-bytes-requires-2
    same-length-2
    returns-2)
