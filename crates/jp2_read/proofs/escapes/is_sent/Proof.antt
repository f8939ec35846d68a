use borrow.Author.Rules.{rules}
use Rattle.jp2_read.proofs.escapes.is_sent.Statement.{statement}
use Rattle.jp2_read.proofs.escapes.is_sent.Tie as tie

array-read-joined : tie.Need-bounds-escape-1
array-read-joined c = search rules

array-read-joined-2 : tie.Need-bounds-escape-2
array-read-joined-2 c = search rules

joined-requires : tie.Need-joined-front-requires
joined-requires c κs = search rules

array-read-both : tie.Need-bounds-escape-3
array-read-both c = search rules

both-requires : tie.Need-both-requires
both-requires c κs = search rules

returns : tie.Need-returns-then-long
returns c = rw (c.if-long.true, ← c.joined-front.ensures) c.both.ensures

both-requires-2 : tie.Need-both-requires-2
both-requires-2 c κs = search rules

returns-2 : tie.Need-returns
returns-2 c = rw (c.if-long.false, ← c.joined-front.ensures) c.both-2.ensures

pub is_sent_spec : {M : Type 1} → statement M
is_sent_spec =
    tie.close
    (tie.spec
    array-read-joined
    array-read-joined-2
    joined-requires
    array-read-both
    both-requires
    returns
    both-requires-2
    returns-2)
