use Rattle.page_read.proofs.Values.{hex-two}
use borrow.Author.Rules.{rules}
use Rattle.page_read.proofs.hex.byte_at.Statement.{statement}
use Rattle.page_read.proofs.hex.byte_at.Tie as tie

shared-slice-read-nibble-of : tie.Need-bounds-s-at
shared-slice-read-nibble-of c = search rules

nibble-of-requires : tie.Need-nibble_of-requires
nibble-of-requires c κs = search rules

mul-result : tie.Need-overflow_mul-result
mul-result c = search rules

add-nibble-of : tie.Need-overflow_add-at
add-nibble-of c = search rules

shared-slice-read-nibble-of-2 : tie.Need-bounds-s-at-2
shared-slice-read-nibble-of-2 c = search rules

nibble-of-requires-2 : tie.Need-nibble_of-requires-2
nibble-of-requires-2 c κs = search rules

add-result : tie.Need-overflow_add-result
add-result c = search rules

returns : tie.Need-returns
returns c = hex-two c.args.s.now
    c.args.at c.nibble_of.ensures.0
    c.nibble_of-2.ensures.0

pub byte_at_spec : {M : Type 1} → statement M
byte_at_spec =
    tie.close
    (tie.spec
    shared-slice-read-nibble-of
    nibble-of-requires
    mul-result
    add-nibble-of
    shared-slice-read-nibble-of-2
    nibble-of-requires-2
    add-result
    returns)
