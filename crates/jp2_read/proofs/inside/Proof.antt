use native.Mathlib.Omega.{arith}
use borrow.Author.Rules.{rules}
use Rattle.jp2_read.proofs.Moves.{inside_one, inside-two, inside-more}
use Rattle.jp2_read.proofs.inside.Statement.{statement}
use Rattle.jp2_read.proofs.inside.Tie as tie

returns : tie.Need-returns-then-bytes-lt2
returns c = inside_one c.args.bytes.now c.if-bytes-lt2.true

shared-slice-read-t5 : tie.Need-bounds-bytes-1
shared-slice-read-t5 c = search rules

returns-2 : tie.Need-returns-then-bytes-eq2
returns-2 c = inside-two c.args.bytes.now c.if-bytes-eq2.true

shared-slice-read-t7 : tie.Need-bounds-bytes-1-2
shared-slice-read-t7 c = search rules

shared-slice-read-t9 : tie.Need-bounds-bytes-2
shared-slice-read-t9 c = search rules

returns-3 : tie.Need-returns
returns-3 c = inside-more c.args.bytes.now (omega arith)

pub inside_spec : {M : Type 1} → statement M
inside_spec =
    tie.close
    (tie.spec
    returns
    shared-slice-read-t5
    returns-2
    shared-slice-read-t7
    shared-slice-read-t9
    returns-3)
