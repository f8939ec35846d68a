use native.Mathlib.Omega.{arith}
use Prim.Native.Nat.{◌+◌}
use lib.ListN.{length, get_or}
use borrow.Author.Rules.{rules}
use borrow.Author.Tests.{lt-leb}
use Rattle.marks.proofs.Counting.{leading_le, sixteen-all, sixteen-some}
use Rattle.marks.proofs.ahead.Statement.{statement}
use Rattle.marks.proofs.ahead.Tie as tie

returns : tie.Need-returns-then-x-lt16
returns c = rw (lt-leb (c.args.j + 16) (length c.args.x.now) (omega arith))

sub-if2 : tie.Need-overflow_sub-x
sub-if2 c = search rules

returns-2 : tie.Need-returns-then-x-j
returns-2 c = rw (lt-leb (c.args.j + 16) (length c.args.x.now) (omega arith))

eight-requires : tie.Need-eight-a-requires
eight-requires c κs = search rules

add_eight : tie.Need-overflow_add-j
add_eight c = search rules

eight-requires-2 : tie.Need-eight-b-requires
eight-requires-2 c κs = search rules

add-result : tie.Need-overflow_add-result
add-result c = omega (arith, c.eight-b.ensures, leading_le 8 (λ k. get_or c.args.x.now (c.args.j + 8 + k) 0))

returns-3 : tie.Need-returns-then-a-eq8
returns-3 c = let a = c.args in sixteen-all a.x.now a.j (omega arith) c.eight-a.ensures c.eight-b.ensures c.if-a-eq8.true

returns-4 : tie.Need-returns
returns-4 c = let a = c.args in sixteen-some a.x.now a.j (omega arith) c.eight-a.ensures c.eight-b.ensures c.if-a-eq8.false

pub ahead_spec : {M : Type 1} → statement M
ahead_spec =
    tie.close
    (tie.spec
    returns
    sub-if2
    returns-2
    eight-requires
    add_eight
    eight-requires-2
    add-result
    returns-3
    returns-4)
