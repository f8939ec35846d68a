use Prim.Native.Nat.{◌≤◌}
use mathlib.Core.Path.{◌∙◌}
use lib.ListN.{length}
use native.Mathlib.Omega.{arith}
use Rattle.utf7_write.proofs.Marks.{marked-of}
use borrow.Author.Rules.{rules}
use Rattle.utf7_write.proofs.window_at.Statement.{statement}
use Rattle.utf7_write.proofs.window_at.Tie as tie

sub-if1 : tie.Need-overflow_sub-i
sub-if1 c = search rules

add-if1 : tie.Need-overflow_add-i
add-if1 c = search rules

returns : tie.Need-returns-then-i-base
returns c = let p = c.requires in (p.2, p.3, omega (arith, c.if-i-base.true, p.3), p.4)

put-bytes-requires : tie.Need-put_bytes-n-requires
put-bytes-requires c κs = search rules

turn-marks-requires : tie.Need-turn_marks-requires
turn-marks-requires c κs =
    let p = c.put_bytes-n in
    let h : p.result ≤ length p.new.out = omega (arith, p.ensures.0, p.auto.out) in
    h

same_length : tie.Need-shape_of-marks
same_length c = c.turn_marks.auto.marks ∙ c.put_bytes-n.auto.out

returns-2 : tie.Need-returns
returns-2 c =
    let t = c.turn_marks in
    let p = c.put_bytes-n in
    let s = c.before.before.before.before.before.before.before.before.before.before.before in
    let a = s.args in (
      marked-of a.style a.cells.now a.i p.new.out t.new.marks p.result p.ensures.1 t.ensures,
      omega arith,
      omega (arith, p.ensures.2 s.requires.0 s.requires.1),
      p.ensures.0,
    )

pub window_at_spec : {M : Type 1} → statement M
window_at_spec =
    tie.close
    (tie.spec
    sub-if1
    add-if1
    returns
    put-bytes-requires
    turn-marks-requires
    same_length
    returns-2)
