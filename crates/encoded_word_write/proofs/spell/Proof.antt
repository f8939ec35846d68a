use Prim.Native.Nat.{◌+◌, ◌-◌, ◌≤◌, ◌<◌}
use mathlib.Core.Path.{◌≡◌}
use lib.ListN.{length, get_or}
use native.Mathlib.Omega.{arith}
use Rattle.encoded_word.specs.Writing.{spelled}
use Rattle.encoded_word_write.proofs.Spelt.{Spelt, spelt-start, spelt-some, spelt-room, spelt-next, spelt-done}
use borrow.Author.Rules.{rules}
use Rattle.encoded_word_write.proofs.spell.Statement.{statement}
use Rattle.encoded_word_write.proofs.spell.Tie as tie

abbrev invariant-loop : tie.invariant-loop-i
invariant-loop out₀ n size i₀ to₀ out i to = Spelt out₀ n out i to

abbrev decreases-loop : tie.decreases-loop-i
decreases-loop out₀ n size i₀ to₀ out i to = i

-- a byte is left
some : (c : tie.In-loop-i invariant-loop decreases-loop) → 0 < c.loop-i.i
some c =
    let p = c.requires in
    spelt-some _ _ _ p.0 p.1 p.2 c.loop-i.invariant c.loop-i-test.true

at_last :
    (c : tie.In-loop-i invariant-loop decreases-loop) →
    let a = c.args in
    let l = c.loop-i in Spelt a.out.now a.n l.out (l.i - 1 + 1) l.to
at_last c =
    let l = c.loop-i in
    let e : l.i - 1 + 1 ≡ l.i = omega (arith, some c) in
    rw e l.invariant

room :
    (c : tie.In-loop-i invariant-loop decreases-loop) →
    let l = c.loop-i in
    let w = length (spelled (get_or l.out (l.i - 1) 0)) in (w ≤ l.to) × (l.to - w + w ≤ length l.out)
room c =
    let p = c.requires in spelt-room _ _ _ p.0 p.1 p.2 (c.loop-i.i - 1) (at_last c)

loop-holds : tie.Need-loop-i-init invariant-loop decreases-loop
loop-holds c = spelt-start _ _ _ c.requires.0 c.requires.1 c.requires.2

sub-i : tie.Need-overflow_sub-i invariant-loop decreases-loop
sub-i c = some (c)

slice-read-b : tie.Need-bounds-out-i invariant-loop decreases-loop
slice-read-b c =
    let l = c.loop-i in
    omega (arith, some c.before, l.invariant.same, l.invariant.upto, c.requires.0)

width-requires : tie.Need-width-to-requires invariant-loop decreases-loop
width-requires c κs = search rules

sub-to : tie.Need-overflow_sub-to invariant-loop decreases-loop
sub-to c = omega (arith, c.width-to.ensures, (room c.before.before).0)

put-spelled-requires : tie.Need-put_spelled-requires invariant-loop decreases-loop
put-spelled-requires c κs =
    let t = c.before.before.before in
    omega (arith, c.width-to.ensures, (room t).0, (room t).1)

loop-less : tie.Need-loop-i-smaller invariant-loop decreases-loop
loop-less c = omega (arith, some c.before.before.before.before.before.before)

loop-again : tie.Need-loop-i-preserved invariant-loop decreases-loop
loop-again c =
    let p = c.requires in
    let t = c.before.before.before.before.before.before in
    let e = c.width-to.ensures in
    let q = rw e at c.put_spelled.ensures in
    rw e (spelt-next _ _ _ p.0 p.1 p.2 (t.loop-i.i - 1) (at_last t) _ q)

show-requires : tie.Need-show-requires invariant-loop decreases-loop
show-requires c κs =
    let l = c.loop-i in
    omega (arith, l.invariant.upto, l.invariant.same, c.requires.0)

same_length : tie.Need-shape_of-out invariant-loop decreases-loop
same_length c = search rules

returns : tie.Need-returns invariant-loop decreases-loop
returns c =
    let p = c.requires in
    let l = c.loop-i in
    let e = c.show.ensures in
    spelt-done _ _ _ p.0 p.1 p.2 l.invariant c.loop-i-test.false e

pub spell_spec : {M : Type 1} → statement M
spell_spec =
    tie.close
    (tie.spec
    invariant-loop
    decreases-loop
    loop-holds
    sub-i
    slice-read-b
    width-requires
    sub-to
    put-spelled-requires
    loop-less
    loop-again
    show-requires
    same_length
    returns)
