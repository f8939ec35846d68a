use borrow.Author.Rules.{rules}
use native.Mathlib.Omega.{arith}
use Prim.Native.Nat.{◌+◌, ◌-◌, ◌≤◌}
use mathlib.Core.Path.{◌≡◌, refl, ap, ◌∙◌}
use lib.ListN.{length}
use lib.Seq.{paste, paste-zero}
use Rattle.squeeze.specs.Tracing.{text_since}
use Rattle.squeeze.proofs.Pasting.{turned}
use Rattle.squeeze.proofs.trace.Statement.{statement}
use Rattle.squeeze.proofs.trace.Tie as tie

abbrev invariant-loop : tie.invariant-loop-at
invariant-loop work₀ start size history from to text end at₀ work at =
    (start ≤ at) × (at ≤ start + size) × (length work ≡ length work₀)
    × (work ≡ paste work₀ start (text_since from to history text) (at - start))

abbrev decreases-loop : tie.decreases-loop-at
decreases-loop work₀ start size history from to text end at₀ work at = start + size - at

add-end : tie.Need-overflow_add-end invariant-loop decreases-loop
add-end c = search rules

loop-holds : tie.Need-loop-at-init invariant-loop decreases-loop
loop-holds c =
    let a = c.args in
    let none : a.start - a.start ≡ 0 = omega arith in (
      omega arith,
      omega arith,
      refl,
      rw none
          (paste-zero a.work.now a.start (text_since a.from a.to a.history.now a.text.now)),
    )

sub-follow : tie.Need-overflow_sub-at invariant-loop decreases-loop
sub-follow c = search rules

sub-follow-2 : tie.Need-overflow_sub-end invariant-loop decreases-loop
sub-follow-2 c = search rules

follow-requires : tie.Need-follow-s-requires invariant-loop decreases-loop
follow-requires c κs =
    let a = c.args in
    let p = c.requires in
    (p.0, omega arith, omega (arith, p.1))

put-requires : tie.Need-put-at-requires invariant-loop decreases-loop
put-requires c κs =
    let f = c.follow-s.ensures in
    (omega (arith, f.few), f.part)

loop-less : tie.Need-loop-at-smaller invariant-loop decreases-loop
loop-less c =
    let f = c.follow-s.ensures in
    let e = c.put-at.ensures in
    omega (arith, f.some, f.few, e.0)

loop-again : tie.Need-loop-at-preserved invariant-loop decreases-loop
loop-again c =
    let a = c.args in
    let p = c.requires in
    let l = c.loop-at in
    let f = c.follow-s.ensures in
    let e = c.put-at in
    turned a.work.now l.work e.new.work (text_since a.from a.to a.history.now a.text.now) _
    a.start a.size l.at _ e.result p.1 p.2 l.invariant f.few f.cells e.ensures

same_length : tie.Need-shape_of-work invariant-loop decreases-loop
same_length c = c.loop-at.invariant.2

returns : tie.Need-returns invariant-loop decreases-loop
returns c =
    let a = c.args in
    let l = c.loop-at in
    let all : l.at - a.start ≡ a.size = omega arith in
    l.invariant.3 ∙ ap (paste a.work.now a.start (text_since a.from a.to a.history.now a.text.now)) all

pub trace_spec : {M : Type 1} → statement M
trace_spec =
    tie.close
    (tie.spec
    invariant-loop
    decreases-loop
    add-end
    loop-holds
    sub-follow
    sub-follow-2
    follow-requires
    put-requires
    loop-less
    loop-again
    same_length
    returns)
