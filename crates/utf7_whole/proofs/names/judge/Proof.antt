use Prim.Native.Nat.{◌+◌, ◌-◌}
use mathlib.Core.Path.{◌≡◌, refl, sym, ◌∙◌}
use native.Mathlib.Omega.{arith}
use lib.ListN.{length}
use Rattle.utf7_whole.specs.Mailbox.{Stands}
use Rattle.utf7_whole.proofs.Buffers.{padded-self}
use Rattle.utf7_whole.proofs.Mailbox.{stands_on}
use Rattle.utf7_whole.proofs.names.judge.Statement.{statement}
use Rattle.utf7_whole.proofs.names.judge.Tie as tie

abbrev invariant-loop : tie.invariant-loop-at
invariant-loop text cells₀ at₀ n₀ after₀ cells at n after = Stands text (record { at = at; n = n; after = after }) × (length cells ≡ 1088)

abbrev decreases-loop : tie.decreases-loop-at
decreases-loop text cells₀ at₀ n₀ after₀ cells at n after = length text - at

loop-holds : tie.Need-loop-at-init invariant-loop decreases-loop
loop-holds c = (c.requires, refl)

slice-aggregate-fill : tie.Need-slice_bounds-fill-end invariant-loop decreases-loop
slice-aggregate-fill c = sym c.loop-at.invariant.1

fill-requires : tie.Need-fill-r-requires invariant-loop decreases-loop
fill-requires c κs = (c.loop-at.invariant.0.within, omega arith)

-- where the reader then stands
next :
    (c : tie.After-fill-r invariant-loop decreases-loop) →
    let l = c.before.before.before in
    let r = c.fill-r.result in Stands l.args.text.now (record { at = r.at; n = l.loop-at.n + r.n; after = r.after })
next c = let l = c in stands_on l.loop-at.invariant.0 (c.fill-r.ensures _ (padded-self _) l.loop-at.invariant.0.within)

returns : tie.Need-returns-then-to-at invariant-loop decreases-loop
returns c = c.loop-at.invariant.0

add-n : tie.Need-overflow_add-n invariant-loop decreases-loop
add-n c = let q = next c.before.before.before in omega (arith, q.few, q.within)

loop-less : tie.Need-loop-at-smaller invariant-loop decreases-loop
loop-less c = omega (arith, c.if-to-at.false, c.loop-at-test.true)

loop-again : tie.Need-loop-at-preserved invariant-loop decreases-loop
loop-again c = let f = c.before.before.before in (next f, f.fill-r.auto.out ∙ f.loop-at.invariant.1)

returns-2 : tie.Need-returns invariant-loop decreases-loop
returns-2 c = c.loop-at.invariant.0

pub judge_spec : {M : Type 1} → statement M
judge_spec = tie.close (tie.spec invariant-loop decreases-loop loop-holds slice-aggregate-fill fill-requires returns add-n loop-less loop-again returns-2)
