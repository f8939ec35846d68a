use Prim.Native.Nat.{◌-◌, ◌≤◌}
use mathlib.Core.Path.{◌≡◌, sym, ◌∙◌}
use mathlib.Core.Bool.{true}
use native.Mathlib.Omega.{arith}
use native.Mathlib.Nat.{zero-add}
use Rattle.answer.proofs.Below.{both}
use Rattle.utf7.specs.Sets.{own}
use Rattle.utf7.specs.declared.Style.TheVariants.{Body}
use Rattle.answer.specs.Ahead.{Ahead}
use Rattle.utf7_write.specs.Ahead.{Own}
use Rattle.answer.proofs.Ahead.{ahead_none, ahead_more}
use borrow.Author.Rules.{rules}
use Rattle.utf7_write.proofs.all_direct.Statement.{statement}
use Rattle.utf7_write.proofs.all_direct.Tie as tie

abbrev invariant-loop : tie.invariant-loop-k
invariant-loop bytes direct₀ k₀ direct k = (direct ≡ true → Ahead (Own Body) bytes 0 k) × (k ≤ 16)

abbrev decreases-loop : tie.decreases-loop-k
decreases-loop bytes direct₀ k₀ direct k = 16 - k

loop-holds : tie.Need-loop-k-init invariant-loop decreases-loop
loop-holds c = (λ _. ahead_none (Own Body) c.args.bytes 0, omega arith)

array-read-is-direct-byte : tie.Need-bounds-bytes-k invariant-loop decreases-loop
array-read-is-direct-byte c = search rules

is-direct-byte-requires : tie.Need-is_direct_byte-direct-requires invariant-loop decreases-loop
is-direct-byte-requires c κs = search rules

add-k : tie.Need-overflow_step-k invariant-loop decreases-loop
add-k c = search rules

loop-less : tie.Need-loop-k-smaller invariant-loop decreases-loop
loop-less c = search rules

loop-again : tie.Need-loop-k-preserved invariant-loop decreases-loop
unfolding own
loop-again c =
    let l = c.before.before in (
      λ e.
          let q = both l.loop-k.direct c.is_direct_byte-direct.result e in
          ahead_more (Own Body) l.args.bytes 0 l.loop-k.k (l.loop-k.invariant.0 q.0) (rw zero-add (sym c.is_direct_byte-direct.ensures ∙ q.1)),
      omega arith,
    )

returns : tie.Need-returns invariant-loop decreases-loop
returns c =
    let l = c.before in
    let e : l.loop-k.k ≡ 16 = omega (arith, c.loop-k-test.false) in
    rw e at l.loop-k.invariant.0

pub all_direct_spec : {M : Type 1} → statement M
all_direct_spec =
    tie.close
    (tie.spec
    invariant-loop
    decreases-loop
    loop-holds
    array-read-is-direct-byte
    is-direct-byte-requires
    add-k
    loop-less
    loop-again
    returns)
