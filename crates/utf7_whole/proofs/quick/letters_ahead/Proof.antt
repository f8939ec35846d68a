use Prim.Native.Nat.{◌+◌, ◌-◌, ◌≤◌}
use mathlib.Core.Path.{◌≡◌}
use native.Mathlib.Omega.{arith}
use lib.ListN.{get_or}
use borrow.Author.Rules.{rules}
use Rattle.alphabet.specs.Letters.{set_b, slash}
use Rattle.utf7_whole.specs.Quick.{Ahead}
use Rattle.utf7_whole.proofs.Tokens.{ahead-start, ahead_more}
use Rattle.utf7_whole.proofs.quick.letters_ahead.Statement.{statement}
use Rattle.utf7_whole.proofs.quick.letters_ahead.Tie as tie

abbrev invariant-loop : tie.invariant-loop-k
invariant-loop text at m₀ k₀ m k = (k ≤ 32) × Ahead (λ j. set_b slash (get_or text (at + j) 0)) k m

abbrev decreases-loop : tie.decreases-loop-k
decreases-loop text at m₀ k₀ m k = 32 - k

loop-holds : tie.Need-loop-k-init invariant-loop decreases-loop
loop-holds c = (omega arith, ahead-start)

add-is-letter : tie.Need-overflow_add-at invariant-loop decreases-loop
add-is-letter c = search rules

shared-slice-read-is-letter : tie.Need-bounds-text-at invariant-loop decreases-loop
shared-slice-read-is-letter c = search rules

is-letter-requires : tie.Need-is_letter-requires invariant-loop decreases-loop
is-letter-requires c κs = search rules

cast-noted : tie.Need-overflow_cast-k invariant-loop decreases-loop
cast-noted c = search rules

noted-requires : tie.Need-noted-requires invariant-loop decreases-loop
noted-requires c κs = search rules

least-requires : tie.Need-least-m-requires invariant-loop decreases-loop
least-requires c κs = search rules

add-k : tie.Need-overflow_step-k invariant-loop decreases-loop
add-k c = search rules

loop-less : tie.Need-loop-k-smaller invariant-loop decreases-loop
loop-less c = search rules

loop-again : tie.Need-loop-k-preserved invariant-loop decreases-loop
loop-again c = let l = c in
    (omega arith, rw (c.least-m.ensures, c.noted.ensures, c.is_letter.ensures) (ahead_more l.loop-k.invariant.1 c.loop-k-test.true))

cast-result : tie.Need-overflow_cast-result invariant-loop decreases-loop
cast-result c = search rules

returns : tie.Need-returns invariant-loop decreases-loop
returns c = let l = c.loop-k in
    let e : l.k ≡ 32 = omega (arith, l.invariant.0) in
    rw e at l.invariant.1

pub letters_ahead_spec : {M : Type 1} → statement M
letters_ahead_spec =
    tie.close
    (tie.spec
    invariant-loop
    decreases-loop
    loop-holds
    add-is-letter
    shared-slice-read-is-letter
    is-letter-requires
    cast-noted
    noted-requires
    least-requires
    add-k
    loop-less
    loop-again
    cast-result
    returns)
