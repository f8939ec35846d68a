use Prim.Native.Nat.{ℕ, ◌+◌, ◌-◌, ◌<◌, ◌≤◌}
use mathlib.Core.Path.{◌≡◌, refl, ◌∙◌}
use mathlib.Core.List.{List}
use native.Mathlib.Omega.{arith}
use lib.ListN.{length}
use borrow.Author.Rules.{rules}
use Rattle.utf7.specs.Rule.{outside}
use Rattle.utf7_whole.specs.Quick.{Padded, Filled}
use Rattle.utf7_whole.proofs.Buffers.{padded-self, filled-start, filled-as, filled_in, filled-direct}
use Rattle.utf7_whole.proofs.quick.fill.Statement.{statement}
use Rattle.utf7_whole.proofs.quick.fill.Tie as tie

-- the cells so far stand in front, whatever text is lent with zeros behind it
abbrev Filling : List ℕ → ℕ → ℕ → List ℕ → Type 0
Filling text at n out = (s : List ℕ) → Padded s text → Filled s at outside n out

abbrev invariant-loop : tie.invariant-loop-at
invariant-loop text out₀ at₀ n₀ out at n = Filling text at n out × (length out ≡ length out₀) × (n ≤ length out)

abbrev decreases-loop : tie.decreases-loop-at
decreases-loop text out₀ at₀ n₀ out at n = length text - at

loop-holds : tie.Need-loop-at-init invariant-loop decreases-loop
loop-holds c = (λ s p. filled-start s _, refl, omega arith)

add-loop : tie.Need-overflow_add-at invariant-loop decreases-loop
add-loop c = omega (arith, (c.loop-at.invariant.0 _ (padded-self c.args.text.now)).left.within)

add-if1 : tie.Need-overflow_add-n invariant-loop decreases-loop
add-if1 c = search rules

same_length : tie.Need-shape_of-out-then-out-n invariant-loop decreases-loop
same_length c = c.loop-at.invariant.1

returns : tie.Need-returns-then-out-n invariant-loop decreases-loop
returns c = c.loop-at.invariant.0

direct-ahead-requires : tie.Need-direct_ahead-k-requires invariant-loop decreases-loop
direct-ahead-requires c κs = search rules

widen-requires : tie.Need-widen-requires invariant-loop decreases-loop
widen-requires c κs = (c.direct_ahead-k.ensures.0, omega (arith, c.loop-at-test.true), omega (arith, c.if-out-n.false))

add_at : tie.Need-overflow_add-at-then-k-eq32 invariant-loop decreases-loop
add_at c = search rules

add-n : tie.Need-overflow_add-n-then-k-eq32 invariant-loop decreases-loop
add-n c = search rules

-- the loop's start, from behind the bytes that stand for themselves
abbrev W : Type 0
W = tie.After-slice_known-in-loop-at-1 invariant-loop decreases-loop

abbrev top : W → tie.In-loop-at invariant-loop decreases-loop
top c = c.before.before.before.before.before.before

abbrev size : W → ℕ
size c = c.direct_ahead-k.result

-- they are laid
direct : (c : W) → let l = (top c).before in Filling l.args.text.now (l.loop-at.at + size c) (l.loop-at.n + size c) c.widen.new.out
direct c s p = filled-direct ((top c).loop-at.invariant.0 s p) p _ c.direct_ahead-k.ensures.1 c.widen.ensures

same : (c : W) → length c.widen.new.out ≡ length (top c).args.out.now
same c = c.widen.ensures.same ∙ (top c).loop-at.invariant.1

-- many bytes follow, and there is room
near : (c : W) → let l = (top c).before in l.loop-at.at + size c + 5 ≤ length l.args.text.now
near c = omega (arith, c.direct_ahead-k.ensures.0, (top c).loop-at-test.true)

room : (c : W) → (top c).loop-at.n + size c < length c.widen.new.out
room c = omega (arith, c.direct_ahead-k.ensures.0, c.if-out-n.false, c.widen.ensures.same)

loop-less : tie.Need-loop-at-smaller-then-k-eq32 invariant-loop decreases-loop
loop-less c = search rules

loop-again : tie.Need-loop-at-preserved-then-k-eq32 invariant-loop decreases-loop
loop-again c = (
  λ s p. filled-as (direct c.before s p) (omega (arith, c.if-k-eq32.true)) (omega (arith, c.if-k-eq32.true)),
  same c.before,
  omega (arith, room c.before, c.if-k-eq32.true),
)

add-put-token : tie.Need-overflow_add-at-else-k-eq32 invariant-loop decreases-loop
add-put-token c = omega (arith, near c.before)

add-put-token-2 : tie.Need-overflow_add-n-else-k-eq32 invariant-loop decreases-loop
add-put-token-2 c = omega (arith, room c.before.before)

put-token-requires : tie.Need-put_token-r-requires invariant-loop decreases-loop
put-token-requires c κs = let w = c.before.before in (near w, room w)

-- behind what begins at a sign
abbrev T : Type 0
T = tie.After-slice_known-else-k-eq32-1 invariant-loop decreases-loop

abbrev back : T → W
back c = c.before.before.before.before.before

token : (c : T) → let r = c.put_token-r in Filling (top (back c)).args.text.now r.result.at r.result.n r.new.out
token c s p = c.put_token-r.ensures.fills s p (direct (back c) s p)

all : (c : T) → let r = c.put_token-r in Filled (top (back c)).args.text.now r.result.at outside r.result.n r.new.out
all c = token c _ (padded-self _)

add-if3 : tie.Need-overflow_add-at-else-k-eq32-2 invariant-loop decreases-loop
add-if3 c = omega (arith, near (back c))

same-length-2 : tie.Need-shape_of-out-then-r-at invariant-loop decreases-loop
same-length-2 c = let t = c.before.before in t.put_token-r.ensures.same ∙ same (back t)

returns-2 : tie.Need-returns-then-r-at invariant-loop decreases-loop
returns-2 c = token c.before.before

loop-less-2 : tie.Need-loop-at-smaller invariant-loop decreases-loop
loop-less-2 c = let t = c.before.before in omega (arith, t.put_token-r.ensures.on, (all t).left.within, c.if-r-at.false, near (back t))

loop-again-2 : tie.Need-loop-at-preserved invariant-loop decreases-loop
loop-again-2 c = let t = c.before.before in (token t, t.put_token-r.ensures.same ∙ same (back t), filled_in (all t))

same-length-3 : tie.Need-shape_of-out invariant-loop decreases-loop
same-length-3 c = c.loop-at.invariant.1

returns-3 : tie.Need-returns invariant-loop decreases-loop
returns-3 c = c.loop-at.invariant.0

pub fill_spec : {M : Type 1} → statement M
fill_spec =
    tie.close
    (tie.spec
    invariant-loop
    decreases-loop
    loop-holds
    add-loop
    add-if1
    same_length
    returns
    direct-ahead-requires
    widen-requires
    add_at
    add-n
    loop-less
    loop-again
    add-put-token
    add-put-token-2
    put-token-requires
    add-if3
    same-length-2
    returns-2
    loop-less-2
    loop-again-2
    same-length-3
    returns-3)
