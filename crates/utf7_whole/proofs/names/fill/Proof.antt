use Prim.Native.Nat.{ℕ, ◌+◌, ◌-◌, ◌<◌, ◌≤◌}
use mathlib.Core.Path.{◌≡◌, refl, ◌∙◌}
use mathlib.Core.Bool.{Bool, ◌&&◌}
use mathlib.Core.List.{List}
use native.Mathlib.Omega.{arith}
use lib.Seq.{slice}
use lib.Dec.{eqb}
use lib.ListN.{length}
use borrow.Author.Rules.{rules}
use Rattle.answer.proofs.Laid.{Laid, laid_none}
use Rattle.utf7_whole.specs.Quick.{Padded}
use Rattle.utf7_whole.specs.Mailbox.{Puts}
use Rattle.utf7_whole.proofs.Buffers.{padded-self, laid-slice}
use Rattle.utf7_whole.proofs.Mailbox.{none-since, puts-stay, puts-on, puts-as, puts-in, puts-from, puts_plain}
use Rattle.utf7_whole.proofs.names.fill.Statement.{statement}
use Rattle.utf7_whole.proofs.names.fill.Tie as tie

-- the cells between two places are put, whatever text is lent with zeros behind it
abbrev Fills : List ℕ → ℕ → ℕ → Bool → List ℕ → ℕ → ℕ → Bool → List ℕ → Type 0
Fills text at₀ n₀ after₀ out₀ at n after out =
    (s : List ℕ) → Padded s text → at₀ ≤ length s → Puts s (record { at = at₀; n = n₀; after = after₀ }) out₀ (record { at = at; n = n; after = after }) out

abbrev invariant-loop : tie.invariant-loop-at
invariant-loop text out₀ at₀ n₀ after₀ out at n after =
    Fills text at₀ n₀ after₀ out₀ at n after out × (length out ≡ length out₀) × (n ≤ length out) × (at ≤ length text) × (at₀ ≤ length text)

abbrev decreases-loop : tie.decreases-loop-at
decreases-loop text out₀ at₀ n₀ after₀ out at n after = length text - at

loop-holds : tie.Need-loop-at-init invariant-loop decreases-loop
loop-holds c = let q = c.requires in (λ s p h. puts-stay _ h (laid_none _ _), refl, q.1, q.0, q.0)

add-loop : tie.Need-overflow_add-at invariant-loop decreases-loop
add-loop c = omega (arith, c.loop-at.invariant.3)

add-if1 : tie.Need-overflow_add-n invariant-loop decreases-loop
add-if1 c = search rules

same_length : tie.Need-shape_of-out-then-out-n invariant-loop decreases-loop
same_length c = c.loop-at.invariant.1

returns : tie.Need-returns-then-out-n invariant-loop decreases-loop
returns c s p h = puts-from _ (c.loop-at.invariant.0 s p h)

plain-ahead-requires : tie.Need-plain_ahead-k-requires invariant-loop decreases-loop
plain-ahead-requires c κs = search rules

put-plain-requires : tie.Need-put_plain-requires invariant-loop decreases-loop
put-plain-requires c κs = (omega (arith, c.loop-at-test.true), omega (arith, c.if-out-n.false))

add_at : tie.Need-overflow_add-at-then-k-eq32 invariant-loop decreases-loop
add_at c = search rules

add-n : tie.Need-overflow_add-n-then-k-eq32 invariant-loop decreases-loop
add-n c = search rules

loop-less : tie.Need-loop-at-smaller-then-k-eq32 invariant-loop decreases-loop
loop-less c = search rules

-- the loop's start, from behind the bytes that stand for themselves
abbrev W : Type 0
W = tie.After-slice_known-in-loop-at-1 invariant-loop decreases-loop

abbrev top : W → tie.In-loop-at invariant-loop decreases-loop
top c = c.before.before.before.before.before.before

-- they are laid first of the block
laid :
    (c : W) →
    let l = (top c).before in
    Laid (slice l.loop-at.at (l.loop-at.at + c.plain_ahead-k.result) l.args.text.now) l.loop-at.n l.loop-at.out c.put_plain.new.out
laid c =
    let l = (top c).before in
    let k = c.plain_ahead-k in
    laid-slice l.args.text.now l.loop-at.at (l.loop-at.at + k.result) (l.loop-at.at + 32) (omega arith) (omega (arith, k.ensures.0)) (omega (arith, (top c).loop-at-test.true))
    c.put_plain.ensures l.loop-at.invariant.2

-- they are put
plain :
    (c : W) →
    let l = (top c).before in
    let a = l.args in
    let k = c.plain_ahead-k.result in
    Fills a.text.now a.from.at a.from.n a.from.after a.out.now (l.loop-at.at + k) (l.loop-at.n + k) (l.loop-at.after && eqb k 0) c.put_plain.new.out
plain c s p h =
    let q = (top c).loop-at.invariant.0 s p h in
    puts-on q (puts_plain p _ q.goes.within c.plain_ahead-k.ensures.1 (laid c))

same : (c : W) → length c.put_plain.new.out ≡ length (top c).args.out.now
same c = c.put_plain.ensures.same ∙ (top c).loop-at.invariant.1

-- many bytes follow, and there is room
near : (c : W) → let l = (top c).before in l.loop-at.at + c.plain_ahead-k.result + 5 ≤ length l.args.text.now
near c = omega (arith, c.plain_ahead-k.ensures.0, (top c).loop-at-test.true)

room : (c : W) → (top c).loop-at.n + c.plain_ahead-k.result < length c.put_plain.new.out
room c = omega (arith, c.plain_ahead-k.ensures.0, c.if-out-n.false, c.put_plain.ensures.same)

loop-again : tie.Need-loop-at-preserved-then-k-eq32 invariant-loop decreases-loop
loop-again c = let w = c.before in (
  λ s p h. puts-as (plain w s p h) (omega (arith, c.if-k-eq32.true)) (omega (arith, c.if-k-eq32.true)) (none-since (top w).loop-at.after w.plain_ahead-k.result (omega (arith, c.if-k-eq32.true))),
  same w,
  omega (arith, room w, c.if-k-eq32.true),
  omega (arith, near w, c.if-k-eq32.true),
  (top w).loop-at.invariant.4,
)

add-at-2 : tie.Need-overflow_add-at-else-k-eq32 invariant-loop decreases-loop
add-at-2 c = search rules

add-n-2 : tie.Need-overflow_add-n-else-k-eq32 invariant-loop decreases-loop
add-n-2 c = search rules

shared-slice-read-if3 : tie.Need-bounds-text-at invariant-loop decreases-loop
shared-slice-read-if3 c = search rules

same-length-2 : tie.Need-shape_of-out-then-text-at-ne38 invariant-loop decreases-loop
same-length-2 c = same c.before.before.before

returns-2 : tie.Need-returns-then-text-at-ne38 invariant-loop decreases-loop
returns-2 c s p h = puts-from _ (plain c.before.before.before s p h)

put-token-requires : tie.Need-put_token-r-requires invariant-loop decreases-loop
put-token-requires c κs = let w = c.before.before.before.before in (near w, c.if-text-at-ne38.false, room w)

-- from behind a token
abbrev P : Type 0
P = tie.After-put_token-r invariant-loop decreases-loop

abbrev here : P → W
here p = p.before.before.before.before.before

-- it is put too
token :
    (c : P) →
    let l = (top (here c)).before in
    let a = l.args in
    let r = c.put_token-r.result in
    Fills a.text.now a.from.at a.from.n a.from.after a.out.now r.at r.n r.after c.put_token-r.new.out
token c s p h = puts-as (puts-on (plain (here c) s p h) (c.put_token-r.ensures s p)) refl refl refl

-- of the text as it is lent
whole :
    (c : P) →
    let l = (top (here c)).before in
    let a = l.args in
    Puts a.text.now (record { at = a.from.at; n = a.from.n; after = a.from.after }) a.out.now
    (record { at = c.put_token-r.result.at; n = c.put_token-r.result.n; after = c.put_token-r.result.after }) c.put_token-r.new.out
whole c = let l = (top (here c)).before in token c _ (padded-self _) l.loop-at.invariant.4

same-length-3 : tie.Need-shape_of-out-then-to-at invariant-loop decreases-loop
same-length-3 c = (whole c.before.before.before).laid.same

returns-3 : tie.Need-returns-then-to-at invariant-loop decreases-loop
returns-3 c s p h = let q = c.before.before.before in puts-from _ (puts-on (plain (here q) s p h) (q.put_token-r.ensures s p))

loop-less-2 : tie.Need-loop-at-smaller invariant-loop decreases-loop
loop-less-2 c = omega (arith, c.if-to-at.false, near (here c.before.before.before))

loop-again-2 : tie.Need-loop-at-preserved invariant-loop decreases-loop
loop-again-2 c = let q = c.before.before.before in
    let w = whole q in
    let b = (top (here q)).before in
    (token q, w.laid.same, puts-in w b.requires.1, w.goes.within, b.loop-at.invariant.4)

same-length-4 : tie.Need-shape_of-out invariant-loop decreases-loop
same-length-4 c = c.loop-at.invariant.1

returns-4 : tie.Need-returns invariant-loop decreases-loop
returns-4 c s p h = puts-from _ (c.loop-at.invariant.0 s p h)

pub fill_spec : {M : Type 1} → statement M
fill_spec =
    tie.close
    (tie.spec
    invariant-loop
    decreases-loop
    loop-holds
    add-loop
    add-if1
    same_length
    returns
    plain-ahead-requires
    put-plain-requires
    add_at
    add-n
    loop-less
    loop-again
    add-at-2
    add-n-2
    shared-slice-read-if3
    same-length-2
    returns-2
    put-token-requires
    same-length-3
    returns-3
    loop-less-2
    loop-again-2
    same-length-4
    returns-4)
