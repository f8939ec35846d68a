use native.Mathlib.Omega.{arith}
use lib.ListN.{length-set}
use borrow.Author.Rules.{rules}
use Rattle.utf7_whole.specs.Quick.{Fills}
use Rattle.utf7_whole.proofs.Tokens.{past-on}
use Rattle.utf7_whole.proofs.Buffers.{fills-none, fills-on, filled-kept, filled-sign, filled-run, filled-one}
use Rattle.utf7_whole.proofs.quick.put_token.Statement.{statement}
use Rattle.utf7_whole.proofs.quick.put_token.Tie as tie

shared-slice-read-if1 : tie.Need-bounds-text-at
shared-slice-read-if1 c = search rules

returns : tie.Need-returns-then-text-at-ne43
returns c = fills-none _ _ _ _

add-from : tie.Need-overflow_add-from
add-from c = search rules

one-at-requires : tie.Need-one_at-one-requires
one-at-requires c κs = search rules

mul-out : tie.Need-offset_bounds-out-n
mul-out c = search rules

slice-write-out : tie.Need-bounds-out-n
slice-write-out c = search rules

add-put-shorts : tie.Need-overflow_add-at
add-put-shorts c = search rules

add-put-shorts-2 : tie.Need-overflow_add-n
add-put-shorts-2 c = search rules

put-shorts-requires : tie.Need-put_shorts-requires
put-shorts-requires c κs = (omega (arith, c.requires.0), simp length-set (omega (arith, c.requires.1)))

-- the unit of a run of three letters, and what follows it
shorts :
    (c : tie.After-slice_known-then-one-lt65536-1) →
    let a = c.args in
    Fills a.text.now a.at a.n a.out.now c.put_shorts.result.at c.put_shorts.result.n c.put_shorts.new.out
shorts c =
    let a = c.args in
    let t = c in
    let r = c.put_shorts.ensures in
    let one = fills-on (fills-none a.text.now a.at a.n a.out.now) (omega arith) (simp length-set)
    (λ s p f. filled-one f p c.if-text-at-ne43.false c.requires.1 (t.one_at-one.ensures t.if-one-lt65536.true)) in
    fills-on one r.on r.same r.fills

same_length : tie.Need-shape_of-out-then-one-lt65536
same_length c = (shorts c).same

returns-2 : tie.Need-returns-then-one-lt65536
returns-2 c = shorts c

shared-slice-read-if3 : tie.Need-bounds-text-from
shared-slice-read-if3 c = search rules

mul-out-2 : tie.Need-offset_bounds-out-n-then-text-from-eq45
mul-out-2 c = search rules

slice-write-out-2 : tie.Need-bounds-out-n-then-text-from-eq45
slice-write-out-2 c = search rules

add-t17 : tie.Need-overflow_add-result
add-t17 c = search rules

add-t19 : tie.Need-overflow_add-result-then-text-from-eq45
add-t19 c = search rules

same-length-2 : tie.Need-shape_of-out-then-text-from-eq45
same-length-2 c = simp length-set

returns-3 : tie.Need-returns-then-text-from-eq45
returns-3 c = let a = c.args in fills-on (fills-none a.text.now a.at a.n a.out.now) (omega arith) (simp length-set) (λ s p f. filled-sign f p c.if-text-at-ne43.false c.requires.1 c.if-text-from-eq45.true)

put-run-requires : tie.Need-put_run-r-requires
put-run-requires c κs = (omega arith, omega (arith, c.requires.0), omega (arith, c.requires.1))

same-length-3 : tie.Need-shape_of-out-then-r-from
same-length-3 c = c.put_run-r.ensures.kept.same

returns-4 : tie.Need-returns-then-r-from
returns-4 c = let a = c.args in let k = c.put_run-r.ensures.kept in fills-on (fills-none a.text.now a.at a.n a.out.now) (omega arith) k.same (λ s p f. filled-kept f k)

past-run-requires : tie.Need-past_run-requires
past-run-requires c κs = search rules

same-length-4 : tie.Need-shape_of-out
same-length-4 c = c.put_run-r.ensures.kept.same

returns-5 : tie.Need-returns
returns-5 c = let a = c.args in
    let r = c.put_run-r in
    let z = c.if-r-from.false in
    let e = r.ensures in
    rw c.past_run.ensures (fills-on (fills-none a.text.now a.at a.n a.out.now) (omega (arith, past-on a.text.now r.result.at, (e.run z).some)) e.kept.same
    (λ s p f. filled-run f p c.if-text-at-ne43.false (e.run z) (e.laid z) (e.count z)))

pub put_token_spec : {M : Type 1} → statement M
put_token_spec =
    tie.close
    (tie.spec
    shared-slice-read-if1
    returns
    add-from
    one-at-requires
    mul-out
    slice-write-out
    add-put-shorts
    add-put-shorts-2
    put-shorts-requires
    same_length
    returns-2
    shared-slice-read-if3
    mul-out-2
    slice-write-out-2
    add-t17
    add-t19
    same-length-2
    returns-3
    put-run-requires
    same-length-3
    returns-4
    past-run-requires
    same-length-4
    returns-5)
