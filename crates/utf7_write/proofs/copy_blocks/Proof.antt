use Prim.Native.Nat.{◌+◌, ◌-◌, ◌≤◌}
use mathlib.Core.Path.{◌≡◌, ap, ◌∙◌}
use native.Mathlib.Omega.{arith}
use lib.ListN.{length, take, drop, length-drop}
use lib.Seq.{paste, paste-zero, length-paste, drop-drop}
use Rattle.utf7.specs.declared.Style.TheVariants.{Body}
use Rattle.answer.specs.Ahead.{Ahead}
use Rattle.utf7_write.specs.Ahead.{Own}
use Rattle.answer.proofs.Ahead.{ahead-join}
use Rattle.utf7_write.proofs.Blocks.{own-cells, same-cells}
use Rattle.utf7_write.proofs.Several.{paste-paste}
use borrow.Author.Rules.{rules}
use Rattle.utf7_write.proofs.copy_blocks.Statement.{statement}
use Rattle.utf7_write.proofs.copy_blocks.Tie as tie

abbrev invariant-loop : tie.invariant-loop-j
invariant-loop cells from out₀ to j₀ at₀ out j at =
    (from ≤ j) × (j ≤ length cells) × (at ≡ to + (j - from)) × Ahead (Own Body) cells from (j - from)
    × (out ≡ paste out₀ to (drop from cells) (j - from))

abbrev decreases-loop : tie.decreases-loop-j
decreases-loop cells from out₀ to j₀ at₀ out j at = length cells - j

abbrev start : tie.At-loop-j invariant-loop decreases-loop → tie.Start invariant-loop decreases-loop
start l = l.before.before.before

same : (l : tie.At-loop-j invariant-loop decreases-loop) → length l.loop-j.out ≡ length (start l).args.out.now
same l =
    let a = (start l).args in
    ap length l.loop-j.invariant.4
    ∙ length-paste a.out.now a.to (drop a.from a.cells.now) (l.loop-j.j - a.from) (omega arith) (omega (arith, length-drop a.from a.cells.now))

-- a block that is copied
abbrev loop-of : tie.Else-not-all_direct invariant-loop decreases-loop → tie.At-loop-j invariant-loop decreases-loop
loop-of e = e.before.before.before.before

inside : (e : tie.Else-not-all_direct invariant-loop decreases-loop) → (loop-of e).loop-j.j + 16 ≤ length (start (loop-of e)).args.cells.now
inside e = omega (arith, e.loop-j-test.true)

whole : (e : tie.Else-not-all_direct invariant-loop decreases-loop) → length e.bytes_ahead-bytes.result ≡ 16
whole e = omega (arith, e.bytes_ahead-bytes.type_inv)

block :
    (e : tie.Else-not-all_direct invariant-loop decreases-loop) → let l = loop-of e in let us = (start l).args.cells.now in
    Ahead (Own Body) us l.loop-j.j 16 × (take 16 e.bytes_ahead-bytes.result ≡ take 16 (drop l.loop-j.j us))
block e =
    let l = loop-of e in
    let us = (start l).args.cells.now in
    let g = e.bytes_ahead-bytes in
    let a = e.before.all_direct.ensures (e.if-not-all_direct.false) in (
      own-cells Body us l.loop-j.j g.result 16 g.ensures 16 (omega arith) a,
      same-cells Body us l.loop-j.j g.result 16 (inside e) (whole e) g.ensures 16 (omega arith) a,
    )

loop-holds : tie.Need-loop-j-init invariant-loop decreases-loop
loop-holds c =
    let a = c.args in
    let n : a.from - a.from ≡ 0 = omega arith in
    (omega arith, omega arith, omega arith, rw n (λ m h. absurd (omega arith)), rw n (paste-zero a.out.now a.to (drop a.from a.cells.now)))

sub-loop : tie.Need-overflow_sub-cells invariant-loop decreases-loop
sub-loop c = search rules

bytes-ahead-requires : tie.Need-bytes_ahead-bytes-requires invariant-loop decreases-loop
bytes-ahead-requires c κs = search rules

all-direct-requires : tie.Need-all_direct-requires invariant-loop decreases-loop
all-direct-requires c κs = search rules

same_length : tie.Need-shape_of-out-then-not-all_direct invariant-loop decreases-loop
same_length c = same c.before.before.before.before

returns : tie.Need-returns-then-not-all_direct invariant-loop decreases-loop
returns c = search rules

put-block-requires : tie.Need-put_block-requires invariant-loop decreases-loop
put-block-requires c κs =
    let h = same (loop-of c.before) in
    let i = inside c.before in
    omega arith

add-j : tie.Need-overflow_add-j invariant-loop decreases-loop
add-j c = search rules

add_at : tie.Need-overflow_add-at invariant-loop decreases-loop
add_at c = search rules

loop-less : tie.Need-loop-j-smaller invariant-loop decreases-loop
loop-less c = search rules

loop-again : tie.Need-loop-j-preserved invariant-loop decreases-loop
loop-again c =
    let w = c.before.before in
    let e = w.before.before in
    let l = loop-of e in
    let a = (start l).args in
    let us = a.cells.now in
    let n = l.loop-j.j - a.from in
    let k : l.loop-j.j + 16 - a.from ≡ n + 16 = omega arith in
    let j : a.from + n ≡ l.loop-j.j = omega arith in
    let i = inside e in (
      omega arith,
      i,
      omega arith,
      rw k (ahead-join (Own Body) us a.from n 16 l.loop-j.invariant.3 (rw j (block e).0)),
      rw k
          (w.put_block.ensures ∙ paste-paste a.out.now a.to (drop a.from us) n 16 e.bytes_ahead-bytes.result l.loop-j.invariant.4 l.loop-j.invariant.2 (omega arith) (omega (arith, length-drop a.from us)) ((block e).1 ∙ rw (drop-drop n a.from us, j))),
    )

same-length-2 : tie.Need-shape_of-out invariant-loop decreases-loop
same-length-2 c = same c.before

returns-2 : tie.Need-returns invariant-loop decreases-loop
returns-2 c = search rules

pub copy_blocks_spec : {M : Type 1} → statement M
copy_blocks_spec =
    tie.close
    (tie.spec
    invariant-loop
    decreases-loop
    loop-holds
    sub-loop
    bytes-ahead-requires
    all-direct-requires
    same_length
    returns
    put-block-requires
    add-j
    add_at
    loop-less
    loop-again
    same-length-2
    returns-2)
