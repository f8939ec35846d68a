use Prim.Native.Nat.{ℕ, ◌+◌, ◌*◌, ◌≤◌}
use mathlib.Core.Path.{◌≡◌, sym, ◌∙◌}
use native.Mathlib.Omega.{arith}
use lib.Count.{trailing_le}
use Rattle.answer.specs.Ahead.{Ahead}
use Rattle.utf7_write.specs.Ahead.{Bit, word_at}
use Rattle.utf7_write.proofs.Marks.{word-eight, before-first, before-second}
use borrow.Author.Rules.{rules}
use Rattle.utf7_write.proofs.zeros_ahead.Statement.{statement}
use Rattle.utf7_write.proofs.zeros_ahead.Tie as tie

-- the marks of four, and of the two words
bits : (s : tie.Start) (k n : ℕ) → k + n ≤ 16 → Ahead Bit s.args.marks.now (s.args.j + k) n
bits s k n h m q =
    let e : s.args.j + k + m ≡ s.args.j + (k + m) = omega arith in
    rw e (s.requires.1 (k + m) (omega arith))

first :
    (d : tie.After-four_at-4) → let s = d.before.before.before.before.before in
    d.four_at.result + d.four_at-2.result * 4294967296 ≡ word_at s.args.marks.now s.args.j 8
first d =
    let s = d.before.before.before.before.before in
    let a = s.args in
    omega (arith, word-eight a.marks.now a.j (omega (arith, s.requires.0)), d.four_at.ensures.0, d.four_at-2.ensures.0)

second :
    (d : tie.After-four_at-4) → let s = d.before.before.before.before.before in
    d.four_at-3.result + d.four_at-4.result * 4294967296 ≡ word_at s.args.marks.now (s.args.j + 8) 8
second d =
    let s = d.before.before.before.before.before in
    let a = s.args in
    let e : a.j + 8 + 4 ≡ a.j + 12 = omega arith in
    omega (arith, rw e at (word-eight a.marks.now (a.j + 8) (omega (arith, s.requires.0))), d.four_at-3.ensures.0, d.four_at-4.ensures.0)

four-at-requires : tie.Need-four_at-requires
four-at-requires c κs = let s = c.before in (omega (arith, s.requires.0), λ m q. s.requires.1 m (omega arith))

add-four-at : tie.Need-overflow_add-j
add-four-at c = search rules

four-at-requires-2 : tie.Need-four_at-requires-2
four-at-requires-2 c κs = let s = c.before.before in (omega (arith, s.requires.0), bits s 4 4 (omega arith))

mul-a : tie.Need-overflow_mul-a
mul-a c = search rules

add_a : tie.Need-overflow_add-a
add_a c = search rules

add-four-at-2 : tie.Need-overflow_add-j-2
add-four-at-2 c = search rules

four-at-requires-3 : tie.Need-four_at-requires-3
four-at-requires-3 c κs = let s = c.before.before.before in (omega (arith, s.requires.0), bits s 8 4 (omega arith))

add-four-at-3 : tie.Need-overflow_add-j-3
add-four-at-3 c = search rules

four-at-requires-4 : tie.Need-four_at-requires-4
four-at-requires-4 c κs = let s = c.before.before.before.before in (omega (arith, s.requires.0), bits s 12 4 (omega arith))

mul-b : tie.Need-overflow_mul-b
mul-b c = search rules

add-b : tie.Need-overflow_add-b
add-b c = search rules

cast-result : tie.Need-overflow_cast-result
cast-result c = let d = c.before in let h = trailing_le 64 (d.four_at-3.result + d.four_at-4.result * 4294967296) in search rules

add-result : tie.Need-overflow_add-result
add-result c = let d = c.before in let h = trailing_le 64 (d.four_at-3.result + d.four_at-4.result * 4294967296) in search rules

returns : tie.Need-returns-then-a-eq0
returns c =
    let d = c.before in
    let s = d.before.before.before.before.before in
    rw (second d) (before-second s.args.marks.now s.args.j s.requires.0 s.requires.1 (sym (first d) ∙ c.if-a-eq0.true))

cast-result-2 : tie.Need-overflow_cast-result-2
cast-result-2 c = let d = c.before in let h = trailing_le 64 (d.four_at.result + d.four_at-2.result * 4294967296) in search rules

returns-2 : tie.Need-returns
returns-2 c =
    let d = c.before in
    let s = d.before.before.before.before.before in
    rw (first d) (before-first s.args.marks.now s.args.j s.requires.0 s.requires.1 (λ e. c.if-a-eq0.false (first d ∙ e)))

pub zeros_ahead_spec : {M : Type 1} → statement M
zeros_ahead_spec =
    tie.close
    (tie.spec
    four-at-requires
    add-four-at
    four-at-requires-2
    mul-a
    add_a
    add-four-at-2
    four-at-requires-3
    add-four-at-3
    four-at-requires-4
    mul-b
    add-b
    cast-result
    add-result
    returns
    cast-result-2
    returns-2)
