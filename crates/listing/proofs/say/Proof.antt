use Prim.Native.Nat.{◌+◌}
use mathlib.Core.Path.{◌≡◌, ◌∙◌}
use native.Mathlib.Omega.{arith}
use lib.ListN.{length}
use borrow.Author.Tests.{lt-ltb, le-ltb}
use Rattle.answer.specs.Output.{deliver}
use Rattle.listing.specs.Listing.{decimal, line, say_into}
use Rattle.listing.proofs.Digits.{decimal-few}
use Rattle.listing.proofs.Lines.{line-size}
use borrow.Author.Rules.{rules}
use Rattle.listing.proofs.say.Statement.{statement}
use Rattle.listing.proofs.say.Tie as tie

-- what is needed is the line's length
size :
    (c : tie.After-places) → let a = c.args in
    length (line a.name.now (decimal a.n)) ≡ length a.name.now + c.places.result + 2
size c =
    let a = c.args in
    line-size a.name.now (decimal a.n) ∙ rw c.places.ensures

add-need : tie.Need-overflow_add-need
add-need c =
    let s = c.before.before.before in
    omega (arith, decimal-few 20 s.args.n, c.places.ensures, s.well_formed)

add-need-2 : tie.Need-overflow_add-need-2
add-need-2 c =
    let s = c.before.before.before in
    omega (arith, decimal-few 20 s.args.n, c.places.ensures, s.well_formed)

returns : tie.Need-returns-then-out-need
unfolding say_into deliver
returns c =
    let p = c.before in
    simp (size p, lt-ltb _ _ c.if-out-need.true)

put-number-requires : tie.Need-put_number-requires
put-number-requires c κs =
    let g = c.before in
    omega (arith, size g.before, g.if-out-need.false)

returns-2 : tie.Need-returns
unfolding say_into deliver
returns-2 c =
    let w = c.before.before in
    let g = w.before.before in
    let p = g.before in
    simp (size p, le-ltb _ _ g.if-out-need.false, w.put_number.ensures.1)

pub say_spec : {M : Type 1} → statement M
say_spec =
    tie.close
    (tie.spec
    (λ c κs. search rules)
    add-need
    add-need-2
    returns
    put-number-requires
    (λ c. search rules)
    returns-2)
