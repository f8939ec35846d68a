use Prim.Native.Nat.{ℕ, ◌-◌, ◌*◌, ◌/◌, ◌<◌, ◌≤◌}
use native.Mathlib.Omega.{arith}
use native.Mathlib.Nat.{le-div_iff_mul-le, div-lt_iff_lt-mul}
use borrow.Author.Rules.{rules}
use Rattle.scan.proofs.up_to.Statement.{statement}
use Rattle.scan.proofs.up_to.Tie as tie

fits : (n k x : ℕ) → 0 < k → n ≤ x / k → n * k ≤ x
fits n k x h q = (le-div_iff_mul-le {k = k} {x = n} {y = x} h).0 q

past : (n k x : ℕ) → 0 < k → x / k < n → x < n * k
past n k x h q = (div-lt_iff_lt-mul {k = k} {x = x} {y = n} h).0 q

sub-if1 : tie.Need-overflow_sub-end
sub-if1 c = search rules

div-if1 : tie.Need-nonzero_div-end
div-if1 c = search rules

mul-result : tie.Need-overflow_mul-result
mul-result c =
    let a = c.args in
    let if1' = c.if-n-end in
    let a = a in omega (arith, fits a.n a.k (a.end - a.from) (omega arith) if1'.true)

add-result : tie.Need-overflow_add-result
add-result c =
    let a = c.args in
    let if1' = c.if-n-end in
    let a = a in omega (arith, fits a.n a.k (a.end - a.from) (omega arith) if1'.true)

returns : tie.Need-returns-then-n-end
returns c =
    let a = c.args in
    let if1' = c.if-n-end in
    let f = fits a.n a.k (a.end - a.from) (omega arith) if1'.true in
    (omega arith, omega arith, omega arith, λ h. omega arith)

returns-2 : tie.Need-returns
returns-2 c =
    let a = c.args in
    let if1' = c.if-n-end in
    let f = past a.n a.k (a.end - a.from) (omega arith) (omega (arith, if1'.false)) in
    (omega arith, omega arith, omega arith, λ h. absurd (omega arith))

pub up_to_spec : {M : Type 1} → statement M
up_to_spec = tie.close (tie.spec sub-if1 div-if1 mul-result add-result returns returns-2)
