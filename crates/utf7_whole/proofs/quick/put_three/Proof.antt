use Prim.Native.Nat.{ℕ, ◌+◌, ◌*◌, ◌/◌, ◌%◌, ◌≤◌, ◌<◌}
use mathlib.Core.Path.{◌≡◌}
use mathlib.Core.List.{List}
use native.Mathlib.Nat.{add-zero}
use native.Mathlib.Omega.{arith}
use lib.ListN.{length, set, length-set}
use Rattle.answer.proofs.Laid.{Laid, laid-three}
use Rattle.utf7_whole.specs.Quick.{three_of, lows}
use Rattle.utf7_whole.proofs.quick.put_three.Statement.{statement}
use Rattle.utf7_whole.proofs.quick.put_three.Tie as tie

-- over variables, since rewriting is dear over all that is known behind eleven calls
three-laid :
    (x : ℕ → ℕ) (n : ℕ) (out : List ℕ) {a b c d e f g h u v w : ℕ} →
    a ≡ x 0 → b ≡ x 1 → c ≡ x 2 → d ≡ x 3 → e ≡ x 4 → f ≡ x 5 → g ≡ x 6 → h ≡ x 7 →
    u ≡ (a * 64 + b) * 16 + c / 4 → v ≡ ((c % 4 * 64 + d) * 64 + e) * 4 + f / 16 → w ≡ (f % 16 * 64 + g) * 64 + h →
    n + 3 ≤ length out → Laid (three_of x) n out (set (set (set out n u) (n + 1) v) (n + 2) w)
three-laid x n out p₀ p₁ p₂ p₃ p₄ p₅ p₆ p₇ e₀ e₁ e₂ l = rw (e₀, e₁, e₂, p₀, p₁, p₂, p₃, p₄, p₅, p₆, p₇) (laid-three _ _ _ _ _ l)

-- what was known at the start, from behind each unit's call
abbrev first : tie.After-first → tie.Start
first c = c.before.before.before.before.before.before

abbrev second : tie.After-second → tie.Start
second c = first c.before.before.before

abbrev third : tie.After-third → tie.Start
third c = second c.before.before.before

slice-write-out-2 : tie.Need-bounds-out-n-2
slice-write-out-2 c =
    let h : (second c).args.n + 1 < length (second c).args.out.now = omega (arith, (second c).requires.1) in
    simp length-set h

slice-write-out-3 : tie.Need-bounds-out-n-3
slice-write-out-3 c =
    let h : (third c).args.n + 2 < length (third c).args.out.now = omega (arith, (third c).requires.1) in
    simp length-set h

returns : tie.Need-returns
returns c =
    let s = (third c).args in
    let v = c in
    let u = v in
    let x : ℕ → ℕ = λ k. lows s.x (s.j + k) in
    three-laid x s.n s.out.now
    (rw add-zero u.low.ensures) u.low-2.ensures u.low-c.ensures
    v.low-3.ensures v.low-4.ensures u.low-f.ensures
    c.low-5.ensures c.low-6.ensures
    u.first.ensures v.second.ensures c.third.ensures (third c).requires.1

pub put_three_spec : {M : Type 1} → statement M
put_three_spec =
    tie.close
    (tie.spec
    (λ c. omega (arith, c.requires.0))
    (λ c. omega (arith, c.requires.0))
    (λ c κs. tt)
    (λ c. omega (arith, c.requires.0))
    (λ c. omega (arith, c.requires.0))
    (λ c κs. tt)
    (λ c. omega (arith, c.requires.0))
    (λ c κs. tt)
    (λ c. omega (arith, c.requires.0))
    (λ c. omega (arith, c.requires.0))
    (λ c κs. tt)
    (λ c κs. omega (arith, c.low-c.ensures, c.low.ensures, c.low-2.ensures))
    (λ c. omega (arith, (first c).requires.1, (first c).well_formed))
    (λ c. omega (arith, (first c).requires.1))
    (λ c. omega (arith, (first c).requires.0))
    (λ c. omega (arith, (first c).requires.0))
    (λ c κs. tt)
    (λ c. omega (arith, (first c.before).requires.0))
    (λ c. omega (arith, (first c.before).requires.0))
    (λ c κs. tt)
    (λ c κs. omega (arith, c.low-f.ensures, c.low-3.ensures, c.low-4.ensures))
    (λ c. omega (arith, (second c).requires.1))
    (λ c. omega (arith, (second c).requires.1, (second c).well_formed))
    slice-write-out-2
    (λ c. omega (arith, (second c).requires.0))
    (λ c. omega (arith, (second c).requires.0))
    (λ c κs. tt)
    (λ c. omega (arith, (second c.before).requires.0))
    (λ c. omega (arith, (second c.before).requires.0))
    (λ c κs. tt)
    (λ c κs. omega (arith, c.low-5.ensures, c.low-6.ensures))
    (λ c. omega (arith, (third c).requires.1))
    (λ c. omega (arith, (third c).requires.1, (third c).well_formed))
    slice-write-out-3
    (λ c. simp length-set)
    returns)
