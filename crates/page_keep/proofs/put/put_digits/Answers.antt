use Rattle.std.proofs.Common.{◌≡◌, ◌+◌, ◌-◌, ℕ, refl, sym, arith}
use Rattle.std.proofs.Math.Nat.{div-one, pow-zero}
use Rattle.parsing.specs.Digits.{digits}
use Rattle.page_keep.proofs.Puts.{digit-turn, rest-turn}
use Rattle.page_keep.proofs.put.put_digits.Goals as goal

pub loop-k-init : goal.loop-k-init
unfolding digits
loop-k-init g c =
    let none : g.row.K - g.row.K ≡ 0 = omega arith in
    rw (none, pow-zero g.row.BASE) (refl, sym (div-one c.args.n))

pub loop-k-preserved : goal.loop-k-preserved
loop-k-preserved g c =
    let a = c.args in
    let l = c.loop-k in
    let j : ℕ = l.k - 1 in
    let many : g.row.K - j ≡ g.row.K - l.k + 1 = omega arith in
    rw many (
      digit-turn g.row.BASE a.out.now l.out a.at (g.row.K - l.k) a.n j l.rest l.invariant.1 (omega arith) l.invariant.0
          c.digit_of.ensures,
      rest-turn g.row.BASE a.out.now l.out a.at (g.row.K - l.k) a.n j l.rest l.invariant.1,
    )
