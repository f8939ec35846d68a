use Prim.Native.Nat.{ℕ, ◌/◌}
use mathlib.Core.Path.{sym, ap}
use native.Mathlib.Omega.{arith}
use borrow.Author.Tests.{lt-leb, le-leb, ne_eqb}
use Rattle.jp2.specs.Writable.{ascii}
use Rattle.jp2_whole.proofs.Tokens.{ascii-out}
use Rattle.jp2_whole.proofs.quick.is_plain.Statement.{statement}
use Rattle.jp2_whole.proofs.quick.is_plain.Tie as tie

returns : tie.Need-returns-then-b-gt127
unfolding ascii
returns c = simp (lt-leb _ _ c.if-b-gt127.true)

returns-2 : tie.Need-returns-then-b-eq7
returns-2 c = sym (ascii-out _ (omega (arith, c.if-b-eq7.true)) (omega (arith, c.if-b-eq7.true)))

returns-3 : tie.Need-returns
unfolding ascii
returns-3 c =
    let half = c.if-b-eq7.false in
    simp (le-leb _ _ c.if-b-gt127.false, ne_eqb _ 14 (λ e. half (ap (λ (x : ℕ). x / 2) e)), ne_eqb _ 15 (λ e. half (ap (λ (x : ℕ). x / 2) e)))

pub is_plain_spec : {M : Type 1} → statement M
is_plain_spec = tie.close (tie.spec returns returns-2 returns-3)
