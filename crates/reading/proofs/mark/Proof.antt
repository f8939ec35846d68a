-- `reading::mark` meets its contract: where there are fewer bytes than asked, what is left of them is none. Assumes nothing.
use Prim.Native.Nat.{◌-◌}
use mathlib.Core.Path.{◌≡◌}
use native.Mathlib.Omega.{arith}
use borrow.Author.Rules.{rules}
use Rattle.reading.proofs.mark.Statement.{statement}
use Rattle.reading.proofs.mark.Tie as tie

returns : tie.Need-returns-then-end-count
returns c =
    let a = c.args in
    let none : a.end - a.count ≡ 0 = omega arith in
    rw none

returns-2 : tie.Need-returns
returns-2 c = search rules

pub mark_spec : {M : Type 1} → statement M
mark_spec = tie.close (tie.spec returns returns-2)
