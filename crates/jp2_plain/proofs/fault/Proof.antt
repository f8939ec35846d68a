use Prim.Native.Nat.{◌<◌}
use native.Mathlib.Omega.{arith}
use lib.ListN.{get_or}
use borrow.Author.Rules.{rules}
use borrow.Author.Tests.{lt-ltb, le-ltb}
use Rattle.jp2.proofs.Search.{at-any}
use Rattle.jp2_plain.proofs.fault.Statement.{statement}
use Rattle.jp2_plain.proofs.fault.Tie as tie

returns : tie.Need-returns-then-text-at
returns c = rw (le-ltb _ _ c.if-text-at.true)

shared-slice-read-if2 : tie.Need-bounds-text-at
shared-slice-read-if2 c = search rules

returns-2 : tie.Need-returns-then-text-at-gt127
returns-2 c =
    let h = c.if-text-at.false in
    rw (lt-ltb _ _ h, ← at-any c.args.text.now _ 0 255 h, le-ltb _ 128 c.if-text-at-gt127.true)

returns-3 : tie.Need-returns
returns-3 c =
    let h = c.if-text-at.false in
    let a = c.args in
    let l : get_or a.text.now a.at 0 < 128 = omega arith in
    rw (lt-ltb _ _ h, ← at-any a.text.now _ 0 255 h, lt-ltb _ 128 l)

pub fault_spec : {M : Type 1} → statement M
fault_spec = tie.close (tie.spec returns shared-slice-read-if2 returns-2 returns-3)
