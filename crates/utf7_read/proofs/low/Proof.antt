use Prim.Native.Nat.{◌<◌, ◌≤◌}
use mathlib.Core.Path.{◌≡◌}
use mathlib.Core.Bool.{cond}
use mathlib.Core.List.{◌++◌}
use native.Mathlib.Omega.{arith}
use native.Mathlib.Nat.{mod-eq_of_lt}
use lib.Dec.{ltb, eqb}
use borrow.Author.Rules.{rules}
use borrow.Author.Tests.{lt-ltb, le-ltb, eq-eqb, ne_eqb}
use Rattle.bits.specs.Bits.{bits}
use Rattle.alphabet.specs.Letters.{set_b}
use Rattle.reading.specs.Reading.{give, bad}
use Rattle.utf7.specs.Rule.{outside, unit_does, may_end, end_does, low_does}
use Rattle.utf7_read.specs.Cursor.{shift_of, Settled}
use Rattle.utf7_read.specs.declared.State.TheVariants.{Run}
use Rattle.utf7_read.proofs.low.Statement.{statement}
use Rattle.utf7_read.proofs.low.Tie as tie

value-of-requires : tie.Need-value_of-x-requires
value-of-requires c κs = search rules

enum_told : tie.Need-enum_told-1
enum_told c = search rules

outside-requires : tie.Need-outside-requires
outside-requires c κs = search rules

enum-told-2 : tie.Need-enum_told-in-Opening
enum-told-2 c = search rules

letter-requires : tie.Need-letter-requires
letter-requires c κs = search rules

-- what a byte of value x does after the '+', and in a run of settled numbers
opened :
    (c : tie.In-Opening) →
    let a = c.args in
    let x = c.value_of-x.result in
    low_does (shift_of a.st) a.b ≡ cond (ltb x 64) (unit_does (bits 6 x)) (cond (eqb a.b 45) (give 43 outside) (bad 2))
unfolding low_does set_b
opened c = rw (c.in-Opening.is, c.value_of-x.ensures)

running : (c : tie.In-Run) → Settled (Run c.in-Run.n c.in-Run.v)
running c = rw c.in-Run.is at c.requires.1

in-run :
    (c : tie.In-Run) →
    let a = c.args in
    let x = c.value_of-x.result in
    let n = c.in-Run.n in
    let v = c.in-Run.v in
    low_does (shift_of a.st) a.b ≡ cond (ltb x 64) (unit_does (bits n v ++ bits 6 x)) (end_does (may_end (bits n v)) a.b)
unfolding low_does set_b
in-run c =
    let h = running c in
    simp (c.in-Run.is, mod-eq_of_lt h.0, c.value_of-x.ensures)

returns : tie.Need-returns-then-x-lt64
unfolding bits
returns c = simp (opened c.before.before, lt-ltb _ _ c.if-x-lt64.true) c.letter.ensures

returns-2 : tie.Need-returns-then-b-eq45
returns-2 c =
    record { so = simp (opened c.before.before, le-ltb _ _ c.if-x-lt64.false, eq-eqb _ _ c.if-b-eq45.true); settled = tt }

enum-known-st : tie.Need-enum_known-st
enum-known-st c = search rules

close-requires : tie.Need-close-requires
close-requires c κs = (search rules, (running c.before).1)

-- only a byte that is no letter ends a run
returns-3 : tie.Need-returns-then-x-gt63
returns-3 c =
    let r = c.before.before in
    let past : 64 ≤ r.value_of-x.result = omega (arith, c.if-x-gt63.true) in
    simp (in-run r, le-ltb _ _ past) c.close.ensures

letter-requires-2 : tie.Need-letter-requires-in-Run
letter-requires-2 c κs = let h = running c.before in (h.0, h.1, search rules)

returns-4 : tie.Need-returns-in-Outside
unfolding low_does
returns-4 c = simp c.in-Outside.is c.outside.ensures

returns-5 : tie.Need-returns-else-b-eq45
returns-5 c =
    record { so = simp (opened c.before.before, le-ltb _ _ c.if-x-lt64.false, ne_eqb _ _ c.if-b-eq45.false); settled = tt }

returns-6 : tie.Need-returns-else-x-gt63
returns-6 c =
    let r = c.before.before in
    let letter : r.value_of-x.result < 64 = omega (arith, c.if-x-gt63.false) in
    simp (in-run r, lt-ltb _ _ letter) c.letter-in-Run.ensures

pub low_spec : {M : Type 1} → statement M
low_spec =
    tie.close
    (tie.spec
    value-of-requires
    enum_told
    outside-requires
    enum-told-2
    letter-requires
    returns
    returns-2
    enum-known-st
    close-requires
    returns-3
    letter-requires-2
    returns-4
    returns-5
    returns-6)
