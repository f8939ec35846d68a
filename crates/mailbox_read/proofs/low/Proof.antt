use mathlib.Core.Path.{◌≡◌}
use mathlib.Core.Bool.{false, cond}
use mathlib.Core.List.{◌++◌}
use native.Mathlib.Nat.{mod-eq_of_lt}
use lib.Dec.{ltb, eqb}
use borrow.Author.Rules.{rules}
use borrow.Author.Tests.{lt-ltb, le-ltb, eq-eqb, ne_eqb}
use Rattle.bits.specs.Bits.{bits}
use Rattle.alphabet.specs.Letters.{set_b}
use Rattle.reading.specs.Reading.{give, bad}
use Rattle.mailbox.specs.Rule.{outside, unit_does, close_does, low_does}
use Rattle.mailbox_read.specs.Cursor.{shift_of, Settled}
use Rattle.mailbox_read.specs.declared.State.TheVariants.{Run}
use Rattle.mailbox_read.proofs.low.Statement.{statement}
use Rattle.mailbox_read.proofs.low.Tie as tie

value-of-requires : tie.Need-value_of-x-requires
value-of-requires c κs = search rules

enum-known-st : tie.Need-enum_known-st
enum-known-st c = search rules

outside-requires : tie.Need-outside-requires
outside-requires c κs = search rules

enum-known-st-2 : tie.Need-enum_known-st-in-Opening-1
enum-known-st-2 c = search rules

-- what a byte of value x does after the '&', and in a run of settled numbers
opened :
    (c : tie.In-Opening) →
    let a = c.args in
    let x = c.value_of-x.result in
    low_does (shift_of a.st) a.b ≡ cond (ltb x 64) (cond c.in-Opening.after (bad 17) (unit_does (bits 6 x))) (cond (eqb a.b 45) (give 38 (outside false)) (bad 2))
unfolding low_does set_b
opened c = rw (c.in-Opening.is, c.value_of-x.ensures)

running : (c : tie.In-Run) → Settled (Run c.in-Run.n c.in-Run.v)
running c = rw c.in-Run.is at c.requires

in-run :
    (c : tie.In-Run) →
    let a = c.args in
    let x = c.value_of-x.result in
    let n = c.in-Run.n in
    let v = c.in-Run.v in
    low_does (shift_of a.st) a.b ≡ cond (ltb x 64) (unit_does (bits n v ++ bits 6 x)) (cond (eqb a.b 45) (close_does (bits n v)) (bad 3))
unfolding low_does set_b
in-run c = simp (c.in-Run.is, mod-eq_of_lt (running c).0, c.value_of-x.ensures)

returns : tie.Need-returns-then-after
returns c =
    record { so = simp (opened c.before.before, lt-ltb _ _ c.if-x-lt64.true, c.if-after.true); settled = tt }

letter-requires : tie.Need-letter-requires
letter-requires c κs = search rules

returns-2 : tie.Need-returns-then-x-lt64
unfolding bits
returns-2 c =
    let t = c.before.before in
    simp (opened t.before, lt-ltb _ _ t.if-x-lt64.true, c.if-after.false) c.letter.ensures

returns-3 : tie.Need-returns-then-b-eq45
returns-3 c =
    record { so = simp (opened c.before.before, le-ltb _ _ c.if-x-lt64.false, eq-eqb _ _ c.if-b-eq45.true); settled = tt }

enum-known-st-3 : tie.Need-enum_known-st-in-Run-1
enum-known-st-3 c = search rules

letter-requires-2 : tie.Need-letter-requires-then-x-lt64-2
letter-requires-2 c κs = let h = running c.before in (h.0, h.1, c.if-x-lt64-2.true)

returns-4 : tie.Need-returns-then-x-lt64-2
returns-4 c = let t = c.before in simp (in-run t.before, lt-ltb _ _ t.if-x-lt64-2.true) c.letter-then-x-lt64-2.ensures

close-requires : tie.Need-close-requires
close-requires c κs = (running c.before.before).1

returns-5 : tie.Need-returns-then-b-eq45-2
returns-5 c =
    let t = c.before in
    simp (in-run t.before.before, le-ltb _ _ t.if-x-lt64-2.false, eq-eqb _ _ t.if-b-eq45-2.true) c.close.ensures

returns-6 : tie.Need-returns-in-Outside
unfolding low_does
returns-6 c = simp c.in-Outside.is c.outside.ensures

returns-7 : tie.Need-returns-else-b-eq45
returns-7 c =
    record { so = simp (opened c.before.before, le-ltb _ _ c.if-x-lt64.false, ne_eqb _ _ c.if-b-eq45.false); settled = tt }

returns-8 : tie.Need-returns-else-b-eq45-2
returns-8 c =
    record { so = simp (in-run c.before.before, le-ltb _ _ c.if-x-lt64-2.false, ne_eqb _ _ c.if-b-eq45-2.false); settled = tt }

pub low_spec : {M : Type 1} → statement M
low_spec =
    tie.close
    (tie.spec
    value-of-requires
    enum-known-st
    outside-requires
    enum-known-st-2
    returns
    letter-requires
    returns-2
    returns-3
    enum-known-st-3
    letter-requires-2
    returns-4
    close-requires
    returns-5
    returns-6
    returns-7
    returns-8)
