-- Document 02, order 1: the names of IMAP mailboxes (RFC 3501, section 5.1.3), reading. A run's bits are a list; those that do not yet make a
-- unit are pending.
use Rattle.std.specs.Prelude.{ℕ, Bool, true, false, cond, List, ◌++◌, length, take, drop, ltb, eqb}
use Rattle.bits.specs.Bits.{bits, number, all_zero}
use Rattle.alphabet.specs.Letters.{value_of, set_b, comma}
use Rattle.reading.specs.Reading.{Does, give, go, bad, Ending, accepted, fault, Rule}
use Rattle.utf7.specs.Sets.{printable}

-- outside a run, or directly after its '&', and whether a run was closed directly before; or in a run with the pending bits
pub data Shift : Type 0 where
  outside : Bool → Shift
  opening : Bool → Shift
  run : List Bool → Shift

-- "bytes 32 to 126 stand for themselves", "`&` shifts"
unfoldable pub outside_does : Bool → ℕ → Does Shift
outside_does after b = cond (eqb b 38) (go (opening after)) (cond (printable b) (give b (outside false)) (bad 3))

-- "17 (needless shift) for a printable unit in a run at the byte completing it"
unfoldable pub gives_unit : ℕ → List Bool → Does Shift
gives_unit unit rest = cond (printable unit) (bad 17) (give unit (run rest))

-- each full 16 bits are a unit
unfoldable pub unit_does : List Bool → Does Shift
unit_does pending = cond (ltb (length pending) 16) (go (run pending)) (gives_unit (number (take 16 pending)) (drop 16 pending))

-- "4 only at the closing `-`"; "17 [..] at the closing `-`, after 4, for six or more left-over bits"
unfoldable pub close_does : List Bool → Does Shift
close_does pending = cond (all_zero pending) (cond (ltb (length pending) 6) (go (outside true)) (bad 17)) (bad 4)

-- "`&-` is the ampersand"; "17 [..] for a run directly after a run at its first letter"; "3 for any other byte inside a run"
unfoldable pub low_does : Shift → ℕ → Does Shift
low_does (outside after) b = outside_does after b
low_does (opening after) b =
    cond (set_b comma b) (cond after (bad 17) (unit_does (bits 6 (value_of comma b)))) (cond (eqb b 45) (give 38 (outside false)) (bad 2))
low_does (run pending) b =
    cond (set_b comma b) (unit_does (pending ++ bits 6 (value_of comma b))) (cond (eqb b 45) (close_does pending) (bad 3))

-- "at one byte 1, then 2 or 4, then 3, 5 or 6"
unfoldable pub byte_does : Shift → ℕ → Does Shift
byte_does shift b = cond (ltb b 128) (low_does shift b) (bad 1)

-- 2 for a sign "followed by neither B nor `-`, or by the end"; "7 for a run still open at the end"
unfoldable pub ends_in : ℕ → Shift → Ending
ends_in size (outside after) = accepted
ends_in size (opening after) = fault 2 size
ends_in size (run pending) = fault 7 size

abbrev pub mailbox : Rule Shift
mailbox = record { start = outside false; byte = byte_does; end = ends_in }
