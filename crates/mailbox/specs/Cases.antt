-- Small cases of mailbox names, one table and what it states.
use Rattle.std.specs.Prelude.{List, [], ◌∷◌}
use Rattle.answer.specs.Lists.{Each}
use Rattle.reading.specs.Cases.{Case, reads, fails, stands, writes, unwritable, cell, Holds}
use Rattle.utf7.specs.Writing.{write_into}
use Rattle.utf7.specs.declared.Style.{Style}
use Rattle.utf7.specs.declared.Style.TheVariants.{Name}
use Rattle.mailbox.specs.Rule.{mailbox}
use Rattle.mailbox.specs.Spans.{span_in}

abbrev pub cases : List (Case Style)
cases =
    -- the empty name
    reads "" []
    -- a run, and back
    ∷ reads "&ZeVnLIqe-" (0x65E5 ∷ 0x672C ∷ 0x8A9E ∷ [])
    ∷ writes Name (0x65E5 ∷ 0x672C ∷ 0x8A9E ∷ []) "&ZeVnLIqe-"
    -- the ampersand, and back
    ∷ reads "&-" (0x26 ∷ [])
    ∷ writes Name (0x26 ∷ []) "&-"
    -- 1, a byte of 128 or more: outside a run, directly after its sign, in it, and where it may not end
    ∷ fails "a\u{80}" 1 1
    ∷ fails "&\u{80}" 1 1
    ∷ fails "&AKMÿ" 1 4
    ∷ fails "&AKN\u{80}" 1 4
    -- 2, nothing behind the sign, or neither a letter nor `-`, before 3
    ∷ fails "&" 2 1
    ∷ fails "&\t" 2 1
    -- 3, a byte that is not 32 to 126: the earliest place decides
    ∷ fails "a\t\u{80}" 3 1
    ∷ fails "\u{7f}" 3 0
    -- the ampersand is no run
    ∷ reads "&AKM-&-" (0xA3 ∷ 0x26 ∷ [])
    -- 17, a run directly after a run: a name joined to itself, so document 02's order 9 is not stated of names
    ∷ reads "&AKM-" (0xA3 ∷ [])
    ∷ fails "&AKM-&AKM-" 17 6
    -- 17, a printable unit
    ∷ fails "&ACY-" 17 3
    -- `,` replaces `/`
    ∷ reads "&,,8-" (0xFFFF ∷ [])
    ∷ fails "&,/8-" 3 2
    -- 7, a run left open, and 3, a byte that is no letter
    ∷ fails "&AKN" 7 4
    ∷ fails "&AKN!" 3 4
    -- six left-over bits: 17 if zero, else 4
    ∷ fails "&A-" 17 2
    ∷ fails "&B-" 4 2
    -- outside runs a cell's own byte, and the two bytes of `&-`
    ∷ stands "a&-b" (cell 0x61 0 1 ∷ cell 0x26 1 3 ∷ cell 0x62 3 4 ∷ [])
    -- in a run from the letter with the first bit to that with the last: neighbours share one
    ∷ stands "&ZeVnLIqe-." (cell 0x65E5 1 4 ∷ cell 0x672C 3 7 ∷ cell 0x8A9E 6 9 ∷ cell 0x2E 10 11 ∷ [])
    -- the first cell that is no unit
    ∷ unwritable Name (0xFFFF ∷ 0x10000 ∷ 0x41 ∷ 0x10000 ∷ []) 1
    ∷ []

abbrev pub AllHold : Type 0
AllHold = Each (Holds mailbox span_in write_into) cases
