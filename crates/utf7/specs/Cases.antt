-- Small cases of UTF-7, one table and what it states. Document 01's own are in the table of codec.
use Rattle.std.specs.Prelude.{List, [], ◌∷◌}
use Rattle.answer.specs.Lists.{Each}
use Rattle.reading.specs.Cases.{Case, reads, fails, stands, writes, unwritable, cell, Holds}
use Rattle.utf7.specs.Rule.{utf7}
use Rattle.utf7.specs.Spans.{span_in}
use Rattle.utf7.specs.Writing.{write_into}
use Rattle.utf7.specs.declared.Style.{Style}
use Rattle.utf7.specs.declared.Style.TheVariants.{Header, Body}

abbrev pub cases : List (Case Style)
cases =
    -- 1, a byte of 128 or more: outside a run, directly after its sign, in it, and where it may not end
    fails "a\u{80}" 1 1
    ∷ fails "+\u{80}" 1 1
    ∷ fails "+AAAÿ" 1 4
    ∷ fails "+AB\u{80}" 1 3
    -- 2, a sign with neither a letter nor `-` behind it, before 3
    ∷ fails "+\\" 2 1
    ∷ fails "a+" 2 2
    -- 4 at the byte that ends the run, before 3; there 3 if the run may end; and at the end of the text
    ∷ fails "+AB\\" 4 3
    ∷ fails "+AB." 4 3
    ∷ fails "+AAA\\" 3 4
    ∷ fails "+AB" 4 3
    -- six left-over bits, all zero
    ∷ fails "+AAAA" 4 5
    -- 3, a byte that no rule allows: the earliest place decides
    ∷ fails "a~\u{80}" 3 1
    ∷ fails "\0" 3 0
    -- a run is ended by `-`, by another byte, which is itself, and by the end of the text
    ∷ reads "+AKM-.+AKM.+AKM" (0xA3 ∷ 0x2E ∷ 0xA3 ∷ 0x2E ∷ 0xA3 ∷ [])
    -- `+` and `/` are letters in a run
    ∷ reads "++/8-" (0xFBFF ∷ [])
    -- outside runs a cell's own byte, and the two bytes of `+-`
    ∷ stands "a+-b" (cell 0x61 0 1 ∷ cell 0x2B 1 3 ∷ cell 0x62 3 4 ∷ [])
    -- in a run from the letter with the first bit to that with the last: neighbours share one
    ∷ stands "+ZeVnLIqe-." (cell 0x65E5 1 4 ∷ cell 0x672C 3 7 ∷ cell 0x8A9E 6 9 ∷ cell 0x2E 10 11 ∷ [])
    -- the byte that ends a run is a cell of its own
    ∷ stands "+AKM." (cell 0xA3 1 4 ∷ cell 0x2E 4 5 ∷ [])
    -- header style does not write `!` as itself, body style does
    ∷ writes Header (0x41 ∷ 0x21 ∷ []) "A+ACE-"
    ∷ writes Body (0x41 ∷ 0x21 ∷ []) "A!"
    -- neither writes `~` as itself; `+` is a sign and ends a stretch
    ∷ writes Body (0xA3 ∷ 0x7E ∷ 0x2B ∷ 0xA3 ∷ []) "+AKMAfg-+-+AKM-"
    -- the first cell that is no unit
    ∷ unwritable Body (0xFFFF ∷ 0x10000 ∷ 0x41 ∷ 0x10000 ∷ []) 1
    ∷ []

abbrev pub AllHold : Type 0
AllHold = Each (Holds utf7 span_in write_into) cases
