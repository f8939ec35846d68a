-- Small cases of subject lines, one table and what it states.
use Rattle.std.specs.Prelude.{ℕ, List, [], ◌∷◌, ◌++◌}
use Rattle.answer.specs.Bytes.{bytes}
use Rattle.answer.specs.Lists.{Each}
use Rattle.answer.specs.Output.{Outcome}
use Rattle.reading.specs.Cases.{Case, reads, fails, writes, unwritable, Holds}
use Rattle.reading.specs.Spans.{Marking, up_to}
use Rattle.utf7.specs.Rule.{Shift}
use Rattle.encoded_word.specs.Writing.{write_into}
use Rattle.encoded_word.specs.Rule.{Part, subject}

-- there is one way of writing
abbrev write : Unit {0} → List ℕ → List ℕ → Outcome
write _ = write_into

-- no case says where a cell's bytes stand
abbrev marking : Marking (Part Shift)
marking st b at = up_to 1 at

abbrev pub cases : List (Case Unit)
cases =
    -- words of any units, each read by itself: a run ends with its word, and a surrogate pair may be parted
    reads "" []
    ∷ reads "=?utf-7?Q?a_b=3F?=" (bytes "a b?")
    ∷ reads "=?utf-7?Q?+AKM?=␍␊ =?utf-7?Q?a?=" (0xA3 ∷ 0x61 ∷ [])
    ∷ reads "=?utf-7?Q?+2D0-?=␍␊ =?utf-7?Q?+3gk-?=" (0xD83D ∷ 0xDE09 ∷ [])
    -- `=` pairs for any byte
    ∷ reads "=?utf-7?Q?=61=2BAK=4D?=" (0x61 ∷ 0xA3 ∷ [])
    -- 63 characters; the 64th, or a pair that does not end by the 63rd
    ∷ reads "=?utf-7?Q?aaaaaaaaaaaaaaaaaaaaaaaaaaaaaaaaaaaaaaaaaaaaaaaaaaaaaaaaaaaaaaa?="
    (bytes "aaaaaaaaaaaaaaaaaaaaaaaaaaaaaaaaaaaaaaaaaaaaaaaaaaaaaaaaaaaaaaa")
    ∷ reads "=?utf-7?Q?aaaaaaaaaaaaaaaaaaaaaaaaaaaaaaaaaaaaaaaaaaaaaaaaaaaaaaaaaaaa=61?="
    (bytes "aaaaaaaaaaaaaaaaaaaaaaaaaaaaaaaaaaaaaaaaaaaaaaaaaaaaaaaaaaaaa")
    ∷ fails "=?utf-7?Q?aaaaaaaaaaaaaaaaaaaaaaaaaaaaaaaaaaaaaaaaaaaaaaaaaaaaaaaaaaaaaaaa?=" 21 73
    ∷ fails "=?utf-7?Q?aaaaaaaaaaaaaaaaaaaaaaaaaaaaaaaaaaaaaaaaaaaaaaaaaaaaaaaaaaaaa=61?=" 21 71
    -- an empty word, at its `?`
    ∷ fails "=?utf-7?Q??=" 21 10
    -- other bytes of a word's start and end, and between words
    ∷ fails "a" 21 0
    ∷ fails "=?UTF-7?Q?a?=" 21 2
    ∷ fails "=?utf-7?q?a?=" 21 8
    ∷ fails "=?utf-7?Q?a??" 21 12
    ∷ fails "=?utf-7?Q?a?= " 21 13
    ∷ fails "=?utf-7?Q?a?=␍␊␊" 21 15
    ∷ fails "=?utf-7?Q?a?=␍␊ ␍" 21 16
    -- 21 before the reader's number at one byte: 0 to 32 and 127 up are never bare
    ∷ fails "=?utf-7?Q?a\u{80}?=" 21 11
    ∷ fails "=?utf-7?Q?a\u{7f}?=" 21 11
    ∷ fails "=?utf-7?Q?a ?=" 21 11
    ∷ fails "=?utf-7?Q?+ ?=" 21 11
    -- the reader's own numbers: at the byte, at a pair's `=`, at a word's `?`, there before 21 at the byte behind it
    ∷ fails "=?utf-7?Q?a~?=" 3 11
    ∷ fails "=?utf-7?Q?a=7E?=" 3 11
    ∷ fails "=?utf-7?Q?a=80?=" 1 11
    ∷ fails "=?utf-7?Q?a=80 ?=" 1 11
    ∷ fails "=?utf-7?Q?+AKN=2E?=" 4 14
    ∷ fails "=?utf-7?Q?+AKN?=" 4 14
    ∷ fails "=?utf-7?Q?+?=" 2 11
    ∷ fails "=?utf-7?Q?+??" 2 11
    -- a pair of small or no hex digits, at the bad one: it gives the reader nothing
    ∷ fails "=?utf-7?Q?a=8b?=" 21 13
    ∷ fails "=?utf-7?Q?a=a8?=" 21 12
    ∷ fails "=?utf-7?Q?a==?=" 21 12
    -- a line that ends early, at the length
    ∷ fails "=" 21 1
    ∷ fails "=?utf-7?Q?" 21 10
    ∷ fails "=?utf-7?Q?+" 21 11
    ∷ fails "=?utf-7?Q?a=" 21 12
    ∷ fails "=?utf-7?Q?a=8" 21 13
    ∷ fails "=?utf-7?Q?a?" 21 12
    ∷ fails "=?utf-7?Q?a?=␍␊ " 21 16
    -- "`_` for space and `=` with two capital hex digits for other controls, `=`, `?` and `_`"
    ∷ writes tt [] ""
    ∷ writes tt (bytes "a b?␍␊\t") "=?utf-7?Q?a_b=3F=0D=0A=09?="
    ∷ writes tt (bytes "+.=") "=?utf-7?Q?+-.+AD0-?="
    -- as many units as fit, and no surrogate pair parted: the high one alone would fit, and does before another unit
    ∷ writes tt (bytes "aaaaaaaaaaaaaaaaaaaaaaaaaaaaaaaaaaaaaaaaaaaaaaaaaaaaaaaaaaaaaaaa")
    "=?utf-7?Q?aaaaaaaaaaaaaaaaaaaaaaaaaaaaaaaaaaaaaaaaaaaaaaaaaaaaaaaaaaaaaaa?=␍␊ =?utf-7?Q?a?="
    ∷ writes tt (bytes "aaaaaaaaaaaaaaaaaaaaaaaaaaaaaaaaaaaaaaaaaaaaaaaaaaaaaaa" ++ (0xD83D ∷ 0xDE09 ∷ []))
    "=?utf-7?Q?aaaaaaaaaaaaaaaaaaaaaaaaaaaaaaaaaaaaaaaaaaaaaaaaaaaaaaa+2D3eCQ-?="
    ∷ writes tt (bytes "aaaaaaaaaaaaaaaaaaaaaaaaaaaaaaaaaaaaaaaaaaaaaaaaaaaaaaaaaa" ++ (0xD83D ∷ 0xDE09 ∷ []))
    "=?utf-7?Q?aaaaaaaaaaaaaaaaaaaaaaaaaaaaaaaaaaaaaaaaaaaaaaaaaaaaaaaaaa?=␍␊ =?utf-7?Q?+2D3eCQ-?="
    ∷ writes tt (bytes "aaaaaaaaaaaaaaaaaaaaaaaaaaaaaaaaaaaaaaaaaaaaaaaaaaaaaaaaaa" ++ (0xD83D ∷ 0x61 ∷ []))
    "=?utf-7?Q?aaaaaaaaaaaaaaaaaaaaaaaaaaaaaaaaaaaaaaaaaaaaaaaaaaaaaaaaaa+2D0-?=␍␊ =?utf-7?Q?a?="
    -- the first and the last surrogates, and what stands next to them
    ∷ writes tt (bytes "aaaaaaaaaaaaaaaaaaaaaaaaaaaaaaaaaaaaaaaaaaaaaaaaaaaaaaaaaa" ++ (0xDBFF ∷ 0xDC00 ∷ []))
    "=?utf-7?Q?aaaaaaaaaaaaaaaaaaaaaaaaaaaaaaaaaaaaaaaaaaaaaaaaaaaaaaaaaa?=␍␊ =?utf-7?Q?+2//cAA-?="
    ∷ writes tt (bytes "aaaaaaaaaaaaaaaaaaaaaaaaaaaaaaaaaaaaaaaaaaaaaaaaaaaaaaaaaa" ++ (0xD800 ∷ 0xDFFF ∷ []))
    "=?utf-7?Q?aaaaaaaaaaaaaaaaaaaaaaaaaaaaaaaaaaaaaaaaaaaaaaaaaaaaaaaaaa?=␍␊ =?utf-7?Q?+2ADf/w-?="
    ∷ writes tt (bytes "aaaaaaaaaaaaaaaaaaaaaaaaaaaaaaaaaaaaaaaaaaaaaaaaaaaaaaaaaa" ++ (0xD7FF ∷ 0xDC00 ∷ []))
    "=?utf-7?Q?aaaaaaaaaaaaaaaaaaaaaaaaaaaaaaaaaaaaaaaaaaaaaaaaaaaaaaaaaa+1/8-?=␍␊ =?utf-7?Q?+3AA-?="
    ∷ writes tt (bytes "aaaaaaaaaaaaaaaaaaaaaaaaaaaaaaaaaaaaaaaaaaaaaaaaaaaaaaaaaa" ++ (0xD800 ∷ 0xDBFF ∷ []))
    "=?utf-7?Q?aaaaaaaaaaaaaaaaaaaaaaaaaaaaaaaaaaaaaaaaaaaaaaaaaaaaaaaaaa+2AA-?=␍␊ =?utf-7?Q?+2/8-?="
    ∷ writes tt (bytes "aaaaaaaaaaaaaaaaaaaaaaaaaaaaaaaaaaaaaaaaaaaaaaaaaaaaaaaaaa" ++ (0xD800 ∷ 0xE000 ∷ []))
    "=?utf-7?Q?aaaaaaaaaaaaaaaaaaaaaaaaaaaaaaaaaaaaaaaaaaaaaaaaaaaaaaaaaa+2AA-?=␍␊ =?utf-7?Q?+4AA-?="
    ∷ writes tt (bytes "aaaaaaaaaaaaaaaaaaaaaaaaaaaaaaaaaaaaaaaaaaaaaaaaaaaaaaaaaa" ++ (0xDC00 ∷ 0xDC00 ∷ []))
    "=?utf-7?Q?aaaaaaaaaaaaaaaaaaaaaaaaaaaaaaaaaaaaaaaaaaaaaaaaaaaaaaaaaa+3AA-?=␍␊ =?utf-7?Q?+3AA-?="
    ∷ unwritable tt (0xFFFF ∷ 0x10000 ∷ []) 1
    ∷ []

abbrev pub AllHold : Type 0
AllHold = Each (Holds subject marking write) cases
