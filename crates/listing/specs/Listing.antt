-- "Both listers print so: number and place or count in decimal, cells as eight capital hex digits with one space between, every line
-- ended by LF; an empty list prints `cells=` alone."
use Rattle.std.specs.Prelude.{ℕ, zero, suc, ◌+◌, ◌/◌, ◌%◌, ◌^◌, cond, List, [], ◌∷◌, ◌++◌, length, drop, ltb, eqb}
use Rattle.answer.specs.Answer.{Verdict, limit, too_long}
use Rattle.answer.specs.Output.{Outcome, refusing, deliver}

-- a digit's byte: 0 to 9, A to F
abbrev pub digit : ℕ → ℕ
digit d = cond (ltb d 10) (48 + d) (55 + d)

-- the digits of a number in decimal, with no zero in front; k of them at most
unfoldable pub decimal_in : ℕ → ℕ → List ℕ
decimal_in zero n = []
decimal_in (suc k) n = cond (ltb n 10) (digit n ∷ []) (decimal_in k (n / 10) ++ digit (n % 10) ∷ [])

-- a 64-bit number has at most twenty
abbrev pub decimal : ℕ → List ℕ
decimal n = decimal_in 20 n

-- the w lowest hex digits, the highest first
unfoldable pub hex_in : ℕ → ℕ → List ℕ
hex_in zero v = []
hex_in (suc w) v = digit (v / 16 ^ w % 16) ∷ hex_in w v

-- the cells, each with a space in front
unfoldable pub spaced : List ℕ → List ℕ
spaced [] = []
spaced (v ∷ vs) = 32 ∷ (hex_in 8 v ++ spaced vs)

-- "status", "count", "place", "cells"
abbrev pub status_name : List ℕ
status_name = 115 ∷ 116 ∷ 97 ∷ 116 ∷ 117 ∷ 115 ∷ []

abbrev pub count_name : List ℕ
count_name = 99 ∷ 111 ∷ 117 ∷ 110 ∷ 116 ∷ []

abbrev pub place_name : List ℕ
place_name = 112 ∷ 108 ∷ 97 ∷ 99 ∷ 101 ∷ []

abbrev pub cells_name : List ℕ
cells_name = 99 ∷ 101 ∷ 108 ∷ 108 ∷ 115 ∷ []

-- a line: a name, '=', what it says, LF
abbrev pub line : List ℕ → List ℕ → List ℕ
line name said = name ++ (61 ∷ (said ++ 10 ∷ []))

-- an answer: its number, then its count or place
unfoldable pub answer_lines : Verdict → List ℕ
answer_lines v =
    line status_name (decimal v.number) ++ line (cond (eqb v.number 0) count_name place_name) (decimal v.place)

-- an answer, and the cells where it is accepted
unfoldable pub listing : Verdict → List ℕ → List ℕ
listing v cells = answer_lines v ++ cond (eqb v.number 0) (line cells_name (drop 1 (spaced cells))) []

-- a line that says a number goes into an output: 9 where it does not fit
unfoldable pub say_into : List ℕ → ℕ → List ℕ → Outcome
say_into name n out = deliver (line name (decimal n)) out

-- an answer goes into an output: 9 where it does not fit
unfoldable pub tell_into : Verdict → List ℕ → Outcome
tell_into v out = deliver (answer_lines v) out

-- the listing goes into an output: 16 for too many cells, then 9
unfoldable pub list_into : Verdict → List ℕ → List ℕ → Outcome
list_into v cells out = cond (ltb limit (length cells)) (refusing too_long out) (deliver (listing v cells) out)
