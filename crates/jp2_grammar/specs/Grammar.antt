-- RFC 1554, "Formal Syntax": its productions for "text", from the page's foot to its head. Each has the RFC's name and
-- stands below the RFC's line; `lit` is a literal, `G0` and `G2` are literals that designate.
use Rattle.std.specs.Prelude.{ℕ, ◌≤◌, ◌≡◌, true, false, ◌&&◌, List, [], ◌∷◌, eqb}
use Prim.Native.String.{String}
use Rattle.answer.specs.Bytes.{bytes}
use Rattle.answer.specs.Lists.{Each}
use Rattle.jp2_grammar.specs.Notation.{Standing, Syntax, ◌or◌, ◌then◌, Many, Optional, Literal, lit, OneOf}

-- one-of-96 = <any one of 96 values> ; (40-177, 32.-127.)
abbrev pub one-of-96 : Syntax
one-of-96 = OneOf 32 127

-- one-of-94 = <any one of 94 values> ; (41-176, 33.-126.)
abbrev pub one-of-94 : Syntax
one-of-94 = OneOf 33 126

-- LF = <ASCII LF, linefeed> ; ( 12, 10.)
abbrev pub LF : ℕ
LF = 10

-- CR = <ASCII CR, carriage return>; ( 15, 13.)
abbrev pub CR : ℕ
CR = 13

-- ESC = <ISO 2022 ESC, escape> ; ( 33, 27.)
abbrev pub ESC : Syntax
ESC = lit "␛"

-- SO = <ISO 2022 SO, shift-out> ; ( 16, 14.)
-- SI = <ISO 2022 SI, shift-in> ; ( 17, 15.)
-- 7BIT = <any 7-bit value> ; ( 0-177, 0.-127.)
-- single-byte-char = <any 7BIT, including bare CR & bare LF, but NOT including CRLF, and not including ESC, SI, SO>
pub data single-byte-char : Standing → List ℕ → Standing → Type 0 where
  char :
      {p : Standing} {b : ℕ} → b ≤ 127 → (p.after_return && eqb b LF) ≡ false →
      Each (λ c. eqb b c ≡ false) (bytes "␛␏␎") →
      single-byte-char p (b ∷ [])
      (record { set = p.set; designated = p.designated; after_return = eqb b CR })

-- single-shift-seq = ESC "N"
-- ; note: g2-desig-seq must precede single-shift-char (it stands at text)
pub data single-shift-seq : Standing → List ℕ → Standing → Type 0 where
  shift :
      {p q : Standing} {s : List ℕ} → p.designated ≡ true → (ESC then lit "N") p s q → single-shift-seq p s q

-- single-shift-char = single-shift-seq one-of-96
abbrev pub single-shift-char : Syntax
single-shift-char = single-shift-seq then one-of-96

-- the letter that designates one of the "94 character sets", by its reg#, to G0
abbrev pub G0 : ℕ → String → Syntax
G0 reg letter = Literal letter (λ p. record { set = reg; designated = p.designated; after_return = false })

-- the letter that designates one of the "96 character sets" to G2
abbrev pub G2 : String → Syntax
G2 letter = Literal letter (λ p. record { set = p.set; designated = true; after_return = false })

-- g2-desig-seq = ESC "." ( "A" / "F" )
abbrev pub g2-desig-seq : Syntax
g2-desig-seq = ESC then lit "." then (G2 "A" or G2 "F")

-- double-byte-seq = (ESC "$" ( "@" / "A" / "B" )) /
--                   (ESC "$" "(" ( "C" / "D" ))
abbrev pub double-byte-seq : Syntax
double-byte-seq =
    (ESC then lit "$" then (G0 42 "@" or G0 58 "A" or G0 87 "B"))
    or (ESC then lit "$" then lit "(" then (G0 149 "C" or G0 159 "D"))

-- single-byte-seq = ESC "(" ( "B" / "J" )
abbrev pub single-byte-seq : Syntax
single-byte-seq = ESC then lit "(" then (G0 6 "B" or G0 14 "J")

-- reset-seq = ESC "(" ( "B" / "J" )
abbrev pub reset-seq : Syntax
reset-seq = ESC then lit "(" then (G0 6 "B" or G0 14 "J")

-- double-byte-segment = double-byte-seq
--                       *((one-of-94 one-of-94) /
--                         g2-desig-seq /
--                         single-shift-char )
abbrev pub double-byte-segment : Syntax
double-byte-segment = double-byte-seq then Many ((one-of-94 then one-of-94) or g2-desig-seq or single-shift-char)

-- single-byte-segment = single-byte-seq
--                       *(single-byte-char /
--                         g2-desig-seq /
--                         single-shift-char )
abbrev pub single-byte-segment : Syntax
single-byte-segment = single-byte-seq then Many (single-byte-char or g2-desig-seq or single-shift-char)

-- segment = single-byte-segment / double-byte-segment
abbrev pub segment : Syntax
segment = single-byte-segment or double-byte-segment

-- text = *(single-byte-char /
--          g2-desig-seq /
--          single-shift-char)
--        [*segment
--         reset-seq
--         *(single-byte-char /
--           g2-desig-seq /
--           single-shift-char ) ]
--          ; note: g2-desig-seq must
--          ; precede single-shift-char
abbrev pub text : Syntax
text =
    Many (single-byte-char or g2-desig-seq or single-shift-char)
    then Optional (Many segment then reset-seq then Many (single-byte-char or g2-desig-seq or single-shift-char))
