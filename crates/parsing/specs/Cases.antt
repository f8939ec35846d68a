-- Numbers and lists as they are spelled, and where others fail; one table and what it states.
use Rattle.std.specs.Prelude.{ℕ, ◌≡◌, List, [], ◌∷◌}
use Prim.Native.String.{String}
use Rattle.answer.specs.Bytes.{bytes}
use Rattle.answer.specs.Lists.{Each}
use Rattle.parsing.specs.Parsing.{Parsed, found, failed, either, literal, broken, wholly}
use Rattle.parsing.specs.Digits.{digits, groups, number, list}

pub data Case : Type 0 where
  -- a number by so many digits of a base; numbers by so many hex digits each
  spells : (base width n : ℕ) → String → Case
  joins : (width : ℕ) → List ℕ → String → Case
  -- a number of five digits, at most 65,536; a list of pairs of hex digits, at least and at most so many; one of two
  -- words; a word and nothing behind it
  counts : String → Parsed ℕ → Case
  lists : (least most : ℕ) → String → Parsed (List ℕ) → Case
  chooses : String → String → String → ℕ → Case
  ends : String → String → ℕ → Case

abbrev pub Holds : Case → Type 0
Holds (spells base width n text) = digits base width n ≡ bytes text
Holds (joins width ns text) = groups width ns ≡ bytes text
Holds (counts text result) = number 10 5 65536 (bytes text) 0 ≡ result
Holds (lists least most text result) = list 2 least most (bytes text) 0 ≡ result
Holds (chooses one other text place) =
    either (literal (bytes one)) (literal (bytes other)) (bytes text) 0 ≡ failed place
Holds (ends word text place) = wholly (literal (bytes word) (bytes text) 0) ≡ broken place

abbrev pub cases : List Case
cases =
    spells 10 5 65536 "65536"
    ∷ spells 10 5 4 "00004"
    ∷ spells 16 8 0x2262 "00002262"
    ∷ spells 16 8 0xFEDCBA98 "FEDCBA98"
    ∷ joins 2 (0x41 ∷ 0x2B ∷ 0xAF ∷ []) "412BAF"
    ∷ joins 8 (1 ∷ 0xABCDEF ∷ []) "0000000100ABCDEF"
    ∷ joins 8 [] ""
    -- what is found, with what stands behind it and its place
    ∷ counts "65536␊" (found 65536 (bytes "␊") 5)
    ∷ counts "000045" (found 4 (bytes "5") 5)
    -- digit by digit: the bound, and a byte that is no digit
    ∷ counts "65537" (failed 4)
    ∷ counts "66000" (failed 1)
    ∷ counts "7" (failed 0)
    ∷ counts "6" (failed 1)
    ∷ counts " 0004" (failed 0)
    ∷ counts "0000A" (failed 4)
    ∷ counts "0004␊" (failed 4)
    ∷ counts "" (failed 0)
    ∷ lists 0 3 "␊" (found [] [] 1)
    ∷ lists 0 3 "412BFF␊4" (found (0x41 ∷ 0x2B ∷ 0xFF ∷ []) (bytes "4") 7)
    -- a digit too many, an odd one, a small one, a space, a list that ends early
    ∷ lists 0 3 "412BFF4" (failed 6)
    ∷ lists 0 3 "412␊" (failed 3)
    ∷ lists 0 3 "41af␊" (failed 2)
    ∷ lists 0 3 "41 2B␊" (failed 2)
    ∷ lists 0 3 "412B" (failed 4)
    -- too few
    ∷ lists 2 2 "41␊" (failed 2)
    ∷ lists 2 2 "412B␊" (found (0x41 ∷ 0x2B ∷ []) [] 5)
    -- the further of two failures, whichever it is
    ∷ chooses "utf7b" "jp2" "utf8" 3
    ∷ chooses "jp2" "utf7b" "utf8" 3
    ∷ ends "jp2" "jp2␊" 3
    ∷ ends "jp2" "jp" 2
    ∷ []

abbrev pub AllHold : Type 0
AllHold = Each Holds cases
