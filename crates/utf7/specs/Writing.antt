-- Document 01, "UTF-7": writing, in header and in body style; and mailbox names (document 02, order 1), which are spelled alike.
use Rattle.std.specs.Prelude.{ℕ, suc, ◌<◌, ◌^◌, Bool, cond, List, [], ◌∷◌, ◌++◌, map, ltb, eqb}
use Rattle.answer.specs.Output.{Outcome, written}
use Rattle.bits.specs.Bits.{bits_of, full, filler}
use Rattle.alphabet.specs.Letters.{letter_of}
use Rattle.utf7.specs.Sets.{own, sign_of, last_of}
use Rattle.utf7.specs.declared.Style.{Style}

-- "UTF-7 cells are UTF-16 units, 0 to 65535"
abbrev pub IsUnit : ℕ → Type 0
IsUnit u = u < 2 ^ 16

-- how units are spelled: one as itself, a sign that shifts, or a longest stretch of other units
pub data Piece : Type 0 where
  self : ℕ → Piece
  sign : Piece
  stretch : List ℕ → Piece

-- another unit in front of pieces: it lengthens the stretch that they begin with, or is a stretch by itself
abbrev pub extend : ℕ → List Piece → List Piece
extend u [] = stretch (u ∷ []) ∷ []
extend u (self v ∷ ps) = stretch (u ∷ []) ∷ self v ∷ ps
extend u (sign ∷ ps) = stretch (u ∷ []) ∷ sign ∷ ps
extend u (stretch us ∷ ps) = stretch (u ∷ us) ∷ ps

-- "Each longest stretch of other units is one run"
unfoldable pub pieces : Style → List ℕ → List Piece
pieces style [] = []
pieces style (u ∷ us) =
    cond (own style u) (self u ∷ pieces style us)
    (cond (eqb u (sign_of style)) (sign ∷ pieces style us) (extend u (pieces style us)))

-- "its letters with fewest zero bits as filler"
unfoldable pub letters : ℕ → List Bool → List ℕ
letters last bs = map (letter_of last) (full 6 (bs ++ filler 6 bs))

-- "+ is always +-", and "`&-` is the ampersand"; a run is the sign, the letters of its units' bits, sixteen for each, "and always -"
unfoldable pub spell : Style → Piece → List ℕ
spell style (self u) = u ∷ []
spell style sign = sign_of style ∷ 45 ∷ []
spell style (stretch us) = sign_of style ∷ (letters (last_of style) (bits_of 16 us) ++ 45 ∷ [])

unfoldable pub spell_all : Style → List Piece → List ℕ
spell_all style [] = []
spell_all style (p ∷ ps) = spell style p ++ spell_all style ps

-- the bytes that units are written as
unfoldable pub writing : Style → List ℕ → List ℕ
writing style us = spell_all style (pieces style us)

-- the index of the first cell that is no unit, or the length
unfoldable pub first_over : List ℕ → ℕ
first_over [] = 0
first_over (u ∷ us) = cond (ltb u (2 ^ 16)) (suc (first_over us)) 0

-- writing into an output: 16, then 10 with the cell's index, then 9
unfoldable pub write_into : Style → List ℕ → List ℕ → Outcome
write_into style us out = written us (first_over us) (writing style us) out
