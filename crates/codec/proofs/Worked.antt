-- What the worked page of document 01 asks of the codec, computed. Assumes nothing.
use Prim.Native.Nat.{ℕ}
use mathlib.Core.Path.{◌≡◌, refl}
use mathlib.Core.Bool.{true, false}
use mathlib.Core.List.{List, [], ◌∷◌}
use Rattle.bits.specs.Bits.{bits, number, all_zero, bits_of, groups, full, filler}
use Rattle.alphabet.specs.Letters.{value_of, set_b, letter_of}
use Rattle.reading.specs.Reading.{accepted, read_from, reading}
use Rattle.utf7.specs.Sets.{alphanumeric, set_d, set_o, direct, own}
use Rattle.utf7.specs.Rule.{outside_does, unit_does, may_end, end_does, low_does, byte_does, ends_in}
use Rattle.utf7.specs.Writing.{pieces, letters, spell, spell_all, writing, first_over}
use Rattle.codec.specs.declared.Kind.TheVariants.{Utf7Body}
use Rattle.reading.specs.Matching.{same_cells}
use Rattle.codec.specs.Kinds.{format_of, reading_of, reading_in, reads_in, reads_as, first_unwritable, writing_in}

-- "A+ImIDkQ.", its cells, the cells with 003D at 1, and "A=+A5E-."
abbrev pub letter : List ℕ
letter = 65 ∷ 43 ∷ 73 ∷ 109 ∷ 73 ∷ 68 ∷ 107 ∷ 81 ∷ 46 ∷ []

abbrev pub cells_read : List ℕ
cells_read = 0x41 ∷ 0x2262 ∷ 0x391 ∷ 0x2E ∷ []

abbrev pub cells_edited : List ℕ
cells_edited = 0x41 ∷ 0x3D ∷ 0x391 ∷ 0x2E ∷ []

-- with a cell at 1 that UTF-7 cannot write
abbrev pub cells_great : List ℕ
cells_great = 0x41 ∷ 0x10000 ∷ 0x391 ∷ 0x2E ∷ []

abbrev pub written : List ℕ
written = 65 ∷ 61 ∷ 43 ∷ 65 ∷ 53 ∷ 69 ∷ 45 ∷ 46 ∷ []

pub letter-reads : reading_in Utf7Body letter ≡ record { cells = cells_read; ending = accepted }
unfolding bits number all_zero value_of set_b read_from reading alphanumeric set_d set_o direct outside_does unit_does may_end
    end_does low_does byte_does ends_in reading_of format_of
letter-reads = refl

pub letter-reads-as : reads_as Utf7Body letter cells_read ≡ true
unfolding same_cells reads_in
letter-reads-as = rw letter-reads

pub letter-reads-other : reads_as Utf7Body letter cells_edited ≡ false
unfolding same_cells reads_in
letter-reads-other = rw letter-reads

pub sign-writable : first_unwritable Utf7Body (0x3D ∷ []) ≡ 1
unfolding first_over first_unwritable
sign-writable = refl

pub edited-writable : first_unwritable Utf7Body cells_edited ≡ 4
unfolding first_over first_unwritable
edited-writable = refl

pub great-unwritable : first_unwritable Utf7Body cells_great ≡ 1
unfolding first_over first_unwritable
great-unwritable = refl

pub edited-writes : writing_in Utf7Body cells_edited ≡ written
unfolding bits number all_zero bits_of groups full filler letter_of alphanumeric set_d set_o direct own pieces letters
    spell spell_all writing writing_in
edited-writes = refl
