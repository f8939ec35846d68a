-- How many bytes are lent for a letter: one more than it may have.
use Rattle.std.specs.Prelude.{ℕ}

abbrev pub letter_room : ℕ
letter_room = 1048577
