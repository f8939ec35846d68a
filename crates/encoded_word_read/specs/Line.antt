-- What the code's parts and turns denote: no promise to a caller rests on these.
use Rattle.std.specs.Prelude.{ℕ, ◌%◌, List, drop}
use Rattle.answer.specs.Answer.{number_of}
use Rattle.answer.specs.Bytes.{bytes}
use Rattle.reading.specs.Reading.{Does, give, go, bad}
use Rattle.utf7.specs.Rule.{Shift}
use Rattle.utf7_read.specs.Cursor.{shift_of}
use Rattle.encoded_word.specs.Rule.{start, head, text, equals, half, tail, behind, at_equals}
use Rattle.encoded_word.specs.Rule.{Part as LinePart}
use Rattle.encoded_word_read.specs.declared.Part.{Part}
use Rattle.encoded_word_read.specs.declared.Part.TheVariants.{Start, Head, Text, Equals, Half, Tail, Behind}
use Rattle.encoded_word_read.specs.declared.Turn.{Turn}
use Rattle.encoded_word_read.specs.declared.Turn.TheVariants.{Give, Go, Bad, Pair}

-- the bytes between two words' texts
abbrev pub due : List ℕ
due = bytes "␍␊ =?utf-7?Q?"

abbrev pub due_from : ℕ → List ℕ
due_from k = drop k due

abbrev pub part_of : Part → LinePart Shift
part_of Start = start
part_of (Head k) = head (due_from k)
part_of (Text n st) = text n (shift_of st)
part_of (Equals n st) = equals n (shift_of st)
part_of (Half n d st) = half n (d % 16) (shift_of st)
part_of Tail = tail
part_of Behind = behind

abbrev pub does_of : Turn → Does (LinePart Shift)
does_of (Give v p) = give v (part_of p)
does_of (Go p) = go (part_of p)
does_of (Bad why) = bad (number_of why)
does_of (Pair why) = at_equals (number_of why)
