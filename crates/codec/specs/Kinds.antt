-- Reading by format, and writing by the kind of a page.
use Rattle.std.specs.Prelude.{ℕ, ◌+◌, ◌*◌, Bool, List}
use Rattle.answer.specs.Answer.{limit}
use Rattle.answer.specs.Output.{Outcome}
use Rattle.reading.specs.Reading.{Reading, reading, read_into}
use Rattle.reading.specs.Matching.{gave}
use Rattle.utf7.specs.Rule.{utf7}
use Rattle.utf7.specs.Writing.{first_over}
use Rattle.utf7.specs.Writing as utf7-writing
use Rattle.utf7.specs.declared.Style.TheVariants.{Header, Body}
use Rattle.jp2.specs.Rule.{jp2}
use Rattle.jp2.specs.Writable.{first_foreign}
use Rattle.jp2.specs.Writing as jp2-writing
use Rattle.mailbox.specs.Rule.{mailbox}
use Rattle.codec.specs.declared.Format.{Format}
use Rattle.codec.specs.declared.Format.TheVariants as format
use Rattle.codec.specs.declared.Kind.{Kind}
use Rattle.codec.specs.declared.Kind.TheVariants.{Utf7Header, Utf7Body, Jp2}

-- a page's texts are of one of the formats
unfoldable pub format_of : Kind → Format
format_of Utf7Header = format.Utf7
format_of Utf7Body = format.Utf7
format_of Jp2 = format.Jp2

-- "its own greatest number of bytes for one cell, 5, 5 and 6, and its bytes at the end, 0, 0 and 3"
unfoldable pub bytes_per_cell : Kind → ℕ
bytes_per_cell Utf7Header = 5
bytes_per_cell Utf7Body = 5
bytes_per_cell Jp2 = 6

unfoldable pub bytes_at_end : Kind → ℕ
bytes_at_end Utf7Header = 0
bytes_at_end Utf7Body = 0
bytes_at_end Jp2 = 3

-- the most bytes that cells within the limit are written as, whatever the kind
unfoldable pub most_bytes : ℕ
most_bytes = bytes_per_cell Jp2 * limit + bytes_at_end Jp2

-- the reading of a text of a format
unfoldable pub reading_of : Format → List ℕ → Reading
reading_of format.Utf7 text = reading utf7 text
reading_of format.Jp2 text = reading jp2 text
reading_of format.Mailbox text = reading mailbox text

-- reading a text of a format into an output
unfoldable pub read_in : Format → List ℕ → List ℕ → Outcome
read_in format.Utf7 text out = read_into utf7 text out
read_in format.Jp2 text out = read_into jp2 text out
read_in format.Mailbox text out = read_into mailbox text out

-- the text is accepted and reads as the cells
unfoldable pub reads_in : Format → List ℕ → List ℕ → Bool
reads_in f text cells = gave (reading_of f text) cells

-- the index of the first cell that is not writable in a kind, or the length
unfoldable pub first_unwritable : Kind → List ℕ → ℕ
first_unwritable Utf7Header cells = first_over cells
first_unwritable Utf7Body cells = first_over cells
first_unwritable Jp2 cells = first_foreign cells

-- the bytes that cells are written as in a kind
unfoldable pub writing_in : Kind → List ℕ → List ℕ
writing_in Utf7Header cells = utf7-writing.writing Header cells
writing_in Utf7Body cells = utf7-writing.writing Body cells
writing_in Jp2 cells = jp2-writing.writing cells

-- writing cells in a kind into an output
unfoldable pub write_in : Kind → List ℕ → List ℕ → Outcome
write_in Utf7Header cells out = utf7-writing.write_into Header cells out
write_in Utf7Body cells out = utf7-writing.write_into Body cells out
write_in Jp2 cells out = jp2-writing.write_into cells out

-- the page's words for its kind
abbrev pub reading_in : Kind → List ℕ → Reading
reading_in kind text = reading_of (format_of kind) text

abbrev pub reads_as : Kind → List ℕ → List ℕ → Bool
reads_as kind text cells = reads_in (format_of kind) text cells
