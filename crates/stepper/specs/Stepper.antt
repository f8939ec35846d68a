-- What a step of a reader that holds its text gives, and the reader after it, in any format.
use Rattle.std.specs.Prelude.{ℕ, zero, suc, List}
use Rattle.std.specs.Borrow.{Bor}
use Rattle.std.specs.declared.ops.ControlFlow.{ControlFlow}
use Rattle.std.specs.declared.ops.ControlFlow.TheVariants.{Continue, Break}
use Rattle.answer.specs.Answer.{Verdict, in_numbers, Answer}
use Rattle.reading.specs.Reading.{Reading, reading}
use Rattle.reading.specs.Spans.{marked_in}
use Rattle.reading.specs.Stepping.{Next, cell, final, onward, on_spot, at_start, cells_of, answer_of, nth_of}
use Rattle.reading.specs.declared.Marked.{Marked}
use Rattle.utf7.specs.Rule.{utf7}
use Rattle.utf7.specs.Spans as utf7-spans
use Rattle.utf7_read.specs.Cursor as u
use Rattle.jp2.specs.Rule.{jp2}
use Rattle.jp2.specs.Spans as jp2-spans
use Rattle.jp2_read.specs.Cursor as j
use Rattle.mailbox.specs.Rule.{mailbox}
use Rattle.mailbox.specs.Spans as mailbox-spans
use Rattle.mailbox_read.specs.Cursor as m
use Rattle.codec.specs.declared.Format.{Format}
use Rattle.codec.specs.declared.Format as format
use Rattle.stepper.specs.declared.Place.{Place}
use Rattle.stepper.specs.declared.Place.TheVariants.{Utf7, Jp2, Mailbox}
use Rattle.stepper.specs.declared.Reader.{Reader}

-- what a step hands out: a cell with its bytes, or the answer of the whole reading, as document 01 numbers it
pub data Gift : Type 0 where
  a_cell : Marked → Gift
  the_answer : Verdict → Gift

abbrev pub told : ControlFlow Answer Marked → Gift
told (Continue m) = a_cell m
told (Break answer) = the_answer (in_numbers answer)

abbrev pub gift : {P : Type 0} → Next P → Gift
gift (cell m p) = a_cell m
gift (final verdict) = the_answer verdict

abbrev pub start_of : Format → Place
start_of format.TheVariants.Utf7 = Utf7 (u.cursor_of (at_start utf7))
start_of format.TheVariants.Jp2 = Jp2 (j.cursor_of (at_start jp2))
start_of format.TheVariants.Mailbox = Mailbox (m.cursor_of (at_start mailbox))

-- the step from any place
abbrev pub step_of : List ℕ → Place → Next Place
step_of text (Utf7 c) = onward Utf7 (u.step_of text c)
step_of text (Jp2 c) = onward Jp2 (j.step_of text c)
step_of text (Mailbox c) = onward Mailbox (m.step_of text c)

abbrev pub given_at : List ℕ → Place → Gift
given_at text p = gift (step_of text p)

-- behind the cell, or the same place where the answer was given
abbrev pub place_after : List ℕ → Place → Place
place_after text p = on_spot (step_of text p) p

-- a reader at the start of a text, what its step gives, and the reader after it: the same text, at the next place
abbrev pub opened : Bor (List ℕ) → Format → Reader
opened text f = record { text = text; place = start_of f }

abbrev pub given_by : Reader → Gift
given_by r = given_at r.text.now r.place

abbrev pub moved_of : Reader → Reader
moved_of r = record { text = r.text; place = place_after r.text.now r.place }

-- the reader after some steps from the start of a text
unfoldable pub reader_after : Bor (List ℕ) → Format → ℕ → Reader
reader_after text f zero = opened text f
reader_after text f (suc n) = moved_of (reader_after text f n)

abbrev pub reading_of : Format → List ℕ → Reading
reading_of format.TheVariants.Utf7 text = reading utf7 text
reading_of format.TheVariants.Jp2 text = reading jp2 text
reading_of format.TheVariants.Mailbox text = reading mailbox text

-- its cells, each with its bytes
abbrev pub marked_of : Format → List ℕ → List Marked
marked_of format.TheVariants.Utf7 text = marked_in utf7 utf7-spans.span_in text
marked_of format.TheVariants.Jp2 text = marked_in jp2 jp2-spans.span_in text
marked_of format.TheVariants.Mailbox text = marked_in mailbox mailbox-spans.span_in text

-- what the n-th step hands out, counted from 0
abbrev pub nth_gift : List ℕ → Reading → List Marked → ℕ → Gift
nth_gift text r marked n = gift {P = Unit} (nth_of (cells_of text marked) (answer_of text r) n tt)
