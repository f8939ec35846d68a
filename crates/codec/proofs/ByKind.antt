-- What the page needs of the codec: reading into an output and writing into one have one form in every format; no fault
-- has the number 0; and accepted bytes read as their own cells. Assumes nothing.
use Prim.Native.Nat.{ℕ}
use mathlib.Core.Path.{◌≡◌, refl}
use mathlib.Core.Bool.{true, cond}
use mathlib.Core.List.{List, [], ◌∷◌}
use lib.ListN.{length}
use lib.Dec.{ltb}
use borrow.Author.Tests.{eq-eqb}
use Rattle.answer.specs.Answer.{limit, too_long}
use Rattle.answer.specs.Output.{refusing, written}
use Rattle.reading.specs.Reading.{accepted, on_ending, read_into}
use Rattle.reading.proofs.Laws.{SoundEnd, good-reading}
use Rattle.utf7.specs.Writing as utf7-writing
use Rattle.jp2.specs.Writing as jp2-writing
use Rattle.utf7.proofs.Kept.{utf7-kept}
use Rattle.jp2.proofs.Kept.{jp2-kept}
use Rattle.mailbox.proofs.Kept.{mailbox-kept}
use Rattle.reading.specs.Matching.{same_cells}
use Rattle.codec.specs.declared.Format.{Format}
use Rattle.codec.specs.declared.Format.TheVariants.{Utf7, Jp2, Mailbox}
use Rattle.codec.specs.declared.Kind.{Kind}
use Rattle.codec.specs.declared.Kind.TheVariants.{Utf7Header, Utf7Body}
use Rattle.codec.specs.declared.Kind.TheVariants as kind
use Rattle.codec.specs.Kinds.{format_of, reading_of, reading_in, read_in, reads_in, reads_as}
use Rattle.codec.specs.Kinds.{first_unwritable, writing_in, write_in}

pub read-form :
    (format : Format) (text out : List ℕ) →
    read_in format text out ≡
    cond (ltb limit (length text)) (refusing too_long out)
    (on_ending (reading_of format text).ending (reading_of format text).cells out)
unfolding read_in read_into reading_of
read-form Utf7 text out = refl
read-form Jp2 text out = refl
read-form Mailbox text out = refl

pub write-form :
    (kind : Kind) (cells out : List ℕ) →
    write_in kind cells out ≡ written cells (first_unwritable kind cells) (writing_in kind cells) out
unfolding write_in first_unwritable writing_in utf7-writing.write_into jp2-writing.write_into
write-form Utf7Header cells out = refl
write-form Utf7Body cells out = refl
write-form kind.Jp2 cells out = refl

pub fault-in : (format : Format) (text : List ℕ) → SoundEnd (reading_of format text).ending
unfolding reading_of
fault-in Utf7 text = (good-reading utf7-kept text).1
fault-in Jp2 text = (good-reading jp2-kept text).1
fault-in Mailbox text = (good-reading mailbox-kept text).1

pub fault-numbered : (kind : Kind) (text : List ℕ) → SoundEnd (reading_in kind text).ending
fault-numbered kind text = fault-in (format_of kind) text

same-cells : (cells : List ℕ) → same_cells cells cells ≡ true
unfolding same_cells
same-cells [] = refl
same-cells (x ∷ xs) = rw (eq-eqb x x refl) (same-cells xs)

pub reads-itself :
    (kind : Kind) (bytes : List ℕ) → (reading_in kind bytes).ending ≡ accepted →
    reads_as kind bytes (reading_in kind bytes).cells ≡ true
unfolding reads_in
reads-itself kind bytes e = rw e (same-cells (reading_in kind bytes).cells)
