use native.Mathlib.Omega.{arith}
use mathlib.Core.Path.{refl, sym}
use lib.Seq.{length-take-le}
use Rattle.encoded_word_read.proofs.Words.{took, untouched}
use borrow.Author.Rules.{rules}
use Rattle.encoded_word_read.proofs.word_cells.Statement.{statement}
use Rattle.encoded_word_read.proofs.word_cells.Tie as tie

word-at-requires : tie.Need-word_at-w-requires
word-at-requires c κs = search rules

same_length : tie.Need-shape_of-bytes-then-end-at
same_length c = search rules

returns : tie.Need-returns-then-end-at
returns c = (λ h. absurd (omega (arith, h)), λ _. refl)

slice-reshare-prefix-read : tie.Need-slice_bounds-read-end
slice-reshare-prefix-read c = c.word_at-w.ensures.0

slice-aggregate-read : tie.Need-slice_bounds-read-end-2
slice-aggregate-read c =
    let w = c.word_at-w in
    sym (length-take-le w.result.count w.new.bytes w.ensures.0)

read-requires : tie.Need-read-requires
read-requires c κs = search rules

enum-known-n : tie.Need-enum_known-n
enum-known-n c = search rules

enum_told : tie.Need-enum_told-1
enum_told c = search rules

same-length-2 : tie.Need-shape_of-bytes-in-Ok
same-length-2 c = search rules

same-length-3 : tie.Need-shape_of-out-in-Ok
same-length-3 c = search rules

returns-2 : tie.Need-returns-in-Ok
returns-2 c =
    let w = c.word_at-w in
    let t = took _ _ _ _ c.read.ensures c.in-Ok.is in (
      λ h. record { cells = _; stride = w.ensures.1 h t.0; so = t.1; size = t.2 },
      λ h. absurd (omega (arith, h, c.if-end-at.false)),
    )

same-length-4 : tie.Need-shape_of-bytes-in-Err
same-length-4 c = search rules

same-length-5 : tie.Need-shape_of-out-in-Err
same-length-5 c = search rules

returns-3 : tie.Need-returns-in-Err
returns-3 c =
    let u = untouched _ _ _ _ c.read.ensures c.in-Err.is in
    (λ h. absurd (omega (arith, h)), λ _. u)

pub word_cells_spec : {M : Type 1} → statement M
word_cells_spec =
    tie.close
    (tie.spec
    word-at-requires
    same_length
    returns
    slice-reshare-prefix-read
    slice-aggregate-read
    read-requires
    enum-known-n
    enum_told
    same-length-2
    same-length-3
    returns-2
    same-length-4
    same-length-5
    returns-3)
