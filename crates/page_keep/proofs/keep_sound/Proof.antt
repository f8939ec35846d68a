use mathlib.Core.Path.{sym, ◌∙◌}
use native.Mathlib.Omega.{arith}
use Rattle.page_file.specs.File.{file_of}
use Rattle.page_keep.specs.Inner.{content_by}
use Rattle.page_keep.proofs.Keeping.{no_room, has_room}
use borrow.Author.Rules.{rules}
use Rattle.page_keep.proofs.keep_sound.Statement.{statement}
use Rattle.page_keep.proofs.keep_sound.Tie as tie

belongs-requires : tie.Need-belongs-requires
belongs-requires c κs = search rules

returns : tie.Need-returns-then-not-belongs
returns c =
    let belongs' = c.belongs in
    let if1' = c.if-not-belongs in
    rw (sym belongs'.ensures ∙ if1'.true)

is-long-requires : tie.Need-is_long-two-requires
is-long-requires c κs = search rules

size-of-requires : tie.Need-size_of-size-requires
size-of-requires c κs = search rules

returns-2 : tie.Need-returns-then-out-size
returns-2 c =
    let a = c.args in
    let belongs' = c.belongs in
    let if1' = c.if-not-belongs in
    let size-of' = c.size_of-size in
    rw (sym belongs'.ensures ∙ if1'.false) (no_room
    (file_of (content_by a.page a.cells.now a.words.now a.arrived.now)) a.out.now
    size-of'.ensures (omega arith))

put-file-requires : tie.Need-put_file-requires
put-file-requires c κs =
    let is-long' = c.is_long-two in
    let size-of' = c.size_of-size in
    (is-long'.ensures, omega (arith, size-of'.ensures))

same_length : tie.Need-shape_of-out
same_length c = search rules

returns-3 : tie.Need-returns
returns-3 c =
    let a = c.args in
    let belongs' = c.belongs in
    let if1' = c.if-not-belongs in
    let size-of' = c.size_of-size in
    let put-file' = c.put_file in
    rw (sym belongs'.ensures ∙ if1'.false) (has_room
    (file_of (content_by a.page a.cells.now a.words.now a.arrived.now)) a.out.now
    size-of'.ensures (omega arith) put-file'.ensures)

pub keep_sound_spec : {M : Type 1} → statement M
keep_sound_spec =
    tie.close
    (tie.spec
    belongs-requires
    returns
    is-long-requires
    size-of-requires
    returns-2
    put-file-requires
    same_length
    returns-3)
