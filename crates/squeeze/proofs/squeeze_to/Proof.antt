use native.Mathlib.Omega.{arith}
use mathlib.Core.Path.{sym}
use lib.Seq.{length-take-le}
use Rattle.answer.proofs.Once.{limit-small}
use Rattle.ledger.specs.Page.{State, state_of}
use Rattle.squeeze.proofs.Folding.{no-gain, no_room, squeezed-so}
use borrow.Author.Rules.{rules}
use Rattle.squeeze.proofs.squeeze_to.Statement.{statement}
use Rattle.squeeze.proofs.squeeze_to.Tie as tie

add-size : tie.Need-overflow_add-size
add-size c =
    let a = c.args in
    let p = c.requires in
    omega (arith, limit-small, p.0.small.0)

add-size-2 : tie.Need-overflow_add-size-2
add-size-2 c =
    let a = c.args in
    let p = c.requires in
    omega (arith, limit-small, p.0.small.0, p.0.small.1)

no-gain-requires : tie.Need-no_gain-requires
no-gain-requires c κs = search rules

refused-requires : tie.Need-refused-requires
refused-requires c κs = search rules

returns : tie.Need-returns-then-old-size
returns c =
    let a = c.args in
    let p = c.requires in
    let s : State = state_of a.page a.text.now a.history.now in
    rw (c.refused.ensures, c.no_gain.ensures)
    (sym (no-gain s a.work.now a.fold p.0 (omega arith)))

refused-requires-2 : tie.Need-refused-requires-then-work-size
refused-requires-2 c κs = search rules

returns-2 : tie.Need-returns-then-work-size
returns-2 c =
    let a = c.args in
    let p = c.requires in
    let s : State = state_of a.page a.text.now a.history.now in
    rw c.refused-then-work-size.ensures (sym (no_room s a.work.now a.fold p.0 (omega arith) (omega arith)))

slice-aggregate-write-record : tie.Need-slice_bounds-write_record-end
slice-aggregate-write-record c =
    let a = c.args in
    let p = c.requires in
    sym (length-take-le a.page.length a.text.now p.1)

write-record-requires : tie.Need-write_record-requires
write-record-requires c κs = search rules

slice-reshare-prefix-splice-in : tie.Need-slice_bounds-splice_in-end
slice-reshare-prefix-splice-in c = search rules

slice-aggregate-splice-in : tie.Need-slice_bounds-splice_in-end-2
slice-aggregate-splice-in c =
    let w = c.write_record in
    sym (length-take-le _ w.new.work (omega arith))

splice-in-requires : tie.Need-splice_in-requires
splice-in-requires c κs = search rules

shrunk-requires : tie.Need-shrunk-requires
shrunk-requires c κs = search rules

same_length : tie.Need-shape_of-history
same_length c = search rules

same-length-2 : tie.Need-shape_of-work
same-length-2 c = search rules

returns-3 : tie.Need-returns
returns-3 c =
    let a = c.args in
    let p = c.requires in
    let s : State = state_of a.page a.text.now a.history.now in
    let w = c.write_record in
    let h = c.splice_in in
    rw c.shrunk.ensures
    (squeezed-so s a.work.now a.fold p.0
    (omega (
      arith,
      c.if-old-size.false,
    ))
    (omega (
      arith,
      c.if-work-size.false,
    ))
    p.2 p.3 p.4 w.new.work h.new.buffer w.ensures h.ensures.1)

pub squeeze_to_spec : {M : Type 1} → statement M
squeeze_to_spec =
    tie.close
    (tie.spec
    add-size
    add-size-2
    no-gain-requires
    refused-requires
    returns
    refused-requires-2
    returns-2
    slice-aggregate-write-record
    write-record-requires
    slice-reshare-prefix-splice-in
    slice-aggregate-splice-in
    splice-in-requires
    shrunk-requires
    same_length
    same-length-2
    returns-3)
