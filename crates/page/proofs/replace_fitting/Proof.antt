use native.Mathlib.Omega.{arith}
use mathlib.Core.Path.{sym}
use Rattle.answer.proofs.Once.{limit-small}
use Rattle.ledger.specs.Page.{State, state_of}
use Rattle.page.proofs.Replacings.{no_room, no_words, length_part, replaced-is}
use borrow.Author.Rules.{rules}
use Rattle.page.proofs.replace_fitting.Statement.{statement}
use Rattle.page.proofs.replace_fitting.Tie as tie

sub-length : tie.Need-overflow_sub-length
sub-length c = search rules

add-length : tie.Need-overflow_add-length
add-length c = search rules

refused-requires : tie.Need-refused-requires
refused-requires c κs = search rules

returns : tie.Need-returns-then-text-length
returns c =
    let a = c.args in
    let s : State = state_of a.page a.text.now a.history.now in
    rw c.refused.ensures (sym (no_room s a.place a.count a.cells.now (omega arith) (omega arith) (omega arith)))

add-used : tie.Need-overflow_add-used
add-used c = search rules

add-used-2 : tie.Need-overflow_add-used-2
add-used-2 c = search rules

add-used-3 : tie.Need-overflow_add-used-3
add-used-3 c = search rules

refused-requires-2 : tie.Need-refused-requires-then-history-used
refused-requires-2 c κs = search rules

returns-2 : tie.Need-returns-then-history-used
returns-2 c =
    let a = c.args in
    let s : State = state_of a.page a.text.now a.history.now in
    rw c.refused-then-history-used.ensures (sym (no_words s a.place a.count a.cells.now (omega arith) (omega arith) (omega arith) (omega arith)))

add-end : tie.Need-overflow_add-end
add-end c = search rules

mul-put-record : tie.Need-offset_bounds-text-place
mul-put-record c = search rules

sub-put-record : tie.Need-slice_bounds-put_record-count
sub-put-record c = search rules

part-put-record-start : tie.Need-slice_bounds-put_record-start
part-put-record-start c = search rules

part-put-record-end : tie.Need-slice_bounds-put_record-end
part-put-record-end c = search rules

put-record-requires : tie.Need-put_record-requires
put-record-requires c κs =
    let b = c in
    let a = b.args in
    let p = b.requires in
    let s : State = state_of a.page a.text.now a.history.now in
    let k = c.if-history-used.false in
    let n = length_part s a.place a.count a.cells.now (omega (arith, p)) (omega (arith, p)) in
    (p.3, omega (arith, p), omega (arith, p, k), omega (arith, p, limit-small), omega (arith, p, limit-small), omega (arith, p, limit-small))

mark-left-requires : tie.Need-mark_left-saved-requires
mark-left-requires c κs = search rules

accept-requires : tie.Need-accept-requires
accept-requires c κs = search rules

same_length : tie.Need-shape_of-text
same_length c = search rules

same-length-2 : tie.Need-shape_of-history
same-length-2 c = search rules

returns-3 : tie.Need-returns
returns-3 c =
    let a = c.args in
    let s : State = state_of a.page a.text.now a.history.now in
    let p = c.requires in
    let e = c.accept in
    let h = c.put_record in
    replaced-is s a.place a.count a.cells.now p.0 p.1.fits e.result e.new.text h.new.history (omega (arith, c.if-text-length.false)) (omega (arith, c.if-history-used.false)) _ c.mark_left-saved.ensures e.ensures.0 e.ensures.1 h.ensures

pub replace_fitting_spec : {M : Type 1} → statement M
replace_fitting_spec =
    tie.close
    (tie.spec
    sub-length
    add-length
    refused-requires
    returns
    add-used
    add-used-2
    add-used-3
    refused-requires-2
    returns-2
    add-end
    mul-put-record
    sub-put-record
    part-put-record-start
    part-put-record-end
    put-record-requires
    mark-left-requires
    accept-requires
    same_length
    same-length-2
    returns-3)
