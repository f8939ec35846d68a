use Rattle.page.proofs.Recording.{record-put}
use borrow.Author.Rules.{rules}
use Rattle.page.proofs.put_record.Statement.{statement}
use Rattle.page.proofs.put_record.Tie as tie

cast-t10 : tie.Need-overflow_cast-head
cast-t10 c = search rules

cast-t12 : tie.Need-overflow_cast-head-2
cast-t12 c = search rules

cast-t14 : tie.Need-overflow_cast-head-3
cast-t14 c = search rules

sub-splice-in : tie.Need-overflow_sub-used
sub-splice-in c = search rules

slice-aggregate-splice-in : tie.Need-slice_bounds-splice_in-end
slice-aggregate-splice-in c = search rules

splice-in-requires : tie.Need-splice_in-first-requires
splice-in-requires c κs = search rules

splice-in-requires-2 : tie.Need-splice_in-second-requires
splice-in-requires-2 c κs = search rules

splice-in-requires-3 : tie.Need-splice_in-requires
splice-in-requires-3 c κs = search rules

same_length : tie.Need-shape_of-history
same_length c = search rules

returns : tie.Need-returns
returns c =
    let a = c.args in
    let p = c.requires in
    let e₁ = c.splice_in-first in
    let e₂ = c.splice_in-second in
    let e₃ = c.splice_in in
    record-put a.history.now a.removed.now a.added.now a.used a.at a.place p.0 p.1 p.2 e₁.new.buffer e₂.new.buffer e₃.new.buffer
    e₁.result e₂.result e₁.ensures e₂.ensures e₃.ensures.1

pub put_record_spec : {M : Type 1} → statement M
put_record_spec =
    tie.close
    (tie.spec
    cast-t10
    cast-t12
    cast-t14
    sub-splice-in
    slice-aggregate-splice-in
    splice-in-requires
    splice-in-requires-2
    splice-in-requires-3
    same_length
    returns)
