use Rattle.std.proofs.Common.{◌≡◌, arith, eq-eqb, ne_eqb, ◌∙◌}
use lib.ListN.{length-append}
use Rattle.answer.proofs.Put.{put-end, put-done}
use Rattle.listing.specs.Listing.{decimal, line, status_name}
use Rattle.listing.proofs.Lines.{put_first, last-room, put_last, name_of, answer-lines, answer-length}
use Rattle.listing.proofs.put_answer.Goals as goal
use Rattle.listing.proofs.put_answer.Goals.{then-number-eq0, else-number-eq0}

pub put_number-at-requires : goal.put_number-at-requires
put_number-at-requires c = simp length-append (omega (arith, answer-length c.args.number c.args.place, c.requires))

pub put_number-requires : goal.put_number-requires
put_number-requires c =
    let named : c.if-number-eq0.name ≡ name_of c.args.number =
    elim c.if-number-eq0.branch [
      | then-number-eq0 w ↦ rw (eq-eqb _ 0 w.if-number-eq0.true) w.name-is
      | else-number-eq0 w ↦ rw (ne_eqb _ 0 w.if-number-eq0.false) w.name-is
    ] in
    last-room (put_first (line status_name (decimal c.args.number)) _ (answer-lines _ _ ∙ rw named) c.requires c.put_number-at.ensures)

pub returns : goal.returns
returns c =
    let named : c.if-number-eq0.name ≡ name_of c.args.number =
    elim c.if-number-eq0.branch [
      | then-number-eq0 w ↦ rw (eq-eqb _ 0 w.if-number-eq0.true) w.name-is
      | else-number-eq0 w ↦ rw (ne_eqb _ 0 w.if-number-eq0.false) w.name-is
    ] in
    let begun = put_first (line status_name (decimal c.args.number)) _ (answer-lines _ _ ∙ rw named) c.requires c.put_number-at.ensures in
    let p = put_last begun c.put_number.ensures in
    (put-end p, put-done p)
