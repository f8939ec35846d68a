use Rattle.std.proofs.Common.{sym, ◌∙◌, arith}
use Rattle.records.proofs.Judging.{unframed, broken-standing, other_length, broken-undone, both-led}
use Rattle.page_read.proofs.Sounds.{no-opening, no-done, no-mark, all-bounded, standing-walk, undone-walk}
use Rattle.page_read.proofs.walk.survey.Goals as goal
use Rattle.page_read.proofs.walk.survey.Goals.{then-room-page-via-then-room-page, then-room-page-via-else-room-page+then-n-page, then-room-page-via-else-room-page+else-n-page+then-not-mark_within}

pub returns-then-room-page : goal.returns-then-room-page
returns-then-room-page c =
    let a = c.args in
    elim c.then-room-page.branch [
      | then-room-page-via-then-room-page w ↦ λ t h f. sym (unframed a.page t h (no-opening f (omega arith)))
      | then-room-page-via-else-room-page+then-n-page w ↦
          λ t h f. sym (unframed a.page t h (no-done f (omega arith) (omega arith)))
      | then-room-page-via-else-room-page+else-n-page+then-not-mark_within w ↦
          λ t h f. sym (unframed a.page t h (no-mark f (omega arith) (omega arith)
          (sym w.mark_within.ensures ∙ w.if-not-mark_within.true)))
    ]

pub returns-in_err-reached : goal.returns-in_err-reached
returns-in_err-reached c =
    let a = c.args in
    λ t h f. c.from_residual.ensures
    ∙ sym
    (broken-standing a.page t h (all-bounded f (omega (arith, c.if-room-page.false)) (omega (arith, c.if-n-page.false))
    (sym c.mark_within.ensures ∙ c.if-not-mark_within.false))
    (standing-walk f (omega (arith, c.if-room-page.false)) (omega (arith, c.if-n-page.false)) c.walk_marked.ensures)
    c.in_err-reached.was)

pub returns-then-reached-page : goal.returns-then-reached-page
returns-then-reached-page c =
    let a = c.args in
    λ t h f. sym
    (other_length a.page t h (all-bounded f (omega (arith, c.if-room-page.false)) (omega (arith, c.if-n-page.false))
    (sym c.mark_within.ensures ∙ c.if-not-mark_within.false))
    (standing-walk f (omega (arith, c.if-room-page.false)) (omega (arith, c.if-n-page.false)) c.walk_marked.ensures)
    c.in_ok-reached.was c.if-reached-page.true)

pub returns-in_err-walk_marked : goal.returns-in_err-walk_marked
returns-in_err-walk_marked c =
    let a = c.args in
    λ t h f. c.from_residual-in_err-walk_marked.ensures
    ∙ sym
    (broken-undone a.page t h (all-bounded f (omega (arith, c.if-room-page.false)) (omega (arith, c.if-n-page.false))
    (sym c.mark_within.ensures ∙ c.if-not-mark_within.false))
    (undone-walk f (omega (arith, c.if-room-page.false)) (omega (arith, c.if-n-page.false)) c.walk_marked-2.ensures)
    c.in_err-walk_marked.was)

pub returns : goal.returns
returns c =
    let a = c.args in
    let q = c.in_ok-walk_marked.field-0 in
    λ t h f. sym
    (both-led a.page t h (all-bounded f (omega (arith, c.if-room-page.false)) (omega (arith, c.if-n-page.false))
    (sym c.mark_within.ensures ∙ c.if-not-mark_within.false)) {m = q.0} {k = q.1}
    (standing-walk f (omega (arith, c.if-room-page.false)) (omega (arith, c.if-n-page.false)) c.walk_marked.ensures)
    c.in_ok-reached.was c.if-reached-page.false
    (undone-walk f (omega (arith, c.if-room-page.false)) (omega (arith, c.if-n-page.false)) c.walk_marked-2.ensures)
    c.in_ok-walk_marked.was)
