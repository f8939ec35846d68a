use mathlib.Core.Path.{refl}
use Rattle.comparer.specs.Compare.{unless_refused, verdict_in, parts_of}
use Rattle.comparer.specs.declared.Text.TheVariants.{Second}
use Rattle.comparer.proofs.Comparing.{judged-first, judged-second, judged, compared}
use Rattle.comparer.proofs.Judging.{same-itself, same_read}
use Rattle.comparer.proofs.compare.Goals as goal

pub returns-in-Err : goal.returns-in-Err
returns-in-Err c =
    let a = c.args in
    compared a.format a.first.now a.second.now
    (judged-first
    (unless_refused Second (verdict_in a.format a.second.now) (parts_of a.format a.first.now a.second.now)) c.in-Err.is)
    c.answer_of.ensures refl refl

pub returns-then-alike : goal.returns-then-alike
returns-then-alike c =
    rw (← c.alike.ensures c.if-alike.true)
    (same-itself c.args.format c.args.first.now _ (rw c.in-Ok.is at c.answer_of.ensures))

pub returns-in-Err-answer_of : goal.returns-in-Err-answer_of
returns-in-Err-answer_of c =
    let a = c.args in
    compared a.format a.first.now a.second.now
    (judged-second (parts_of a.format a.first.now a.second.now) c.in-Ok.is c.in-Err-answer_of.is)
    c.answer_of.ensures c.answer_of-2.ensures refl

pub returns-then-read_alike : goal.returns-then-read_alike
returns-then-read_alike c =
    let a = c.args in
    same_read a.format a.first.now a.second.now _ _ (rw c.in-Ok.is at c.answer_of.ensures)
    (rw c.in_default.is at c.answer_of-2.ensures) (c.read_alike.ensures c.if-read_alike.true).cells

pub returns : goal.returns
returns c =
    let a = c.args in
    compared a.format a.first.now a.second.now (judged _ c.in-Ok.is c.in_default.is) c.answer_of.ensures
    c.answer_of-2.ensures c.parting.ensures
