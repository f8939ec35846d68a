use mathlib.Core.Path.{◌≡◌, refl, sym, ap, ◌∙◌}
use mathlib.Core.Bool.{false}
use lib.ListN.{length}
use lib.Dec.{ltb}
use Rattle.std.specs.declared.result.Result.TheVariants.{Err}
use Rattle.std.proofs.lemmas.Result.{err_from_is_err_and}
use Rattle.answer.specs.Answer.{in_numbers, limit}
use Rattle.reading.proofs.Filling.{into-long, into-refused, into-room, into-short, into-filled}
use Rattle.commands.proofs.Kept.{numbers-kept}
use Rattle.commands.proofs.numbers.read.Goals as goal

pub returns-then-over_limit : goal.returns-then-over_limit
returns-then-over_limit c = into-long (numbers-kept _) _ _ c.too_long.result (sym c.over_limit.ensures ∙ c.if-over_limit.true) c.too_long.ensures

pub returns-in_err-n : goal.returns-in_err-n
returns-in_err-n c =
    let p = err_from_is_err_and c.from_residual.result c.from_residual.ensures.1 in
    into-refused (numbers-kept _) _ _ (sym c.over_limit.ensures ∙ c.if-over_limit.false)
    (ap in_numbers (p.1 ∙ (ap Err p.2 ∙ sym c.in_err-n.was)) ∙ c.count.ensures) p.1

pub returns-then-out-n : goal.returns-then-out-n
returns-then-out-n c =
    into-short (numbers-kept _) _ _ (sym c.over_limit.ensures ∙ c.if-over_limit.false) c.count.ensures c.in_ok-n.was c.if-out-n.true

pub fill-requires : goal.fill-requires
fill-requires c =
    into-room (numbers-kept _) _ c.args.out.now (sym c.over_limit.ensures ∙ c.if-over_limit.false) c.count.ensures c.in_ok-n.was c.if-out-n.false

pub returns : goal.returns
returns c =
    into-filled (numbers-kept _) _ _ (sym c.over_limit.ensures ∙ c.if-over_limit.false)
    (sym (ap in_numbers c.in_ok-n.was) ∙ c.count.ensures) refl c.if-out-n.false c.fill.ensures
