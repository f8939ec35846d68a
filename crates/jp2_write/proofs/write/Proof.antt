use mathlib.Core.Path.{◌≡◌, sym, ◌∙◌}
use mathlib.Core.Bool.{false}
use native.Mathlib.Omega.{arith}
use lib.ListN.{length}
use lib.Dec.{ltb}
use borrow.Author.Rules.{rules}
use borrow.Author.Tests.{ltb-false, lt-ltb, le-ltb}
use Rattle.answer.specs.Answer.{limit}
use Rattle.answer.specs.Lists.{Each}
use Rattle.answer.specs.Output.{deliver}
use Rattle.jp2.specs.Writable.{first_foreign}
use Rattle.jp2.specs.Writing.{writing, write_into}
use Rattle.jp2.proofs.Sets.{Writable}
use Rattle.jp2.proofs.Foreign.{all-writable}
use Rattle.jp2_write.proofs.write.Statement.{statement}
use Rattle.jp2_write.proofs.write.Tie as tie

-- the cells are not too many, and all of them are writable
within : (c : tie.Else-over_limit) → ltb limit (length c.args.cells.now) ≡ false
within c = sym c.over_limit.ensures ∙ c.if-over_limit.false

judged :
    (c : tie.Else-foreign-cells) → let cells = c.args.cells.now in
    ltb (first_foreign cells) (length cells) ≡ false
judged c = rw (sym c.survey_cells-s.ensures.judged) (le-ltb _ _ c.if-foreign-cells.false)

written : (c : tie.Else-foreign-cells) → Each Writable c.args.cells.now
written c = all-writable _ (ltb-false _ _ (judged c))

counted :
    (c : tie.Else-foreign-cells) → c.survey_cells-s.result.need ≡ length (writing c.args.cells.now)
counted c = c.survey_cells-s.ensures.counted c.if-foreign-cells.false

over-limit-requires : tie.Need-over_limit-requires
over-limit-requires c κs = search rules

too-long-requires : tie.Need-too_long-requires
too-long-requires c κs = search rules

returns : tie.Need-returns-then-over_limit
unfolding write_into
returns c = simp (sym c.over_limit.ensures ∙ c.if-over_limit.true, c.too_long.ensures)

survey-cells-requires : tie.Need-survey_cells-s-requires
survey-cells-requires c κs = ltb-false _ _ (within c)

returns-2 : tie.Need-returns-then-foreign-cells
unfolding write_into
returns-2 c = simp (within c.before.before, sym c.survey_cells-s.ensures.judged, lt-ltb _ _ c.if-foreign-cells.true)

returns-3 : tie.Need-returns-then-out-need
unfolding write_into deliver
returns-3 c =
    let e = c.before in
    simp (within e.before.before, judged e, sym (counted e), lt-ltb _ _ c.if-out-need.true)

write-all-requires : tie.Need-write_all-requires
write-all-requires c κs =
    let g = c.before in
    (written g.before, omega (arith, counted g.before, g.if-out-need.false))

same_length : tie.Need-shape_of-out
same_length c = search rules

returns-4 : tie.Need-returns
unfolding write_into deliver
returns-4 c =
    let w = c.before.before in
    let g = w.before.before in
    let e = g.before in
    simp (within e.before.before, judged e, sym (counted e), le-ltb _ _ g.if-out-need.false, w.write_all.ensures)

pub write_spec : {M : Type 1} → statement M
write_spec =
    tie.close
    (tie.spec
    over-limit-requires
    too-long-requires
    returns
    survey-cells-requires
    returns-2
    returns-3
    write-all-requires
    same_length
    returns-4)
