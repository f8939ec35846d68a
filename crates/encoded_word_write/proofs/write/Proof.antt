use Prim.Native.Nat.{◌≤◌}
use mathlib.Core.Path.{◌≡◌, sym, ◌∙◌}
use mathlib.Core.Bool.{false}
use native.Mathlib.Omega.{arith}
use lib.ListN.{length}
use lib.Dec.{ltb}
use borrow.Author.Tests.{ltb-false, lt-ltb, le-ltb}
use Rattle.answer.specs.Answer.{limit}
use Rattle.answer.specs.Output.{deliver}
use Rattle.utf7.specs.Writing.{first_over}
use Rattle.encoded_word.specs.Writing.{line_of, write_into}
use Rattle.encoded_word.proofs.Greedy.{line-few}
use Rattle.utf7.proofs.Pieces.{units-all}
use borrow.Author.Rules.{rules}
use Rattle.encoded_word_write.proofs.write.Statement.{statement}
use Rattle.encoded_word_write.proofs.write.Tie as tie
use Rattle.encoded_word_write.proofs.write.Lts.{then-out-units+else-out-need, else-out-units}

-- the cells are not too many, and all of them are units
within : (c : tie.Else-over_limit) → ltb limit (length c.args.units.now) ≡ false
within c = sym c.over_limit.ensures ∙ c.if-over_limit.false

judged :
    (c : tie.Else-over-units) → let us = c.args.units.now in
    ltb (first_over us) (length us) ≡ false
judged c = rw (sym c.first_over-over.ensures) (le-ltb _ _ c.if-over-units.false)

-- the output has room: it was counted, or is as long as any writing of so many units
room :
    (c : tie.Joined-out-units) → let a = c.args in
    length (line_of a.units.now) ≤ length a.out.now
room c =
    let a = c.args in
    elim c.if-out-units.branch [
      | then-out-units+else-out-need w ↦ omega arith
      | else-out-units w ↦ omega (arith, line-few a.units.now (units-all _ (ltb-false _ _ (judged c.before))))
    ]

over-limit-requires : tie.Need-over_limit-requires
over-limit-requires c κs = search rules

too-long-requires : tie.Need-too_long-requires
too-long-requires c κs = search rules

returns : tie.Need-returns-then-over_limit
unfolding write_into
returns c = simp (sym c.over_limit.ensures ∙ c.if-over_limit.true, c.too_long.ensures)

first-over-requires : tie.Need-first_over-over-requires
first-over-requires c κs = search rules

returns-2 : tie.Need-returns-then-over-units
unfolding write_into
returns-2 c = simp (within c.before.before, sym c.first_over-over.ensures, lt-ltb _ _ c.if-over-units.true)

size-requires : tie.Need-size-need-requires
size-requires c κs =
    (units-all _ (ltb-false _ _ (judged c.before)), ltb-false _ _ (within c.before.before.before))

returns-3 : tie.Need-returns-then-out-need
unfolding write_into deliver
returns-3 c =
    let s = c.before in
    let j = s.before.before in
    simp (within j.before.before, judged j, sym s.size-need.ensures, lt-ltb _ _ c.if-out-need.true)

put-line-requires : tie.Need-put_line-count-requires
put-line-requires c κs =
    (units-all _ (ltb-false _ _ (judged c.before.before)), ltb-false _ _ (within c.before.before.before.before), room c.before)

same_length : tie.Need-shape_of-out
same_length c = search rules

returns-4 : tie.Need-returns
unfolding write_into deliver
returns-4 c =
    let w = c.before.before in
    let r = w.before.before in
    let j = r.before in
    simp (within j.before.before, judged j, le-ltb _ _ (room r), w.put_line-count.ensures.0, w.put_line-count.ensures.1)

pub write_spec : {M : Type 1} → statement M
write_spec =
    tie.close
    (tie.spec
    over-limit-requires
    too-long-requires
    returns
    first-over-requires
    returns-2
    size-requires
    returns-3
    put-line-requires
    same_length
    returns-4)
