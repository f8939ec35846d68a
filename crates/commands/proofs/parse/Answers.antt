use native.Mathlib.Omega.{arith}
use Rattle.commands.proofs.Words.{end-within, said-by}
use Rattle.commands.proofs.parse.Goals as goal

pub past-to-requires : goal.past-to-requires
past-to-requires c = rw c.past-from.ensures (end-within _ _ 0 (omega arith))

pub past-rest-requires : goal.past-rest-requires
past-rest-requires c = rw c.past-to.ensures (end-within _ _ _ (rw c.past-from.ensures (end-within _ _ 0 (omega arith))))

pub slice_bounds-verb_of-end : goal.slice_bounds-verb_of-end
slice_bounds-verb_of-end c =
    rw c.past-to.ensures (end-within _ _ _ (rw c.past-from.ensures (end-within _ _ 0 (omega arith))))

pub returns : goal.returns
returns c = said-by _ c.past-from.ensures c.past-to.ensures c.past-rest.ensures c.verb_of-verb.ensures
