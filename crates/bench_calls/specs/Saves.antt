-- What save and the question look at: a bench as a page whose words done are its standing steps.
use Rattle.answer.specs.Answer.{Answer}
use Rattle.std.specs.Prelude.{ℕ, cond, List, take, eqb, Some, Ok, Err}
use Rattle.ledger.specs.declared.Page.{Page}
use Rattle.benches.specs.declared.Bench.{Bench}
use Rattle.benches.specs.declared.Benches.{Benches}
use Rattle.benches.specs.Layout.{marked_as}

abbrev pub page_of : Bench → Page
page_of b =
    record {
      kind = b.kind;
      opening = b.opening;
      length = b.length;
      used = 0;
      done = b.standing;
      saved = b.saved;
    }

-- the bench that a save with this answer gives back
abbrev pub saved_bench : Bench → Answer → Bench
saved_bench b (Ok n) = marked_as b (Some b.standing)
saved_bench b (Err deny) = b

-- the cells of the caller's text
abbrev pub cells_at : Benches → ℕ → List ℕ → List ℕ → List ℕ
cells_at b n text0 text1 = cond (eqb n 0) (take b.bench0.length text0) (take b.bench1.length text1)
