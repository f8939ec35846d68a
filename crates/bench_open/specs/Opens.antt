-- What one open of two benches gives back.
use Rattle.std.specs.Prelude.{ℕ, ◌+◌, cond, ltb, eqb, Ok}
use Rattle.answer.specs.Answer.{Verdict, numbered, Answer}
use Rattle.codec.specs.declared.Kind.{Kind}
use Rattle.ledger.specs.declared.Page.{Page}
use Rattle.benches.specs.declared.Bench.{Bench}
use Rattle.benches.specs.declared.Edited.{Edited}
use Rattle.benches.specs.Words.{Both}
use Rattle.benches.specs.Calls.{no_bench}

abbrev pub both_of : {A : Type 0} → A → A → Both A
both_of a b = record { bench0 = a; bench1 = b }

-- what a reading into no room answered, in a room of so many cells
abbrev pub in_room : ℕ → Verdict → Verdict
in_room room v = cond (eqb v.number 9) (cond (ltb room v.place) v (numbered 0 v.place)) v

abbrev pub refused_with : Kind → Kind → Answer → Edited
refused_with kind0 kind1 answer =
    record { answer = answer; benches = record { bench0 = no_bench kind0; bench1 = no_bench kind1; used = 0 } }

-- the bench of a page just opened
abbrev pub bench_of : Page → Bench
bench_of p =
    record { kind = p.kind; opening = p.opening; length = p.length; standing = 0; saved = p.saved }

abbrev pub opened_with : Page → Page → Edited
opened_with p q =
    record {
      answer = Ok (p.length + q.length);
      benches = record { bench0 = bench_of p; bench1 = bench_of q; used = 0 };
    }
