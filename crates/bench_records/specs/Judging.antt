-- What the code finds of a bench, over its words.
use Rattle.std.specs.Prelude.{ℕ, Bool, cond, ◌&&◌, List, length, drop, leb, eqb, Option, None, Some, Err}
use Rattle.std.specs.declared.result.Result.{Result}
use Rattle.std.specs.Option.{ok_or}
use Rattle.answer.specs.Answer.{limit}
use Rattle.answer.specs.declared.Refusal.{Refusal}
use Rattle.answer.specs.declared.Refused.{Refused}
use Rattle.answer.specs.declared.Refusal.TheVariants.{Unsound, OverLimit, NoSuchBench}
use Rattle.ledger.specs.Words.{zeros}
use Rattle.ledger.specs.Parts.{mark_within}
use Rattle.benches.specs.declared.Bench.{Bench}
use Rattle.benches.specs.Words.{Side, number_of, side_of, at, Record}
use Rattle.benches.specs.Benches.{State, records}
use Rattle.benches.specs.Layout.{long}
use Rattle.bench_records.specs.declared.Pass.{Pass}
use Rattle.bench_records.specs.Passing.{Passed, passed, begun}
use Rattle.bench_records.specs.Turning.{side_at, pass_in}

abbrev pub text_fits : Bench → List ℕ → Bool
text_fits b text =
    leb b.opening (length text) && leb b.length (length text) && zeros (drop b.length text)

abbrev pub leads_as : Bench → Pass → Bool
leads_as b p = leb b.standing p.seen && mark_within p.seen b.saved && eqb p.stood b.length

abbrev pub fitted_by : Bench → Passed → Passed
fitted_by b None = None
fitted_by b (Some p) = cond (leads_as b p) (Some p) None

-- by its own records among these words
unfoldable pub fitted_of : Bench → List ℕ → ℕ → ℕ → List ℕ → Passed
fitted_of b text used mine words =
    cond (text_fits b text)
    (fitted_by b (pass_in (length text) b.standing mine 0 (begun b.opening used) words))
    None

-- where the pass of a bench stands, over the records of sound benches
abbrev pub pass_at : State → List Record → Side → Passed
pass_at t rs s =
    passed (length (at t.texts s)) (at t.benches s).standing s 0
    (begun (at t.benches s).opening t.used) rs

abbrev pub judged_at : State → ℕ → Option (List Record) → Passed
judged_at t mine None = None
judged_at t mine (Some rs) = pass_at t rs (side_at mine)

-- a refusal, or where the pass stands
abbrev pub Judged : Type 0
Judged = Result Pass Refused

abbrev pub unfit : Refusal → ℕ → Judged
unfit why place = Err (record { 0 = why; 1 = place })

-- 14, or where the pass stands
abbrev pub sound_by : Passed → Judged
sound_by found = ok_or found (record { 0 = Unsound; 1 = 0 })

-- 20, then 14
abbrev pub named_by : State → Option Side → Judged
named_by t None = unfit NoSuchBench 0
named_by t (Some s) = sound_by (judged_at t (number_of s) (records t))

-- 16 comes first
unfoldable pub judge_of : State → ℕ → Judged
judge_of t n = cond (long t) (unfit OverLimit limit) (named_by t (side_of n))
