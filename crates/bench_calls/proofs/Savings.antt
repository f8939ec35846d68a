-- What save and the question of a bench give. Assumes nothing.
use Prim.Native.Nat.{ℕ, zero, suc, ◌≤◌}
use mathlib.Core.Path.{◌≡◌, refl, sym, ap, ◌∙◌}
use mathlib.Core.Bool.{Bool, true, false}
use mathlib.Core.List.{List, reverse}
use Rattle.std.specs.declared.result.Result.TheVariants.{Ok, Err}
use Rattle.std.specs.Prelude.{Option, None, Some, Ok}
use native.Mathlib.Omega.{arith}
use lib.ListN.{length, take}
use lib.Dec.{eqb}
use borrow.Author.Tests.{eqb-true, eqb-false, eq-eqb, ne_eqb}
use Rattle.answer.specs.Answer.{Verdict, numbered, number_of, in_numbers, too_long, Answer}
use Rattle.answer.specs.Output as output
use Rattle.answer.proofs.Once.{number-pos}
use Rattle.editor.specs.Ledger.{save}
use Rattle.editor.specs.Marks.{unchanged_at}
use Rattle.editor.specs.Editor.{Editor, over, saved_as, save_standing}
use Rattle.editor.specs.Layout.{refusing, laid, call_on}
use Rattle.editor.specs.Layout as layout
use Rattle.page.specs.Outcomes.{saved_in, saved_page}
use Rattle.benches.specs.declared.Bench.{Bench}
use Rattle.benches.specs.declared.Benches.{Benches}
use Rattle.benches.specs.declared.Edited.{Edited}
use Rattle.benches.specs.Words.{Side, first, second, side_of, at, put, Record, own}
use Rattle.benches.specs.Benches.{State, state_of, Outcome, leaves}
use Rattle.benches.specs.Layout.{editor_of, editor_for, space_in, marked_as, bench}
use Rattle.benches.specs.Calls.{outcome_at, save_of, reply_at, unchanged_of}
use Rattle.bench_records.specs.declared.Pass.{Pass}
use Rattle.bench_records.specs.Judging.{Judged, judge_of}
use Rattle.bench_records.proofs.Found.{Fit, fit-first, second-named, fit-second}
use Rattle.bench_records.proofs.Ended.{fitting, lengths-fit}
use Rattle.bench_calls.specs.declared.Turned.{Turned}
use Rattle.bench_calls.specs.Leaving.{bench_at, turned_at}
use Rattle.bench_calls.specs.Saves.{page_of, saved_bench, cells_at}
use Rattle.bench_calls.proofs.Turns.{Picked, picked, back-picked}

-- the mark that the page gives back is the bench's
pub saved-bench : (b : Bench) (a : Answer) → marked_as b (saved_page (page_of b) a).saved ≡ saved_bench b a
saved-bench b (Ok n) = refl
saved-bench b (Err deny) = refl

-- a save of a bench: its bench, the answer and the output
abbrev saved_at : State → Side → Bench → Verdict → List ℕ → Outcome
saved_at t s b v out =
    record {
      verdict = v;
      state = record { benches = put t.benches s b; used = t.used; texts = t.texts; history = t.history };
      output = out;
    }

same-saved :
    (t : State) (s : Side) (v : Verdict) (out : List ℕ) → saved_at t s (at t.benches s) v out ≡ refusing t out v
same-saved t first v out = refl
same-saved t second v out = refl

saved-as :
    (t : State) (s : Side) (e : Editor) (a : Answer) (out : List ℕ) →
    saved_at t s (saved_bench (at t.benches s) a) (in_numbers a) out
    ≡ laid (bench s) t (saved_as (space_in t s) e (output.leaves a out))
saved-as t s e (Ok n) out = refl
saved-as t s e (Err deny) out =
    rw (ne_eqb (number_of deny.0) 0 (λ (z : number_of deny.0 ≡ 0). omega (arith, number-pos deny.0)))
    (same-saved t s (numbered (number_of deny.0) deny.1) out)

module _ {t : State} {s : Side} {p : Pass} (f : Fit t s p) where
  abbrev b : Bench
  b = at t.benches s

  abbrev text : List ℕ
  text = at t.texts s

  abbrev editor : Editor
  editor = editor_of b text (own s f.rs)

  module _ (arrived out : List ℕ) where
    standing-saved :
        (n : ℕ) → b.standing ≡ n →
        save_standing (space_in t s) editor arrived out editor.standing
        ≡ saved_as (space_in t s) editor (saved_in (page_of b) (take b.length text) arrived out)
    unfolding save_standing
    standing-saved zero q = rw q
    standing-saved (suc k) q =
        let c : Picked k (own s f.rs) = picked k (own s f.rs) (omega (arith, (fitting f).few)) in
        rw (ne_eqb b.standing 0 (λ (z : b.standing ≡ 0). omega arith))
        (ap (save_standing (space_in t s) editor arrived out)
        (ap (λ (n : ℕ). reverse (take n (own s f.rs))) q ∙ back-picked c))

    save-is :
        over arrived ≡ false →
        outcome_at t (Some s) (save arrived out)
        ≡ laid (bench s) t (save_standing (space_in t s) editor arrived out editor.standing)
    unfolding outcome_at layout.outcome_of call_on
    save-is few =
        rw (few, f.short)
        (ap (λ (x : Option (List Record)). call_on (bench s) t (save arrived out) (editor_for t s x)) f.found)

    saved-is :
        over arrived ≡ false → (a : Answer) (out' : List ℕ) →
        output.leaves a out' ≡ saved_in (page_of b) (take b.length text) arrived out →
        saved_at t s (saved_bench b a) (in_numbers a) out' ≡ outcome_at t (Some s) (save arrived out)
    saved-is few a out' e =
        saved-as t s editor a out'
        ∙ ap (λ (o : output.Outcome). laid (bench s) t (saved_as (space_in t s) editor o)) e
        ∙ sym (ap (laid (bench s) t) (standing-saved b.standing refl))
        ∙ sym (save-is few)

  asked_is : reply_at t (Some s) ≡ record { verdict = numbered 0 0; unchanged = unchanged_at b.standing b.saved }
  unfolding reply_at layout.reply_of
  asked_is = rw (f.short, f.found)

-- as the code has it: the caller is bench 0, or else bench 1
module _ (b : Benches) (text0 text1 history : List ℕ) (n : ℕ) where
  abbrev t : State
  t = state_of b text0 text1 history

  module _ {j : Judged} {p : Pass} (d : j ≡ judge_of t n) (e : j ≡ Ok p) where
    pub texts-fit : (b.bench0.length ≤ length text0) × (b.bench1.length ≤ length text1)
    texts-fit = by n refl
      where
        both-fit : {s : Side} → Fit t s p → (b.bench0.length ≤ length text0) × (b.bench1.length ≤ length text1)
        both-fit f = (lengths-fit f first, lengths-fit f second)

        by : (k : ℕ) → n ≡ k → (b.bench0.length ≤ length text0) × (b.bench1.length ≤ length text1)
        by zero q = both-fit (fit-first t n d e q)
        by (suc k) q = both-fit (fit-second t n d e (λ (z : n ≡ 0). omega arith))

    pub saved-given :
        (arrived out out' : List ℕ) (r : Edited) → over arrived ≡ false →
        r.benches ≡ turned_at b n (saved_bench (bench_at b n) r.answer) →
        output.leaves r.answer out' ≡ saved_in (page_of (bench_at b n)) (cells_at b n text0 text1) arrived out →
        leaves r text0 text1 history out' ≡ save_of t n arrived out
    saved-given arrived out out' r few q o = by (eqb n 0) refl
      where
        by : (w : Bool) → eqb n 0 ≡ w → leaves r text0 text1 history out' ≡ save_of t n arrived out
        by true z =
            let zero' : n ≡ 0 = eqb-true n 0 z in
            rw (q, z, zero')
            (saved-is (fit-first t n d e zero') arrived out few r.answer out' (rw z at o))
        by false z =
            let other : n ≡ 0 → ⊥ = eqb-false n 0 z in
            rw (q, z, second-named t n d e other)
            (saved-is (fit-second t n d e other) arrived out few r.answer out' (rw z at o))

    pub asked-given :
        unchanged_of t n
        ≡ record { verdict = numbered 0 0; unchanged = unchanged_at (bench_at b n).standing (bench_at b n).saved }
    asked-given = by (eqb n 0) refl
      where
        by : (w : Bool) → eqb n 0 ≡ w →
            unchanged_of t n
            ≡ record { verdict = numbered 0 0; unchanged = unchanged_at (bench_at b n).standing (bench_at b n).saved }
        by true z = let zero' : n ≡ 0 = eqb-true n 0 z in rw (z, zero') (asked_is (fit-first t n d e zero'))
        by false z =
            let other : n ≡ 0 → ⊥ = eqb-false n 0 z in
            rw (z, second-named t n d e other) (asked_is (fit-second t n d e other))

  pub save-long :
      (arrived out : List ℕ) → over arrived ≡ true → save_of t n arrived out ≡ refusing t out too_long
  unfolding outcome_at layout.outcome_of
  save-long arrived out q = by (side_of n)
    where
      by : (x : Option Side) → outcome_at t x (save arrived out) ≡ refusing t out too_long
      by None = rw q
      by (Some s) = rw q

-- what the caller's part gives back, beside the other bench
module _ (b : Benches) (n : ℕ) (text0 text1 arrived out out' : List ℕ) (x : Bench) (r : Turned) (is : x ≡ bench_at b n)
    (marked : r.bench ≡ saved_bench x r.answer) (same : r.used ≡ b.used) where
  abbrev Gives : Edited → Type 0
  Gives e =
      (e.benches ≡ turned_at b n (saved_bench (bench_at b n) e.answer))
      × (output.leaves e.answer out' ≡ saved_in (page_of (bench_at b n)) (cells_at b n text0 text1) arrived out)

  pub first-saved :
      n ≡ 0 → output.leaves r.answer out' ≡ saved_in (page_of x) (take x.length text0) arrived out →
      Gives
      (record {
        answer = r.answer;
        benches = record { bench0 = r.bench; bench1 = b.bench1; used = r.used };
      })
  first-saved z o =
      let y : eqb n 0 ≡ true = eq-eqb n 0 z in
      let w : x ≡ b.bench0 = rw y at is in
      rw y (
        (λ i.
            record {
              bench0 = (marked ∙ ap (λ (v : Bench). saved_bench v r.answer) w) i;
              bench1 = b.bench1;
              used = same i;
            }),
        o ∙ ap (λ (v : Bench). saved_in (page_of v) (take v.length text0) arrived out) w,
      )

  pub second-saved :
      (n ≡ 0 → ⊥) → output.leaves r.answer out' ≡ saved_in (page_of x) (take x.length text1) arrived out →
      Gives
      (record {
        answer = r.answer;
        benches = record { bench0 = b.bench0; bench1 = r.bench; used = r.used };
      })
  second-saved z o =
      let y : eqb n 0 ≡ false = ne_eqb n 0 z in
      let w : x ≡ b.bench1 = rw y at is in
      rw y (
        (λ i.
            record {
              bench0 = b.bench0;
              bench1 = (marked ∙ ap (λ (v : Bench). saved_bench v r.answer) w) i;
              used = same i;
            }),
        o ∙ ap (λ (v : Bench). saved_in (page_of v) (take v.length text1) arrived out) w,
      )

-- the caller's length is its text's
pub first_fits :
    (b : Benches) (n : ℕ) (x : Bench) (text : List ℕ) → x ≡ bench_at b n → n ≡ 0 → b.bench0.length ≤ length text →
    x.length ≤ length text
first_fits b n x text is z h = rw (is, eq-eqb n 0 z) h

pub second_fits :
    (b : Benches) (n : ℕ) (x : Bench) (text : List ℕ) → x ≡ bench_at b n → (n ≡ 0 → ⊥) →
    b.bench1.length ≤ length text → x.length ≤ length text
second_fits b n x text is z h = rw (is, ne_eqb n 0 z) h
