-- What a call leaves of the caller's bench, its text and the history; and of both benches.
use Rattle.std.specs.Prelude.{ℕ, cond, List, [], length, eqb, Ok}
use Rattle.answer.specs.Answer.{Verdict, numbered, in_numbers}
use Rattle.editor.specs.Marks.{Mark}
use Rattle.ledger.specs.Words.{pad}
use Rattle.benches.specs.declared.Bench.{Bench}
use Rattle.benches.specs.declared.Benches.{Benches}
use Rattle.benches.specs.Words.{Side, put}
use Rattle.benches.specs.Benches.{State, Outcome}
use Rattle.bench_calls.specs.declared.Turned.{Turned}

pub record Left : Type 0 where
  pub verdict : Verdict
  pub bench : Bench
  pub used : ℕ
  pub text : List ℕ
  pub history : List ℕ

abbrev pub leaves_of : Turned → List ℕ → List ℕ → Left
leaves_of r text history =
    record {
      verdict = in_numbers r.answer;
      bench = r.bench;
      used = r.used;
      text = text;
      history = history;
    }

-- the caller's beside the other's
abbrev pub placed : State → Side → Left → Outcome
placed t s l =
    record {
      verdict = l.verdict;
      state =
          record {
            benches = put t.benches s l.bench;
            used = l.used;
            texts = put t.texts s l.text;
            history = l.history;
          };
      output = [];
    }

-- a bench whose text is now this
abbrev pub bench_with : Bench → ℕ → ℕ → Mark → Bench
bench_with b length standing saved =
    record { kind = b.kind; opening = b.opening; length = length; standing = standing; saved = saved }

-- what an accepted edit gives back
abbrev pub edited_as : Bench → List ℕ → ℕ → ℕ → Mark → Turned
edited_as b text used standing saved =
    record { answer = Ok (length text); bench = bench_with b (length text) standing saved; used = used }

-- and leaves, in a text buffer of this length
abbrev pub edited_to : Bench → ℕ → List ℕ → ℕ → ℕ → Mark → List ℕ → Left
edited_to b room text used standing saved history =
    record {
      verdict = numbered 0 (length text);
      bench = bench_with b (length text) standing saved;
      used = used;
      text = pad room text;
      history = history;
    }

-- a refusal leaves everything
abbrev pub refused_with : Verdict → Bench → ℕ → List ℕ → List ℕ → Left
refused_with v b used text history =
    record { verdict = v; bench = b; used = used; text = text; history = history }

-- the bench of a number that is 0 or 1, and another in its place
abbrev pub bench_at : Benches → ℕ → Bench
bench_at b n = cond (eqb n 0) b.bench0 b.bench1

abbrev pub turned_at : Benches → ℕ → Bench → Benches
turned_at b n x =
    record { bench0 = cond (eqb n 0) x b.bench0; bench1 = cond (eqb n 0) b.bench1 x; used = b.used }
