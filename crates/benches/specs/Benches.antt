-- Document 02, order 13: two benches with the buffers lent beside them, and when they are sound.
use Rattle.std.specs.Prelude.{ℕ, Bool, cond, ◌&&◌, List, length, take, drop, leb, eqb, Option, None, Some}
use Rattle.answer.specs.Answer.{in_numbers}
use Rattle.editor.specs.Records.{Entry, reached, lengths_fit}
use Rattle.editor.specs.Layout as editor
use Rattle.ledger.specs.Words.{zeros}
use Rattle.ledger.specs.Parts.{mark_within}
use Rattle.benches.specs.declared.Bench.{Bench}
use Rattle.benches.specs.declared.Benches.{Benches}
use Rattle.benches.specs.declared.Edited.{Edited}
use Rattle.benches.specs.Words.{Side, first, second, Both, at, Record, records_in, own}

-- both benches and the words used, a text for each, and one history
pub record State : Type 0 where
  pub benches : Both Bench
  pub used : ℕ
  pub texts : Both (List ℕ)
  pub history : List ℕ

-- the cells of a bench's text
abbrev pub text_in : State → Side → List ℕ
text_in t s = take (at t.benches s).length (at t.texts s)

-- "each judged by its own records and text [..] its standing steps and any mark at most the number of its records"; the
-- lengths are judged as a page's
unfoldable pub bench_sound : Bench → List ℕ → List Entry → Bool
bench_sound b text es =
    leb b.opening (length text)
    && leb b.length (length text)
    && zeros (drop b.length text)
    && leb b.standing (length es)
    && mark_within (length es) b.saved
    && lengths_fit (length text) b.opening es
    && eqb (reached b.opening (take b.standing es)) b.length

abbrev pub sound_at : State → List Record → Side → Bool
sound_at t rs s = bench_sound (at t.benches s) (at t.texts s) (own s rs)

-- "14 is over both benches"
unfoldable pub judged : State → Option (List Record) → Option (List Record)
judged t None = None
judged t (Some rs) = cond (sound_at t rs first && sound_at t rs second) (Some rs) None

-- the records of sound benches, in order; none where they are not sound
unfoldable pub records : State → Option (List Record)
records t =
    cond (leb t.used (length t.history) && zeros (drop t.used t.history))
    (judged t (records_in t.used (take t.used t.history)))
    None

abbrev pub state_of : Benches → List ℕ → List ℕ → List ℕ → State
state_of b text0 text1 history =
    record {
      benches = record { bench0 = b.bench0; bench1 = b.bench1 };
      used = b.used;
      texts = record { bench0 = text0; bench1 = text1 };
      history = history;
    }

-- what a call answers, and everything that it leaves; the output is save's
abbrev pub Outcome : Type 0
Outcome = editor.Outcome State

-- what a call leaves: its answer in numbers, the benches, both texts, the history and the output at exit
abbrev pub leaves : Edited → List ℕ → List ℕ → List ℕ → List ℕ → Outcome
leaves r text0 text1 history out =
    record { verdict = in_numbers r.answer; state = state_of r.benches text0 text1 history; output = out }
