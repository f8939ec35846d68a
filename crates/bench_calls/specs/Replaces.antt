-- What replace makes of the caller's bench, its text and the shared history.
use Rattle.std.specs.Prelude.{ℕ, ◌+◌, ◌-◌, ◌≤◌, ◌≡◌, cond, List, ◌∷◌, ◌++◌, length, take, ltb}
use Rattle.answer.specs.Answer.{limit, numbered}
use Rattle.codec.specs.Kinds.{first_unwritable}
use Rattle.editor.specs.Marks.{replaced_mark}
use Rattle.editor.specs.Records.{Entry, applied, entry_at}
use Rattle.ledger.specs.Words.{words_of, pad}
use Rattle.splice.specs.Splice.{Filled}
use Rattle.benches.specs.declared.Bench.{Bench}
use Rattle.benches.specs.Words.{size_of}
use Rattle.bench_records.specs.declared.Pass.{Pass}
use Rattle.bench_calls.specs.Leaving.{Left, edited_to, refused_with}
use Rattle.bench_calls.specs.Gap.{Tiles, closed}

-- what replace must know of sound benches
pub record Shared (b : Bench) (mine used : ℕ) (p : Pass) (text history : List ℕ) : Type 0 where
  pub one : mine ≤ 1
  pub few : b.standing ≤ limit
  pub text-filled : Filled b.length text
  pub text-small : length text ≤ limit
  pub filled : Filled used history
  pub small : length history ≤ limit
  pub from : p.next ≤ used
  pub spare : p.spare ≤ used
  pub tiles : Tiles p.next used history
  pub closes : length (closed mine p.next used history) ≡ used - p.spare

-- "all words, less the caller's undone ones, plus the new record's"
abbrev pub need_on : ℕ → Pass → Entry → ℕ
need_on used p x = used - p.spare + size_of x

unfoldable pub fitting_on : Bench → ℕ → ℕ → Pass → Entry → List ℕ → List ℕ → Left
fitting_on b mine used p x text history =
    cond (ltb (length text) (length (applied x (take b.length text))))
    (refused_with (numbered 9 (length (applied x (take b.length text)))) b used text history)
    (cond (ltb (length history) (need_on used p x))
    (refused_with (numbered 12 (need_on used p x)) b used text history)
    (edited_to b (length text) (applied x (take b.length text)) (need_on used p x) (b.standing + 1)
    (replaced_mark b.standing b.saved)
    (pad (length history) (closed mine p.next used history ++ mine ∷ words_of x))))

unfoldable pub replaced_on : Bench → ℕ → ℕ → Pass → ℕ → ℕ → List ℕ → List ℕ → List ℕ → Left
replaced_on b mine used p place count cells text history =
    cond (ltb (length (take b.length text)) (place + count))
    (refused_with (numbered 11 (length (take b.length text))) b used text history)
    (cond (ltb (first_unwritable b.kind cells) (length cells))
    (refused_with (numbered 10 (first_unwritable b.kind cells)) b used text history)
    (fitting_on b mine used p (entry_at (take b.length text) place count cells) text history))
