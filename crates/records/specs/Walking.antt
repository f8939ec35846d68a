-- What the code finds of a page's records, over their definition in the crate ledger.
use Rattle.std.specs.Prelude.{ℕ, ◌+◌, ◌-◌, cond, ◌||◌, List, [], ◌∷◌, length, Option, None, Some}
use Rattle.std.specs.Option.{ok_or}
use Rattle.std.proofs.Math.Seq.{slice}
use Rattle.answer.specs.Answer.{Answer, limit, refused_at}
use Rattle.answer.specs.declared.Refusal.TheVariants.{Unsound, OverLimit}
use Rattle.ledger.specs.Words.{Entry, Parted, size_of, records_in, lengths_fit, reached}
use Rattle.ledger.specs.Parts.{ending_at}
use Rattle.ledger.specs.Page.{State, records}
use Rattle.ledger.specs.Calls.{over}
use Rattle.records.specs.declared.Spot.{Spot}

-- the length that records lead to, and the word where the last of them begins; none where they do not fit
abbrev pub Walk : Type 0
Walk = Option (ℕ × ℕ)

-- where the last of some records begins, the first of them at a word; `last` where there are none
abbrev pub last_from : ℕ → ℕ → List Entry → ℕ
last_from at last [] = last
last_from at last (e ∷ es) = last_from (at + size_of e) at es

-- a walk over records from a word, a length and a last record on
abbrev pub walk_of : ℕ → ℕ → ℕ → ℕ → Option (List Entry) → Walk
walk_of room at len last None = None
walk_of room at len last (Some es) = cond (lengths_fit room len es) (Some (reached len es, last_from at last es)) None

abbrev pub walk_in : ℕ → ℕ → ℕ → ℕ → List ℕ → Walk
walk_in room at len last words = walk_of room at len last (records_in (length words) words)

-- a walk over records of which so many words are an end
abbrev pub walk_cut : ℕ → ℕ → ℕ → ℕ → ℕ → List ℕ → Walk
walk_cut room at len last n words = walk_of room at len last (ending_at n (records_in (length words) words))

-- a walk over the records that begin where another stands
abbrev pub walk_from : List ℕ → ℕ → ℕ → Spot → Walk
walk_from history to room s = walk_in room s.at s.len s.last (slice s.at to history)

-- where the last standing record begins; `done` where none stands
abbrev pub last_begin : ℕ → List Entry → ℕ
last_begin done [] = done
last_begin done (e ∷ back) = done - size_of e

-- where the last standing record of a sound page begins
abbrev pub last_of : ℕ → Option Parted → Option ℕ
last_of done None = None
last_of done (Some v) = Some (last_begin done v.standing)

-- 14, or where the last standing record begins
abbrev pub judged_of : Option ℕ → Answer
judged_of found = ok_or found (record { 0 = Unsound; 1 = 0 })

abbrev pub judged_as : ℕ → Option Parted → Answer
judged_as done x = judged_of (last_of done x)

-- 16 comes first
unfoldable pub judge_of : State → Answer
judge_of s = cond (over s.text || over s.history) (refused_at OverLimit limit) (judged_as s.page.done (records s))
