-- The pass over words, a record at a time: what a turn of its loop computes.
use Rattle.std.specs.Prelude.{ℕ, zero, suc, ◌+◌, ◌-◌, ◌≤◌, cond, List, length, get_or, ltb, eqb, Option, None, Some}
use Rattle.std.proofs.Math.Seq.{slice}
use Rattle.benches.specs.Words.{Side, first, second, Record, records_in}
use Rattle.bench_records.specs.declared.Head.{Head}
use Rattle.bench_records.specs.declared.Pass.{Pass}
use Rattle.bench_records.specs.declared.Spot.{Spot}
use Rattle.bench_records.specs.Passing.{Passed, onward, passed}

abbrev pub head_at : List ℕ → ℕ → Head
head_at h at =
    record {
      bench = get_or h at 0;
      place = get_or h (at + 1) 0;
      removed = get_or h (at + 2) 0;
      added = get_or h (at + 3) 0;
    }

abbrev pub size_at : Head → ℕ
size_at h = 4 + h.removed + h.added

-- the bench of a number that is 0 or 1
abbrev pub side_at : ℕ → Side
side_at zero = first
side_at (suc n) = second

-- counts are at most the words passed, and the length fits
pub record Bounded (room at : ℕ) (p : Pass) : Type 0 where
  pub fits : p.len ≤ room
  pub few : p.seen ≤ at
  pub small : p.spare ≤ at

-- a record whose first four words these are
unfoldable pub turned : ℕ → ℕ → ℕ → ℕ → Pass → Head → Passed
turned room standing mine at p h =
    cond (eqb h.bench mine)
    (cond (ltb p.len (h.place + h.removed)) None
    (cond (ltb room (p.len - h.removed + h.added)) None
    (Some (onward standing at p (p.len - h.removed + h.added) (size_at h)))))
    (cond (ltb 1 h.bench) None (Some p))

abbrev pub pass_of : ℕ → ℕ → Side → ℕ → Pass → Option (List Record) → Passed
pass_of room standing s at p None = None
pass_of room standing s at p (Some rs) = passed room standing s at p rs

-- the records that tile words, the first of them at a word
abbrev pub pass_in : ℕ → ℕ → ℕ → ℕ → Pass → List ℕ → Passed
pass_in room standing mine at p words = pass_of room standing (side_at mine) at p (records_in (length words) words)

-- the records that begin where a pass stands
abbrev pub pass_from : ℕ → ℕ → ℕ → ℕ → List ℕ → Spot → Passed
pass_from room standing mine used history s =
    pass_in room standing mine s.at s.pass (slice s.at used history)
