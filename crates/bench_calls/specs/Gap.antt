-- What closing the gap makes of the words of the shared history.
use Rattle.std.specs.Prelude.{ℕ, ◌≤◌, ◌≡◌, List, [], ◌++◌, length, take, drop, Option, None, Some}
use Rattle.std.proofs.Math.Seq.{slice}
use Rattle.benches.specs.Words.{Side, Record, words, records_in, kept}
use Rattle.bench_records.specs.Turning.{side_at}

-- records tile the words from a word up to those used
pub record Tiles (from used : ℕ) (history : List ℕ) : Type 0 where
  pub rs : List Record
  pub is : words rs ++ drop used history ≡ drop from history

abbrev pub others_of : Side → Option (List Record) → List ℕ
others_of s None = []
others_of s (Some rs) = words (kept s 0 rs)

-- of words that records tile, those of the other bench's records
unfoldable pub others_in : ℕ → List ℕ → List ℕ
others_in mine ws = others_of (side_at mine) (records_in (length ws) ws)

-- the words used, with none of the caller's records from a word on
abbrev pub closed : ℕ → ℕ → ℕ → List ℕ → List ℕ
closed mine from used history = take from history ++ others_in mine (slice from used history)

-- a history in which they stand first, and so many they are
pub record Closes (mine from used : ℕ) (before after : List ℕ) (end : ℕ) : Type 0 where
  pub long : length after ≡ length before
  pub rest : drop used after ≡ drop used before
  pub within : end ≤ used
  pub is : take end after ≡ closed mine from used before
  pub many : end ≡ length (closed mine from used before)
