-- Lines that are not all there yet, as the contracts of private functions say it: no promise to a caller rests on this.
use Rattle.std.specs.Prelude.{ℕ, ◌≤◌, ◌≡◌, length}
use Rattle.same_lines.specs.declared.Lines.{Lines}

-- lines of so many bytes at most
pub record Holds (lines : Lines) (most : ℕ) : Type 0 where
  pub room : length lines.bytes ≡ 128
  pub few : lines.size ≤ most
