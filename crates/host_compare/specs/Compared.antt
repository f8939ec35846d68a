-- What a host is told of a comparison.
use Rattle.std.specs.Prelude.{ℕ}
use Rattle.answer.specs.Answer.{Verdict, numbered}
use Rattle.comparer.specs.Compare.{Comparison, same, part, refused}
use Rattle.comparer.specs.declared.Text.{Text}
use Rattle.comparer.specs.declared.Text.TheVariants.{First, Second}
use Rattle.host_numbers.specs.Numbers.{verdict_in}
use Rattle.host_compare.specs.declared.HostCompared.{HostCompared}

pub record HostComparison : Type 0 where
  pub verdict : Verdict
  pub text : ℕ
  pub same : ℕ
  pub index : ℕ
  pub first : ℕ
  pub second : ℕ

-- which text is refused; 0 stands for none
abbrev pub text_number : Text → ℕ
text_number First = 1
text_number Second = 2

-- 0 with the count of cells, the same; 0 and 0, the index and the place in each; or a refusal and whose it is
abbrev pub in_host : Comparison → HostComparison
in_host (same n) = record { verdict = numbered 0 n; text = 0; same = 1; index = 0; first = 0; second = 0 }
in_host (part n one two) = record { verdict = numbered 0 0; text = 0; same = 0; index = n; first = one; second = two }
in_host (refused which v) =
    record { verdict = v; text = text_number which; same = 0; index = 0; first = 0; second = 0 }

abbrev pub hears : HostCompared → HostComparison
hears r =
    record {
      verdict = verdict_in r.answer;
      text = r.text;
      same = r.same;
      index = r.index;
      first = r.first;
      second = r.second;
    }
