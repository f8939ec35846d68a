-- Document 02, order 12: "It takes up to 512 bytes and is proved to give the same answer, cells and place as the main
-- reader on each of them. Refusals: 16 at 512, the rest as the main reader's."
use Rattle.std.specs.Prelude.{ℕ, ◌<◌, ◌≤◌, ◌≡◌, cond, List, length, ltb}
use Rattle.answer.specs.Answer.{numbered}
use Rattle.answer.specs.Output.{Outcome, refusing}
use Rattle.reading.specs.Reading.{read_into}
use Rattle.jp2.specs.Rule.{jp2}

-- `read_into jp2` is what the main reader promises (jp2_whole, `read`)
unfoldable pub plain_into : List ℕ → List ℕ → Outcome
plain_into text out = cond (ltb 512 (length text)) (refusing (numbered 16 512) out) (read_into jp2 text out)

pub record AsMainReader : Type 0 where
  -- "the same answer, cells and place as the main reader on each of them"
  pub same : (text out : List ℕ) → length text ≤ 512 → plain_into text out ≡ read_into jp2 text out
  -- "16 at 512"
  pub longer : (text out : List ℕ) → 512 < length text → plain_into text out ≡ refusing (numbered 16 512) out
