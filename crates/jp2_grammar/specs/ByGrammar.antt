-- Document 02, order 7: "a text is accepted as JP-2 exactly when its lines, cut at each CR directly followed by LF,
-- follow RFC 1554's formal syntax for "text", each line starting in the single-byte set that the last one ended in,
-- with a G2 designation before any single shift in its line, and the whole ending in ASCII."
use Rattle.std.specs.Prelude.{ℕ, ◌≤◌, ◌≡◌, false, cond, ◌&&◌, List, [], ◌∷◌, ◌↔◌, length, eqb}
use Rattle.answer.specs.Answer.{limit}
use Rattle.reading.specs.Reading.{accepted, reading, read_into}
use Rattle.jp2.specs.Rule.{jp2}
use Rattle.jp2_grammar.specs.Notation.{Standing}
use Rattle.jp2_grammar.specs.Grammar.{CR, LF, text}

-- a byte in front of the first line
abbrev pub on_first : ℕ → List (List ℕ) → List (List ℕ)
on_first b [] = (b ∷ []) ∷ []
on_first b (line ∷ lines) = (b ∷ line) ∷ lines

-- "its lines, cut at each CR directly followed by LF"
unfoldable pub lines_of : List ℕ → List (List ℕ)
lines_of [] = [] ∷ []
lines_of (b ∷ []) = (b ∷ []) ∷ []
lines_of (b ∷ c ∷ rest) = cond (eqb b CR && eqb c LF) ([] ∷ lines_of rest) (on_first b (lines_of (c ∷ rest)))

-- where a line starts, by where the last one ended: "in the single-byte set that the last one ended in"; RFC 1554: "At
-- the beginning of a line, information on G2 designation of the previous line is cleared."
abbrev pub line_start : Standing → Standing
line_start ended = record { set = ended.set; designated = false; after_return = false }

-- each line follows "text", "and the whole ending in ASCII", 6
unfoldable pub Follow : Standing → List (List ℕ) → Type 0
Follow ended [] = ended.set ≡ 6
Follow ended (line ∷ lines) = (end : Standing) × text (line_start ended) line end × Follow end lines

-- RFC 1554: "The text with "ISO-2022-JP-2" starts in ASCII"
abbrev pub in_ascii : Standing
in_ascii = record { set = 6; designated = false; after_return = false }

abbrev pub ByGrammar : List ℕ → Type 0
ByGrammar bytes = Follow in_ascii (lines_of bytes)

-- the order, of the rule and of a call of the reader
pub record AcceptedByGrammar : Type 0 where
  pub of-rule : (bytes : List ℕ) → ((reading jp2 bytes).ending ≡ accepted) ↔ ByGrammar bytes
  -- "Texts over the limit are excepted"; the output has room for the cells
  pub of-call :
      (bytes out : List ℕ) → length bytes ≤ limit → length (reading jp2 bytes).cells ≤ length out →
      ((read_into jp2 bytes out).verdict.number ≡ 0) ↔ ByGrammar bytes
