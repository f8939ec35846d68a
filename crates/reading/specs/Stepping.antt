-- Stepping through a text one cell at a time: "Each step hands out the next cell complete before the first fault;
-- after those, and at once for 16, every step gives the answer of reading the whole text with room enough." A cell comes with its bytes.
use Rattle.std.specs.Prelude.{ℕ, zero, suc, ◌+◌, cond, List, [], ◌∷◌, length, get_or, drop, ltb}
use Rattle.answer.specs.Answer.{Verdict, numbered, limit, too_long}
use Rattle.reading.specs.Reading.{Does, give, go, bad, Rule, Reading, closing, verdict_of}
use Rattle.reading.specs.Spans.{Span, marked_as, no_mark, Marking}
use Rattle.reading.specs.declared.Marked.{Marked}

-- where a reader stands: the place of the next byte, how many cells were handed out, and the state
pub record Spot (S : Type 0) : Type 0 where
  pub at : ℕ
  pub handed : ℕ
  pub state : S

abbrev pub least : ℕ → ℕ → ℕ
least a b = cond (ltb b a) b a

-- where a reader of any numbers stands in a text: past the end it stands at the end, and it has handed out no more
-- cells than bytes lie before it
abbrev pub in_text : {S : Type 0} → List ℕ → Spot S → Spot S
in_text text p =
    let at = least p.at (length text) in
    record { at = at; handed = least p.handed at; state = p.state }

-- what a step gives: a cell and where the reader then stands, or the final answer
pub data Next (P : Type 0) : Type 0 where
  cell : Marked → P → Next P
  final : Verdict → Next P

-- the same step, of a reader whose standing is written otherwise
abbrev pub onward : {P Q : Type 0} → (P → Q) → Next P → Next Q
onward f (cell m p) = cell m (f p)
onward f (final answer) = final answer

abbrev pub on_next : {S : Type 0} → Does S → Span → Spot S → (Spot S → Next (Spot S)) → Next (Spot S)
on_next (give v st) s p rest = cell (marked_as v s) (record { at = p.at + 1; handed = p.handed + 1; state = st })
on_next (go st) s p rest = rest (record { at = p.at + 1; handed = p.handed; state = st })
on_next (bad k) s p rest = final (numbered k p.at)

abbrev pub on_spot : {P : Type 0} → Next P → P → P
on_spot (cell m next) p = next
on_spot (final answer) p = p

module _ {S : Type 0} (rule : Rule S) (marking : Marking S) where
  -- the step over the bytes that a reader has before it, of a text of some length
  unfoldable pub next_from : ℕ → List ℕ → Spot S → Next (Spot S)
  next_from size [] p = final (closing (rule.end size p.state) p.handed)
  next_from size (b ∷ bs) p = on_next (rule.byte p.state b) (marking p.state b p.at) p (next_from size bs)

  unfoldable pub next_at : List ℕ → Spot S → Next (Spot S)
  next_at text p = cond (ltb limit (length text)) (final too_long) (next_from (length text) (drop p.at text) p)

module _ {S : Type 0} (rule : Rule S) where
  abbrev pub at_start : Spot S
  at_start = record { at = 0; handed = 0; state = rule.start }

-- "Each step hands out the next cell complete before the first fault", and of a text over the limit none;
abbrev pub cells_of : List ℕ → List Marked → List Marked
cells_of text marked = cond (ltb limit (length text)) [] marked

-- "after those, and at once for 16, every step gives the answer of reading the whole text with room enough"
abbrev pub answer_of : List ℕ → Reading → Verdict
answer_of text r = cond (ltb limit (length text)) too_long (verdict_of r)

-- what the n-th step gives, counted from 0, where these are the cells and the answer: cell n, and where the reader then
-- stands, or the answer
abbrev pub nth_of : {P : Type 0} → List Marked → Verdict → ℕ → P → Next P
nth_of cells answer n p = cond (ltb n (length cells)) (cell (get_or cells n no_mark) p) (final answer)

-- where a reader stands after some steps: it stays where a step gives no cell
module _ {P : Type 0} (step : P → Next P) (start : P) where
  unfoldable pub after_steps : ℕ → P
  after_steps zero = start
  after_steps (suc n) = on_spot (step (after_steps n)) (after_steps n)
