-- Document 02, order 2, outside runs: a cell's bytes are just those that make it.
use Rattle.std.specs.Prelude.{ℕ, ◌-◌, ◌<◌, Bool, true, false, cond, ◌≡◌, List, [], ◌∷◌, length, take, drop}
use Rattle.answer.specs.Lists.{Each}
use Rattle.reading.specs.Reading.{Does, give, go, bad, Rule, read_from}
use Rattle.reading.specs.Spans.{Marking, marked_in}
use Rattle.reading.specs.declared.Marked.{Marked}

abbrev pub on_state : {S : Type 0} → Does S → S → S
on_state (give v st) old = st
on_state (go st) old = st
on_state (bad k) old = old

module _ {S : Type 0} (rule : Rule S) where
  -- the state that bytes lead to, where none of them is a fault; the cells that they give
  unfoldable pub state_after : S → List ℕ → S
  state_after st [] = st
  state_after st (b ∷ bs) = state_after (on_state (rule.byte st b) st) bs

  abbrev pub cells_from : S → List ℕ → List ℕ
  cells_from st bytes = (read_from rule bytes 0 st).cells

  -- no shorter end of some bytes, read from the same state, gives a cell
  abbrev pub Least : S → List ℕ → ℕ → Type 0
  Least st bytes v = (k : ℕ) → 0 < k → cells_from st (drop k bytes) ≡ v ∷ [] → ⊥

  -- which states are between cells, by a test
  module _ (between : S → Bool) where
    -- bytes that make a cell, read from a state between cells: they give it and nothing else
    pub record Makes (st : S) (bytes : List ℕ) (v : ℕ) : Type 0 where
      pub rests : between st ≡ true
      pub gives : cells_from st bytes ≡ v ∷ []
      -- before the last of them nothing is complete, and behind the first no place is between cells
      pub last : (k : ℕ) → k < length bytes → cells_from st (take k bytes) ≡ []
      pub inside : (k : ℕ) → 0 < k → k < length bytes → between (state_after st (take k bytes)) ≡ false
      pub least : Least st bytes v

    -- the bytes of a text's cell, read in the state that the text before them leads to, make the cell
    abbrev pub Located : List ℕ → Marked → Type 0
    Located text m =
        Makes (state_after rule.start (take m.begin text)) (take (m.end - m.begin) (drop m.begin text))
        m.value

-- a rule with the cells of runs left out, by a test of the state and the byte that completes a cell
abbrev pub silent : {S : Type 0} → Does S → Does S
silent (give v st) = go st
silent (go st) = go st
silent (bad k) = bad k

abbrev pub without : {S : Type 0} → (S → ℕ → Bool) → Rule S → Rule S
without in_run rule =
    record {
      start = rule.start;
      byte = λ st b. cond (in_run st b) (silent (rule.byte st b)) (rule.byte st b);
      end = rule.end;
    }

-- the bytes of every cell outside runs make it
abbrev pub LocatedIn : {S : Type 0} → Rule S → (S → Bool) → (S → ℕ → Bool) → Marking S → List ℕ → Type 0
LocatedIn rule between in_run marking text =
    Each (Located rule between text) (marked_in (without in_run rule) marking text)
