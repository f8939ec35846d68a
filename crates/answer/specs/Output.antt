-- What a call that fills an output answers, and what the output then holds.
use Rattle.std.specs.Prelude.{ℕ, cond, List, ◌++◌, length, drop, ltb}
use Rattle.answer.specs.Answer.{Answer, Verdict, numbered, in_numbers, limit, too_long}

pub record Outcome : Type 0 where
  pub verdict : Verdict
  pub out : List ℕ

-- what a call leaves: its answer, in numbers, and its output at exit
abbrev pub leaves : Answer → List ℕ → Outcome
leaves answer out = record { verdict = in_numbers answer; out = out }

-- "A refusal changes no page and no buffer"
abbrev pub refusing : Verdict → List ℕ → Outcome
refusing verdict out = record { verdict = verdict; out = out }

-- "fills the first count elements and no others"
abbrev pub filled : List ℕ → List ℕ → List ℕ
filled elements out = elements ++ drop (length elements) out

-- "9, too little room, elements needed"; else the elements go to the front of the output
unfoldable pub deliver : List ℕ → List ℕ → Outcome
deliver elements out =
    cond (ltb (length out) (length elements))
    (refusing (numbered 9 (length elements)) out)
    (record { verdict = numbered 0 (length elements); out = filled elements out })

-- "Writing: first 10, then 9", after 16: the cells, the index of the first that is not writable (or their count), and what they are written as
abbrev pub written : List ℕ → ℕ → List ℕ → List ℕ → Outcome
written cells first text out =
    cond (ltb limit (length cells)) (refusing too_long out)
    (cond (ltb first (length cells)) (refusing (numbered 10 first) out) (deliver text out))
