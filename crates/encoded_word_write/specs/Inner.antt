-- What a unit brings, and a part put into an output, as the contracts of the functions that count and put say it: no
-- promise to a caller rests on these.
use Rattle.std.specs.Prelude.{ℕ, ◌+◌, ◌-◌, ◌≡◌, cond, List, ◌++◌, length, eqb}
use Rattle.answer.specs.Inner.{Put}
use Rattle.utf7.specs.Sets.{own}
use Rattle.utf7.specs.declared.Style.TheVariants.{Header}
use Rattle.encoded_word.specs.Writing.{spelled}
use Rattle.encoded_word.specs.Inner.{run_size}

-- the characters that a unit brings by itself, none for one that belongs to a run; and what it brings behind k units of
-- a run
unfoldable pub alone_of : ℕ → ℕ
alone_of v = cond (own Header v) (length (spelled v)) (cond (eqb v 43) 2 0)

abbrev pub bringing : ℕ → ℕ → ℕ
bringing n k = cond (eqb n 0) (run_size (k + 1) - run_size k) n

-- a space as Q text has it, any other byte as it is
abbrev pub shown_as : ℕ → ℕ
shown_as b = cond (eqb b 32) 95 b

-- the output has the part at a place: whatever text the part is the next of, it is then put
abbrev pub Puts : List ℕ → ℕ → List ℕ → List ℕ → Type 0
Puts part at out out' =
    (length out' ≡ length out)
    × ((text first rest : List ℕ) → Put text first out at (part ++ rest) → Put text first out' (at + length part) rest)
