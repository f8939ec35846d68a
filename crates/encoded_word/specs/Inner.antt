-- A line on its way, as the contracts of the functions that write it say it: no promise to a caller rests on these.
use Rattle.std.specs.Prelude.{ℕ, zero, suc, ◌+◌, ◌-◌, ◌*◌, ◌/◌, Bool, cond, List, [], ◌∷◌, ◌++◌, length, eqb}
use Rattle.utf7.specs.Sets.{own}
use Rattle.utf7.specs.Writing.{writing}
use Rattle.utf7.specs.declared.Style.TheVariants.{Header}
use Rattle.encoded_word.specs.Writing.{spelled, q_text, word_start, word_end, joint}

-- the characters of a run of k units
abbrev pub run_size : ℕ → ℕ
run_size zero = 0
run_size (suc k) = 2 + (suc k * 16 + 5) / 6

-- the units of a run at the end of some, behind k of them; and with one unit more
abbrev pub trailing : ℕ → List ℕ → ℕ
trailing k [] = k
trailing k (u ∷ us) = cond (own Header u) (trailing 0 us) (cond (eqb u 43) (trailing 0 us) (trailing (k + 1) us))

abbrev pub run_after : ℕ → ℕ → ℕ
run_after v k = cond (own Header v) 0 (cond (eqb v 43) 0 (k + 1))

-- the characters that one unit more brings, behind k units of a run
abbrev pub brings : ℕ → ℕ → ℕ
brings v k = cond (own Header v) (length (spelled v)) (cond (eqb v 43) 2 (run_size (k + 1) - run_size k))

-- the characters of some units
unfoldable pub q_size : List ℕ → ℕ
q_size units = length (q_text (writing Header units))

-- a word, and what stands between it and another, if there are more
abbrev pub end_of : Bool → List ℕ
end_of more = cond more (word_end ++ joint) word_end

unfoldable pub word_and : Bool → List ℕ → List ℕ
word_and more units = word_start ++ (q_text (writing Header units) ++ end_of more)
