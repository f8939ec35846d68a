-- The lines that a program says on standard error.
use Rattle.std.specs.Prelude.{◌≢◌, ℕ, ◌<◌, List, [], ◌∷◌, ◌++◌, length, drop, slice_index, codes}
use Rattle.std.specs.Io.{StartsWith}

-- a line: the program's name, a colon and a space, what it says, and an LF
abbrev pub said : List ℕ → List ℕ → List ℕ
said program what = program ++ codes ": " ++ what ++ 10 ∷ []

-- what is said of something that has a name
abbrev pub about : List ℕ → List ℕ → List ℕ
about name what = name ++ codes ": " ++ what

-- what the library puts behind the system's text, before the number of the error
abbrev pub number_mark : List ℕ
number_mark = codes " (os error "

-- the text that the system has for an error, as far as a contract can say what it is: it has no NUL, and the library's
-- mark stands nowhere in it
pub record IsPlain (text : List ℕ) : Type 0 where
  pub unended : (k : ℕ) → k < length text → slice_index text k ≢ 0
  pub unmarked : (k : ℕ) → k < length text → ¬ (StartsWith (drop k text) number_mark)
