-- Lines and what they say, computed. Assumes nothing.
use Prim.Native.Nat.{ℕ}
use mathlib.Core.Path.{◌≡◌, refl}
use mathlib.Core.Bool.{true, false}
use mathlib.Core.List.{List, [], ◌∷◌, map}
use Rattle.std.specs.Prelude.{Some, None}
use lib.ListN.{length}
use Rattle.answer.specs.Answer.{limit, numbered}
use Rattle.answer.specs.Output.{refusing, deliver}
use Rattle.reading.specs.Reading.{read_from, reading, read_into}
use Rattle.codec.specs.declared.Kind.TheVariants.{Utf7Header, Jp2}
use Rattle.commands.specs.Lines.{stretch, same, verb_of, said_in, kind_named, page_named}
use Rattle.commands.specs.Numbers.{digit_value, raised, byte_does, ends_in, numbers}
use Rattle.commands.specs.declared.Verb.{Verb}
use Rattle.commands.specs.declared.Verb.TheVariants.{Nothing, Replace, Squeeze, Keep, Unknown}

-- a line reads as the numbers asked for, or is refused with a number and a place
abbrev Reads : ℕ → List ℕ → List ℕ → Type 0
Reads asked line cells =
    read_into (numbers asked) line (map (λ _. 0) cells) ≡ record { verdict = numbered 0 (length cells); out = cells }

abbrev Fails : ℕ → List ℕ → ℕ → ℕ → Type 0
Fails asked line number place =
    (out : List ℕ) → read_into (numbers asked) line out ≡ refusing (numbered number place) out

abbrev Says : List ℕ → Verb → ℕ → Type 0
Says line verb rest = said_in line ≡ record { verb = verb; rest = rest }

pub record Cases : Type 0 where
  -- `1 1 3D`, LF
  pub one_cell : Reads 2 (49 ∷ 32 ∷ 49 ∷ 32 ∷ 51 ∷ 68 ∷ 10 ∷ []) (1 ∷ 1 ∷ 0x3D ∷ [])
  -- `12 0 3d Ff`, LF
  pub small-letters : Reads 2 (49 ∷ 50 ∷ 32 ∷ 48 ∷ 32 ∷ 51 ∷ 100 ∷ 32 ∷ 70 ∷ 102 ∷ 10 ∷ []) (12 ∷ 0 ∷ 0x3D ∷ 0xFF ∷ [])
  -- `0 0`, LF
  pub no_cell : Reads 2 (48 ∷ 32 ∷ 48 ∷ 10 ∷ []) (0 ∷ 0 ∷ [])
  -- `4294967295 0`, LF
  pub largest : Reads 2 (52 ∷ 50 ∷ 57 ∷ 52 ∷ 57 ∷ 54 ∷ 55 ∷ 50 ∷ 57 ∷ 53 ∷ 32 ∷ 48 ∷ 10 ∷ []) (4294967295 ∷ 0 ∷ [])
  -- `4294967296 0`, LF
  pub too_large : Fails 2 (52 ∷ 50 ∷ 57 ∷ 52 ∷ 57 ∷ 54 ∷ 55 ∷ 50 ∷ 57 ∷ 54 ∷ 32 ∷ 48 ∷ 10 ∷ []) 3 9
  -- `1`, LF
  pub one_number : Fails 2 (49 ∷ 10 ∷ []) 7 2
  -- `0 0`, with no LF
  pub unended : Fails 2 (48 ∷ 32 ∷ 48 ∷ []) 7 3
  -- `1 1 G`, LF
  pub no_digit : Fails 2 (49 ∷ 32 ∷ 49 ∷ 32 ∷ 71 ∷ 10 ∷ []) 3 4
  -- `1 A`, LF
  pub hex-count : Fails 2 (49 ∷ 32 ∷ 65 ∷ 10 ∷ []) 3 2
  -- `  replace 1 1`
  pub replace : Says (32 ∷ 32 ∷ 114 ∷ 101 ∷ 112 ∷ 108 ∷ 97 ∷ 99 ∷ 101 ∷ 32 ∷ 49 ∷ 32 ∷ 49 ∷ []) Replace 10
  pub nothing : Says [] Nothing 0
  -- `squeeze 3`, LF; its number; `squeezed`
  pub squeeze : Says (115 ∷ 113 ∷ 117 ∷ 101 ∷ 101 ∷ 122 ∷ 101 ∷ 32 ∷ 51 ∷ 10 ∷ []) Squeeze 8
  pub one : Reads 1 (51 ∷ 10 ∷ []) (3 ∷ [])
  pub squeezed : Says (115 ∷ 113 ∷ 117 ∷ 101 ∷ 101 ∷ 122 ∷ 101 ∷ 100 ∷ []) Unknown 8
  -- `keep a`, LF; `keeps`
  pub keep : Says (107 ∷ 101 ∷ 101 ∷ 112 ∷ 32 ∷ 97 ∷ 10 ∷ []) Keep 5
  pub keeps : Says (107 ∷ 101 ∷ 101 ∷ 112 ∷ 115 ∷ []) Unknown 5
  -- of a squeeze: no number; `3 4`, LF; `A`, LF
  pub none-asked-one : Fails 1 [] 7 0
  pub two-asked-one : Fails 1 (51 ∷ 32 ∷ 52 ∷ 10 ∷ []) 7 4
  pub hex-asked-one : Fails 1 (65 ∷ 10 ∷ []) 3 0
  -- `shows`
  pub longer : Says (115 ∷ 104 ∷ 111 ∷ 119 ∷ 115 ∷ []) Unknown 5
  -- `utf7h`, `jp2`, `jp`
  pub header : kind_named (117 ∷ 116 ∷ 102 ∷ 55 ∷ 104 ∷ []) ≡ Some Utf7Header
  pub jp2 : kind_named (106 ∷ 112 ∷ 50 ∷ []) ≡ Some Jp2
  pub no_kind : kind_named (106 ∷ 112 ∷ []) ≡ None
  -- `page`, `pages`
  pub page : page_named (112 ∷ 97 ∷ 103 ∷ 101 ∷ []) ≡ true
  pub no-page : page_named (112 ∷ 97 ∷ 103 ∷ 101 ∷ 115 ∷ []) ≡ false

pub cases : Cases
unfolding limit read_from reading read_into deliver stretch same verb_of said_in kind_named digit_value raised byte_does ends_in
cases =
    record {
      one_cell = refl;
      small-letters = refl;
      no_cell = refl;
      largest = refl;
      too_large = λ out. refl;
      one_number = λ out. refl;
      unended = λ out. refl;
      no_digit = λ out. refl;
      hex-count = λ out. refl;
      replace = refl;
      nothing = refl;
      squeeze = refl;
      one = refl;
      squeezed = refl;
      keep = refl;
      keeps = refl;
      none-asked-one = λ out. refl;
      two-asked-one = λ out. refl;
      hex-asked-one = λ out. refl;
      longer = refl;
      header = refl;
      jp2 = refl;
      no_kind = refl;
      page = refl;
      no-page = refl;
    }
