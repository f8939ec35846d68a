-- What code found, as a parser's answer: the bytes behind it are those from its place on.
use Rattle.std.specs.Prelude.{ℕ, ◌+◌, ◌*◌, ◌≤◌, ◌≡◌, true, cond, List, length, drop}
use Rattle.parsing.specs.Parsing.{Parsed, found, failed}
use Rattle.scan.specs.declared.Found.{Found}
use Rattle.scan.specs.Inner.{hexes_at}

abbrev pub found_as : {A : Type 0} → A → List ℕ → Found → Parsed A
found_as a s r = cond r.ok (found a (drop r.at s) r.at) (failed r.at)

-- a number
abbrev pub found_in : List ℕ → Found → Parsed ℕ
found_in s r = found_as r.value s r

-- nothing but the place behind it
abbrev pub passed_in : List ℕ → Found → Parsed Unit
passed_in s r = found_as tt s r

-- so many numbers of k hex digits, from a place on
abbrev pub numbers_in : ℕ → ℕ → List ℕ → Found → Parsed (List ℕ)
numbers_in k from s r = found_as (hexes_at s from k r.value) s r

-- and where they lie
abbrev pub Spans : ℕ → ℕ → ℕ → ℕ → List ℕ → Found → Type 0
Spans k least most from s r =
    r.ok ≡ true →
    (least ≤ r.value) × (r.value ≤ most) × (r.at ≡ from + r.value * k + 1) × (r.at ≤ length s)
