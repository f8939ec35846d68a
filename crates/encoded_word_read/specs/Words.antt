-- Good words of a line, as the contracts of the functions that read them whole say it: no promise to a caller rests on
-- these.
use Rattle.std.specs.Prelude.{ℕ, ◌+◌, ◌-◌, ◌*◌, ◌<◌, ◌≤◌, ◌≡◌, true, cond, List, [], ◌∷◌, ◌++◌, length, take, drop, eqb}
use Rattle.answer.specs.Output.{filled}
use Rattle.reading.specs.Reading.{accepted, read_from, reading}
use Rattle.utf7.specs.Rule.{Shift, utf7}
use Rattle.parsing.specs.Digits.{value_of}
use Rattle.encoded_word.specs.Writing.{itself}
use Rattle.encoded_word.specs.Rule.{Part, start, behind, subject}

-- a text and the bytes that it spells: `_`, characters that stand for themselves, pairs for any byte
pub data Spells : List ℕ → List ℕ → Type 0 where
  none : Spells [] []
  space : {q bs : List ℕ} → Spells q bs → Spells (95 ∷ q) (32 ∷ bs)
  self : {b : ℕ} {q bs : List ℕ} → itself b ≡ true → Spells q bs → Spells (b ∷ q) (b ∷ bs)
  pair :
      {d e : ℕ} {q bs : List ℕ} → value_of d < 16 → value_of e < 16 → Spells q bs →
      Spells (61 ∷ d ∷ e ∷ q) ((16 * value_of d + value_of e) ∷ bs)

-- so many characters at a place spell a byte
pub record SpellsAt (line : List ℕ) (at size b : ℕ) : Type 0 where
  pub within : at + size ≤ length line
  pub so : Spells (take size (drop at line)) (b ∷ [])

-- what stands from one place to another, of at most 63 characters, spells the first n bytes of a buffer
pub record Unspells (line : List ℕ) (from end : ℕ) (buffer : List ℕ) (n : ℕ) : Type 0 where
  pub after : from ≤ end
  pub within : end ≤ length line
  pub few : end ≤ from + 63
  pub count : n ≤ end - from
  pub room : 63 ≤ length buffer
  pub so : Spells (take (end - from) (drop from line)) (take n buffer)

-- where a byte stands behind good words, or before any
abbrev pub part_at : ℕ → Part Shift
part_at at = cond (eqb at 0) start behind

-- reading gives some cells from a place to a later one
pub record Strides (line : List ℕ) (at : ℕ) (from : Part Shift) (end : ℕ) (to : Part Shift) (cs : List ℕ) : Type 0 where
  pub within : end ≤ length line
  pub few : at + length cs ≤ end
  pub same :
      let r = read_from subject (drop end line) end to in
      read_from subject (drop at line) at from ≡ record { cells = cs ++ r.cells; ending = r.ending }

-- a word, that is read as its bytes are where these are accepted
abbrev pub ReadsBy : List ℕ → ℕ → ℕ → List ℕ → Type 0
ReadsBy line at end bs =
    (reading utf7 bs).ending ≡ accepted → Strides line at (part_at at) end behind (reading utf7 bs).cells

-- a good word was read into an output, or none was and the output is as it was
pub record Read (line : List ℕ) (at : ℕ) (out out' : List ℕ) (count end : ℕ) : Type 0 where
  pub cells : List ℕ
  pub stride : Strides line at (part_at at) end behind cells
  pub so : out' ≡ filled cells out
  pub size : count ≡ length cells

abbrev pub Strode : List ℕ → ℕ → List ℕ → List ℕ → ℕ → ℕ → Type 0
Strode line at out out' count end = (at < end → Read line at out out' count end) × (end ≤ at → out' ≡ out)
