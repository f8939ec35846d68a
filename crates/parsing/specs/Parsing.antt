-- Reading by parts: a parser finds what the bytes that are left begin with, or the place of the first byte that cannot
-- stand there. And languages, which say what is right.
use Rattle.std.specs.Prelude.{ℕ, ◌+◌, ◌<◌, ◌≤◌, max, cond, List, [], ◌∷◌, ◌++◌, length, take, eqb}

-- what is found, with the bytes behind it and their place; or the place of the failure
pub data Parsed (A : Type 0) : Type 0 where
  found : A → List ℕ → ℕ → Parsed A
  failed : ℕ → Parsed A

-- by the bytes that are left, and their place
abbrev pub Parser : Type 0 → Type 0
Parser A = List ℕ → ℕ → Parsed A

abbrev pub on_parsed : {A B : Type 0} → Parsed A → (A → Parser B) → Parsed B
on_parsed (found a rest at) next = next a rest at
on_parsed (failed at) next = failed at

-- nothing more
abbrev pub done : {A : Type 0} → A → Parser A
done a = λ bs at. found a bs at

-- one part, and then what follows by what it was
abbrev pub ◌>>=◌ : {A B : Type 0} → Parser A → (A → Parser B) → Parser B
◌>>=◌ m next = λ bs at. on_parsed (m bs at) next

abbrev pub ◌>>◌ : {B : Type 0} → Parser Unit → Parser B → Parser B
◌>>◌ m next = λ bs at. on_parsed (m bs at) (λ _. next)

-- of two failures the further one
abbrev pub further : {A : Type 0} → ℕ → Parsed A → Parsed A
further place (found a rest at) = found a rest at
further place (failed at) = failed (max place at)

abbrev pub or_else : {A : Type 0} → Parsed A → Parsed A → Parsed A
or_else (found a rest at) other = found a rest at
or_else (failed at) other = further at other

-- one or the other
abbrev pub either : {A : Type 0} → Parser A → Parser A → Parser A
either m n = λ bs at. or_else (m bs at) (n bs at)

-- these bytes
unfoldable pub literal : List ℕ → Parser Unit
literal [] bs at = found tt bs at
literal (x ∷ xs) [] at = failed at
literal (x ∷ xs) (b ∷ bs) at = cond (eqb b x) (literal xs bs (at + 1)) (failed at)

-- a language: which bytes spell a value
abbrev pub Language : Type 0 → Type 1
Language A = A → List ℕ → Type 0

-- bytes that some spelling begins with
abbrev pub Begins : {A : Type 0} → Language A → List ℕ → Type 0
Begins {A} L bs = (a : A) × (more : List ℕ) × L a (bs ++ more)

-- "at the first byte no page file can have there, or the length if it ends early", of any language: what is before the
-- place begins some spelling, and with the byte at it begins none
pub record FirstFault {A : Type 0} (L : Language A) (bs : List ℕ) (place : ℕ) : Type 0 where
  pub inside : place ≤ length bs
  pub before : Begins L (take place bs)
  pub there : place < length bs → Begins L (take (place + 1) bs) → ⊥

-- a text as a whole: nothing may stand behind what is found
pub data Whole (A : Type 0) : Type 0 where
  whole : A → Whole A
  broken : ℕ → Whole A

abbrev pub wholly : {A : Type 0} → Parsed A → Whole A
wholly (found a [] at) = whole a
wholly (found a (b ∷ rest) at) = broken at
wholly (failed at) = broken at

-- what is right of a text: it spells what was found; or it spells nothing, and the place is that of its first fault
abbrev pub Right : {A : Type 0} → Language A → List ℕ → Whole A → Type 0
Right L bs (whole a) = L a bs
Right {A} L bs (broken place) = FirstFault L bs place × ((a : A) → L a bs → ⊥)
