-- Demand 2: exactly what is accepted and given, of every text that is read and all cells that are written; names too.
use Rattle.std.specs.Prelude.{ℕ, ◌≤◌, ◌<◌, ◌^◌, ◌≡◌, ◌↔◌, Bool, true, not, List, [], ◌∷◌, length, take, ltb}
use Rattle.answer.specs.Answer.{numbered, limit, too_long}
use Rattle.answer.specs.Lists.{Each}
use Rattle.answer.specs.Output.{Outcome, refusing, filled}
use Rattle.reading.specs.Reading.{accepted, fault}
use Rattle.utf7.specs.Sets.{member}
use Rattle.utf7.specs.Writing.{writing, write_into}
use Rattle.utf7.specs.declared.Style.TheVariants.{Name}
use Rattle.jp2.specs.Table.{first_where}
use Rattle.jp2.specs.Writable.{writable}
use Rattle.codec.specs.declared.Format.{Format}
use Rattle.codec.specs.declared.Format.TheVariants.{Utf7, Jp2, Mailbox}
use Rattle.codec.specs.declared.Kind.{Kind}
use Rattle.codec.specs.declared.Kind.TheVariants as kind
use Rattle.codec.specs.declared.Kind.TheVariants.{Utf7Header, Utf7Body}
use Rattle.codec.specs.Kinds.{format_of, reading_of, read_in, writing_in, write_in}

-- what an accepted call leaves: 0 with the count of elements; they are in front of the output, its rest is as it was
abbrev pub given : List ℕ → List ℕ → Outcome
given elements out = record { verdict = numbered 0 (length elements); out = filled elements out }

-- "A number is given exactly when its condition holds and none before it does"; and then the call leaves this
pub record Exactly (o : Outcome) (Condition : Type 0) (left : Outcome) : Type 0 where
  pub when : (o.verdict.number ≡ left.verdict.number) ↔ Condition
  pub leaves : Condition → o ≡ left

-- what is lent is within the limit, and the output has room for elements
abbrev pub Within : List ℕ → Type 0
Within lent = length lent ≤ limit

abbrev pub Room : List ℕ → List ℕ → Type 0
Room elements out = length elements ≤ length out

-- the faults that a text can have; a name has 7 and 17 too, as document 02, order 1 says
abbrev pub faults_in : Format → List ℕ
faults_in Utf7 = 1 ∷ 2 ∷ 3 ∷ 4 ∷ []
faults_in Jp2 = 1 ∷ 3 ∷ 5 ∷ 6 ∷ 7 ∷ 8 ∷ []
faults_in Mailbox = 1 ∷ 2 ∷ 3 ∷ 4 ∷ 7 ∷ 17 ∷ []

-- reading a text into an output
module _ (format : Format) (text out : List ℕ) where
  abbrev pub cells_of : List ℕ
  cells_of = (reading_of format text).cells

  abbrev pub Faultless : Type 0
  Faultless = (reading_of format text).ending ≡ accepted

  pub record Reads : Type 0 where
    pub accepts : Exactly (read_in format text out) (Within text × (Faultless × Room cells_of out)) (given cells_of out)
    pub over : Exactly (read_in format text out) (limit < length text) (refusing too_long out)
    pub faulty :
        (k place : ℕ) → (reading_of format text).ending ≡ fault k place →
        Exactly (read_in format text out) (Within text) (refusing (numbered k place) out)
        × (member (faults_in format) k ≡ true)
    pub cramped :
        Exactly (read_in format text out) (Within text × (Faultless × (length out < length cells_of)))
        (refusing (numbered 9 (length cells_of)) out)

-- the cells that can be written: "UTF-7 cells are UTF-16 units, 0 to 65535", and those of JP-2
abbrev pub is_unit : ℕ → Bool
is_unit cell = ltb cell (2 ^ 16)

abbrev pub writable_in : Kind → ℕ → Bool
writable_in Utf7Header cell = is_unit cell
writable_in Utf7Body cell = is_unit cell
writable_in kind.Jp2 cell = writable cell

-- a way of writing: the format of what is written, the cells that can be, the bytes, and the call
pub record Writer : Type 0 where
  pub format : Format
  pub writable : ℕ → Bool
  pub writing : List ℕ → List ℕ
  pub write : List ℕ → List ℕ → Outcome

abbrev pub in_kind : Kind → Writer
in_kind k = record { format = format_of k; writable = writable_in k; writing = writing_in k; write = write_in k }

abbrev pub in_names : Writer
in_names = record { format = Mailbox; writable = is_unit; writing = writing Name; write = write_into Name }

-- writing cells into an output
module _ (w : Writer) (cells out : List ℕ) where
  abbrev pub bytes_of : List ℕ
  bytes_of = w.writing cells

  abbrev pub AllWritable : Type 0
  AllWritable = Each (λ v. w.writable v ≡ true) cells

  -- the index of the first cell that is not writable, or the number of cells
  abbrev pub first_bad : ℕ
  first_bad = first_where (λ v. not (w.writable v)) cells

  -- what an accepted call wrote, within the limit of reading, reads back as the same cells
  abbrev pub ReadsBack : Outcome → Type 0
  ReadsBack o =
      o.verdict.number ≡ 0 → o.verdict.place ≤ limit → (room : List ℕ) → Room cells room →
      read_in w.format (take o.verdict.place o.out) room ≡ given cells room

  pub record Writes : Type 0 where
    pub accepts : Exactly (w.write cells out) (Within cells × (AllWritable × Room bytes_of out)) (given bytes_of out)
    pub over : Exactly (w.write cells out) (limit < length cells) (refusing too_long out)
    pub unwritable :
        Exactly (w.write cells out) (Within cells × (AllWritable → ⊥)) (refusing (numbered 10 first_bad) out)
    pub cramped :
        Exactly (w.write cells out) (Within cells × (AllWritable × (length out < length bytes_of)))
        (refusing (numbered 9 (length bytes_of)) out)
    -- and it refuses with nothing else
    pub only : member (0 ∷ 9 ∷ 10 ∷ 16 ∷ []) (w.write cells out).verdict.number ≡ true
    pub back : ReadsBack (w.write cells out)

pub record Demand2 : Type 0 where
  pub reads : (format : Format) (text out : List ℕ) → Reads format text out
  pub writes : (kind : Kind) (cells out : List ℕ) → Writes (in_kind kind) cells out
  pub names : (cells out : List ℕ) → Writes in_names cells out
