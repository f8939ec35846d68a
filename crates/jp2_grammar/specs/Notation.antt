-- RFC 822's notation, over bytes. RFC 1554: "The notational conventions used here are identical to those used in
-- STD 11, RFC822".
use Rattle.std.specs.Prelude.{ℕ, ◌≤◌, Bool, false, List, [], ◌∷◌, ◌++◌}
use Prim.Native.String.{String}
use Rattle.answer.specs.Bytes.{bytes}

infixr 20 ◌or◌
infixr 30 ◌then◌
-- where a byte of a line stands: the set in G0, by its "reg#"; whether the line has had a G2 designation; whether the
-- byte before is CR
pub record Standing : Type 0 where
  pub set : ℕ
  pub designated : Bool
  pub after_return : Bool

-- `A p s q`: the bytes s follow A; p is where they stand, q where the next byte does
abbrev pub Syntax : Type 1
Syntax = Standing → List ℕ → Standing → Type 0

-- A / B
pub data ◌or◌ (A B : Syntax) : Standing → List ℕ → Standing → Type 0 where
  left : {p q : Standing} {s : List ℕ} → A p s q → (A or B) p s q
  right : {p q : Standing} {s : List ℕ} → B p s q → (A or B) p s q

-- A B
pub data ◌then◌ (A B : Syntax) : Standing → List ℕ → Standing → Type 0 where
  both : {p m q : Standing} {s t : List ℕ} → A p s m → B m t q → (A then B) p (s ++ t) q

-- *A: "at least l and at most m somethings, with l and m taking default values of 0 and infinity"
pub data Many (A : Syntax) : Standing → List ℕ → Standing → Type 0 where
  none : {p : Standing} → Many A p [] p
  more : {p m q : Standing} {s t : List ℕ} → A p s m → Many A m t q → Many A p (s ++ t) q

-- [A]
pub data Optional (A : Syntax) : Standing → List ℕ → Standing → Type 0 where
  absent : {p : Standing} → Optional A p [] p
  present : {p q : Standing} {s : List ℕ} → A p s q → Optional A p s q

-- any byte but CR leaves this
abbrev pub passed : Standing → Standing
passed p = record { set = p.set; designated = p.designated; after_return = false }

-- "A", a literal, and what it makes of where it stands
pub data Literal (literal : String) (change : Standing → Standing) : Standing → List ℕ → Standing → Type 0 where
  sent : {p : Standing} → Literal literal change p (bytes literal) (change p)

-- most change nothing
abbrev pub lit : String → Syntax
lit literal = Literal literal passed

-- <any one of .. values>: a byte from the least to the most
pub data OneOf (least most : ℕ) : Standing → List ℕ → Standing → Type 0 where
  value : {p : Standing} {b : ℕ} → least ≤ b → b ≤ most → OneOf least most p (b ∷ []) (passed p)
