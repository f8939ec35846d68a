-- Bytes with no CRLF among them are one line; lines with CRLF between them are their text. Assumes nothing.
use Prim.Native.Nat.{ℕ, ◌<◌, ◌≤◌}
use mathlib.Core.Path.{◌≡◌, refl, sym, ap, ◌∙◌}
use mathlib.Core.Bool.{Bool, true, false, cond, ◌&&◌, not, and-false}
use mathlib.Core.List.{List, [], ◌∷◌, ◌++◌, append-nil}
use native.Mathlib.Omega.{arith}
use lib.Dec.{eqb, lit<}
use borrow.Author.Tests.{eqb-true, ne_eqb}
use Rattle.answer.proofs.Below.{both}
use Rattle.jp2_grammar.specs.Notation.{Standing, passed}
use Rattle.jp2_grammar.specs.ByGrammar.{on_first, lines_of}

-- no LF stands directly behind a CR, where the byte before may be a CR; and whether the last byte is one
abbrev pub unbroken : Bool → List ℕ → Bool
unbroken cr [] = true
unbroken cr (b ∷ bs) = not (cr && eqb b 10) && unbroken (eqb b 13) bs

abbrev pub returns : Bool → List ℕ → Bool
returns cr [] = cr
returns cr (b ∷ bs) = returns (eqb b 13) bs

-- no line ends within the bytes
pub record Whole (p : Standing) (s : List ℕ) (q : Standing) : Type 0 where
  pub within : unbroken p.after_return s ≡ true
  pub last : returns p.after_return s ≡ q.after_return

unbroken-on :
    (cr : Bool) (s t : List ℕ) → unbroken cr s ≡ true → unbroken (returns cr s) t ≡ true → unbroken cr (s ++ t) ≡ true
unbroken-on cr [] t a b = b
unbroken-on cr (x ∷ s) t a b =
    let q = both (not (cr && eqb x 10)) (unbroken (eqb x 13) s) a in
    rw q.0 (unbroken-on (eqb x 13) s t q.1 b)

returns-on : (cr : Bool) (s t : List ℕ) → returns cr (s ++ t) ≡ returns (returns cr s) t
returns-on cr [] t = refl
returns-on cr (x ∷ s) t = returns-on (eqb x 13) s t

pub whole-on : {p m q : Standing} {s t : List ℕ} → Whole p s m → Whole m t q → Whole p (s ++ t) q
whole-on {p} {s = s} {t = t} a b =
    record {
      within = unbroken-on p.after_return s t a.within (rw a.last b.within);
      last = returns-on p.after_return s t ∙ rw a.last b.last;
    }

pub whole-none : (p : Standing) → Whole p [] p
whole-none p = record { within = refl; last = refl }

-- bytes that leave no CR behind, whatever stands before them; and one byte that is no control
pub whole_sent :
    (p q : Standing) (s : List ℕ) → unbroken true s ≡ true → returns p.after_return s ≡ q.after_return → Whole p s q
whole_sent p q s h r = record { within = from p.after_return s h; last = r }
  where
    from : (cr : Bool) (s : List ℕ) → unbroken true s ≡ true → unbroken cr s ≡ true
    from true s h = h
    from false [] h = refl
    from false (b ∷ s) h = (both (not (eqb b 10)) (unbroken (eqb b 13) s) h).1

pub whole-byte : (p : Standing) (b : ℕ) → 32 ≤ b → Whole p (b ∷ []) (passed p)
whole-byte p b l =
    let no : (n : ℕ) → n < 32 → eqb b n ≡ false = λ n k. ne_eqb b n (λ e. omega arith) in
    whole_sent p (passed p) (b ∷ []) (rw (no 10 (lit< tt))) (no 13 (lit< tt))

-- a single-byte-char is whole, for it is no LF after CR
pub whole-char :
    (p : Standing) (b : ℕ) → (p.after_return && eqb b 10) ≡ false →
    Whole p (b ∷ []) (record { set = p.set; designated = p.designated; after_return = eqb b 13 })
whole-char p b n = record { within = rw n; last = refl }

unreturned : (t r : Bool) → not (t && r) ≡ true → (t && r) ≡ false
unreturned true true e = sym e
unreturned true false e = refl
unreturned false r e = refl

unfoldable pub starts_lf : List ℕ → Bool
starts_lf [] = false
starts_lf (b ∷ bs) = eqb b 10

-- a byte in front that ends no line, and whole bytes in front, make the first line longer
front-byte :
    (b : ℕ) (s line : List ℕ) (lines : List (List ℕ)) → (eqb b 13 && starts_lf s) ≡ false → lines_of s ≡ line ∷ lines →
    lines_of (b ∷ s) ≡ (b ∷ line) ∷ lines
unfolding lines_of starts_lf
front-byte b [] line lines n e = ap (on_first b) e
front-byte b (c ∷ s) line lines n e = rw n (ap (on_first b) e)

not-lf :
    (cr : Bool) (e s : List ℕ) → unbroken cr e ≡ true → (returns cr e && starts_lf s) ≡ false →
    (cr && starts_lf (e ++ s)) ≡ false
unfolding starts_lf
not-lf cr [] s u r = r
not-lf cr (b ∷ e) s u r = unreturned cr (eqb b 10) (both (not (cr && eqb b 10)) (unbroken (eqb b 13) e) u).0

front_by :
    (cr : Bool) (e s line : List ℕ) (lines : List (List ℕ)) → unbroken cr e ≡ true →
    (returns cr e && starts_lf s) ≡ false → lines_of s ≡ line ∷ lines → lines_of (e ++ s) ≡ (e ++ line) ∷ lines
front_by cr [] s line lines u r c = c
front_by cr (b ∷ e) s line lines u r c =
    let q = (both (not (cr && eqb b 10)) (unbroken (eqb b 13) e) u).1 in
    front-byte b (e ++ s) (e ++ line) lines (not-lf (eqb b 13) e s q r) (front_by (eqb b 13) e s line lines q r c)

pub front :
    {p q : Standing} (e s : List ℕ) {line : List ℕ} {lines : List (List ℕ)} → Whole p e q →
    (q.after_return && starts_lf s) ≡ false → lines_of s ≡ line ∷ lines → lines_of (e ++ s) ≡ (e ++ line) ∷ lines
front {p} e s {line} {lines} w r c =
    front_by p.after_return e s line lines w.within (rw w.last r) c

-- and so they are one line
pub one_line : {p q : Standing} {s : List ℕ} → Whole p s q → lines_of s ≡ s ∷ []
unfolding lines_of starts_lf
one_line {q = q} {s = s} w = rw append-nil at (front s [] w (and-false q.after_return) refl)

-- lines with CRLF between them
abbrev pub behind : List (List ℕ) → List ℕ
behind [] = []
behind (line ∷ lines) = 13 ∷ 10 ∷ (line ++ behind lines)

abbrev joined : List (List ℕ) → List ℕ
joined [] = []
joined (line ∷ lines) = line ++ behind lines

-- a text has a first line
pub record Cut (s : List ℕ) : Type 0 where
  pub line : List ℕ
  pub lines : List (List ℕ)
  pub so : lines_of s ≡ line ∷ lines

cut_by :
    (t : Bool) (b : ℕ) (lines : List (List ℕ)) {s : List ℕ} → Cut s →
    (line : List ℕ) × (rest : List (List ℕ)) × (cond t ([] ∷ lines) (on_first b (lines_of s)) ≡ line ∷ rest)
cut_by true b lines c = ([], lines, refl)
cut_by false b lines c = (b ∷ c.line, c.lines, rw c.so)

pub cut : (s : List ℕ) → Cut s
unfolding lines_of
cut [] = record { line = []; lines = []; so = refl }
cut (b ∷ []) = record { line = b ∷ []; lines = []; so = refl }
cut (b ∷ c ∷ rest) =
    let q = cut_by (eqb b 13 && eqb c 10) b (lines_of rest) (cut (c ∷ rest)) in
    record { line = q.0; lines = q.1; so = q.2 }

join_by :
    (t : Bool) (b c : ℕ) (rest : List ℕ) → (eqb b 13 && eqb c 10) ≡ t → joined (lines_of rest) ≡ rest →
    joined (lines_of (c ∷ rest)) ≡ c ∷ rest →
    joined (cond t ([] ∷ lines_of rest) (on_first b (lines_of (c ∷ rest)))) ≡ b ∷ c ∷ rest
join_by true b c rest t one two =
    let q = both (eqb b 13) (eqb c 10) t in
    let k = cut rest in
    rw (k.so, eqb-true b 13 q.0, eqb-true c 10 q.1) (ap (λ (l : List ℕ). 13 ∷ 10 ∷ l) (rw k.so at one))
join_by false b c rest t one two =
    let k = cut (c ∷ rest) in
    rw k.so (ap (λ (l : List ℕ). b ∷ l) (rw k.so at two))

-- joined again, the lines are the text
lines-joined : (s : List ℕ) → joined (lines_of s) ≡ s
unfolding lines_of
lines-joined [] = refl
lines-joined (b ∷ []) = refl
lines-joined (b ∷ c ∷ rest) =
    join_by (eqb b 13 && eqb c 10) b c rest refl (lines-joined rest) (lines-joined (c ∷ rest))

pub cut-joined : (s : List ℕ) → let k = cut s in k.line ++ behind k.lines ≡ s
cut-joined s = sym (ap joined (cut s).so) ∙ lines-joined s
