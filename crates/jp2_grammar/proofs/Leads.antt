-- The reader goes through what follows RFC 1554's syntax. Assumes nothing.
use Prim.Native.Nat.{ℕ, ◌<◌}
use Prim.Native.String.{String}
use mathlib.Core.Path.{◌≡◌, refl, ap, ◌∙◌}
use mathlib.Core.Bool.{Bool, true, false, cond, ◌&&◌, not, false≢true, and-false}
use mathlib.Core.List.{List, [], ◌∷◌, ◌++◌, append-nil}
use native.Mathlib.Omega.{arith}
use lib.Dec.{eqb, lit<}
use Rattle.answer.specs.Bytes.{bytes}
use Rattle.answer.proofs.Below.{cond-case}
use Rattle.reading.specs.Reading.{accepted, Reading, reading}
use Rattle.reading.proofs.Walk.{Walk, stay, gives, goes, walk-on, walk-whole, Arrives, arrives-on}
use Rattle.jp2.specs.Table.{row_at, designations, sent}
use Rattle.jp2.specs.Rule.{State, plain, state, designated, between_does, jp2}
use Rattle.jp2.specs.Writable.{ascii, pair_set}
use Rattle.jp2.proofs.Sets.{single, pair-apart}
use Rattle.jp2.proofs.Sends.{phase_of, byte-between}
use Rattle.jp2.proofs.Table.{row-walk}
use Rattle.jp2.proofs.Round.{byte-first, byte-second, byte-n, byte-shifted}
use Rattle.jp2.proofs.Ends.{Last, Rests, last-ends}
use Rattle.jp2_grammar.specs.Notation.{Standing, Syntax, ◌or◌, left, right, ◌then◌, both, Many, none, more}
use Rattle.jp2_grammar.specs.Notation.{Optional, absent, present, passed, Literal, sent as letter, OneOf, value}
use Rattle.jp2_grammar.specs.Grammar.{one-of-94, single-byte-char, single-shift-seq, single-shift-char, G0, G2}
use Rattle.jp2_grammar.specs.Grammar.{g2-desig-seq, double-byte-seq, single-byte-seq, segment, text}
use Rattle.jp2_grammar.specs.ByGrammar.{lines_of, line_start, Follow, in_ascii, ByGrammar}
use Rattle.jp2_grammar.proofs.Bytes.{graphic-in, ascii-in, byte-char}
use Rattle.jp2_grammar.proofs.Whole.{unbroken, returns, Whole, whole-on, whole-none, whole_sent, whole-byte}
use Rattle.jp2_grammar.proofs.Whole.{whole-char, one_line, behind, cut, cut-joined}

-- the reader's state where a line stands
abbrev pub state_at : Standing → ℕ → State
state_at p g2 = state p.set g2 (phase_of p.after_return)

-- the line has had a G2 designation just where G2 has a set
abbrev pub Holds : Standing → ℕ → Type 0
Holds p g2 = not (eqb g2 0) ≡ p.designated

pub record Led (p : Standing) (s : List ℕ) (q : Standing) (g2 : ℕ) : Type 0 where
  kept : ℕ
  cells : List ℕ
  holds : Holds q kept
  walk : Walk jp2 (state_at p g2) s cells (state_at q kept)

led :
    {p q : Standing} {s cells : List ℕ} {g2 : ℕ} (kept : ℕ) → Holds q kept →
    Walk jp2 (state_at p g2) s cells (state_at q kept) → Led p s q g2
led {cells = cells} kept holds walk = record { kept = kept; cells = cells; holds = holds; walk = walk }

led_on : {p m q : Standing} {s t : List ℕ} {g2 : ℕ} (a : Led p s m g2) → Led m t q a.kept → Led p (s ++ t) q g2
led_on a b =
    record { kept = b.kept; cells = a.cells ++ b.cells; holds = b.holds; walk = walk-on a.walk b.walk }

-- bytes that are whole, and that from a set in G0 that is right before them lead the reader on to one that is right
-- after them
pub record Passes (Before After : ℕ → Type 0) (p : Standing) (s : List ℕ) (q : Standing) : Type 0 where
  pub whole : Whole p s q
  leads : Before p.set → After q.set × ((g2 : ℕ) → Holds p g2 → Led p s q g2)

-- all that follow A are such
abbrev pub Passing : (ℕ → Type 0) → (ℕ → Type 0) → Syntax → Type 0
Passing Before After A = (p : Standing) (s : List ℕ) (q : Standing) → A p s q → Passes Before After p s q

pub record Leads (Before After : ℕ → Type 0) (A : Syntax) : Type 0 where
  pub by : Passing Before After A

abbrev pub Single : ℕ → Type 0
Single n = single n ≡ true

abbrev pub Pair : ℕ → Type 0
Pair n = pair_set n ≡ true

abbrev pub Any : ℕ → Type 0
Any n = Unit

or-leads : {X Y : ℕ → Type 0} {A B : Syntax} → Leads X Y A → Leads X Y B → Leads X Y (A or B)
or-leads {X} {Y} {A} {B} f g = record { by = go }
  where
    go : Passing X Y (A or B)
    go p s q (left a) = f.by p s q a
    go p s q (right b) = g.by p s q b

passes_on :
    {X Y Z : ℕ → Type 0} {p m q : Standing} {s t : List ℕ} → Passes X Y p s m → Passes Y Z m t q →
    Passes X Z p (s ++ t) q
passes_on a b =
    record {
      whole = whole-on a.whole b.whole;
      leads = λ h.
          let l = a.leads h in
          let r = b.leads l.0 in
          (r.0, λ g2 k. let i = l.1 g2 k in led_on i (r.1 i.kept i.holds));
    }

then-leads : {X Y Z : ℕ → Type 0} {A B : Syntax} → Leads X Y A → Leads Y Z B → Leads X Z (A then B)
then-leads {X} {Y} {Z} {A} {B} f g = record { by = go }
  where
    go : Passing X Z (A then B)
    go p s q (both a b) = passes_on (f.by p _ _ a) (g.by _ _ q b)

nothing-passes : {X : ℕ → Type 0} (p : Standing) → Passes X X p [] p
nothing-passes p =
    record {
      whole = whole-none p;
      leads = λ h. (h, λ g2 k. led g2 k stay);
    }

many-leads : {X : ℕ → Type 0} {A : Syntax} → Leads X X A → Leads X X (Many A)
many-leads {X} {A} f = record { by = go }
  where
    go : Passing X X (Many A)
    go p s q none = nothing-passes p
    go p s q (more a m) = passes_on (f.by p _ _ a) (go _ _ q m)

optional-leads : {X : ℕ → Type 0} {A : Syntax} → Leads X X A → Leads X X (Optional A)
optional-leads {X} {A} f = record { by = go }
  where
    go : Passing X X (Optional A)
    go p s q absent = nothing-passes p
    go p s q (present a) = f.by p s q a

-- what follows A follows B too
abbrev Within : Syntax → Syntax → Type 0
Within A B = (p : Standing) (s : List ℕ) (q : Standing) → A p s q → B p s q

through : {X Y : ℕ → Type 0} {A B : Syntax} → Within A B → Leads X Y B → Leads X Y A
through {X} {Y} {A} f b = record { by = go }
  where
    go : Passing X Y A
    go p s q a = b.by p s q (f p s q a)

-- a row of the table, to G0 and to G2
module _
    (i n : ℕ) (escape : String) (known : i < 9) (spelled : sent (row_at i) ≡ bytes escape)
    (whole : unbroken true (bytes escape) ≡ true) (last : (cr : Bool) → returns cr (bytes escape) ≡ false)
  where
    row-leads : (p : Standing) (g2 : ℕ) → Walk jp2 (state_at p g2) (bytes escape) [] (designated p.set g2 (row_at i))
    row-leads p g2 = rw spelled at (row-walk p.set g2 i known p.after_return)

    to-g0 :
        {X : ℕ → Type 0} → ((g0 g2 : ℕ) → designated g0 g2 (row_at i) ≡ state n g2 plain) → X n →
        Leads Any X (G0 n escape)
    to-g0 {X} e x = record { by = go }
      where
        go : Passing Any X (G0 n escape)
        go p s q letter =
            record {
              whole = whole_sent p q s whole (last p.after_return);
              leads = λ h. (x, λ g2 k. led g2 k (rw (e p.set g2) at (row-leads p g2)));
            }

    to-g2 :
        {X : ℕ → Type 0} → ((g0 g2 : ℕ) → designated g0 g2 (row_at i) ≡ state g0 n plain) → eqb n 0 ≡ false →
        Leads X X (G2 escape)
    to-g2 {X} e z = record { by = go }
      where
        go : Passing X X (G2 escape)
        go p s q letter =
            record {
              whole = whole_sent p q s whole (last p.after_return);
              leads = λ h. (h, λ g2 k. led n (rw z) (rw (e p.set g2) at (row-leads p g2)));
            }

-- the designations, as one literal each
single-byte-rows : Within single-byte-seq (G0 6 "␛(B" or G0 14 "␛(J")
single-byte-rows p s q (both letter (both letter (left letter))) = left letter
single-byte-rows p s q (both letter (both letter (right letter))) = right letter

abbrev DoubleBytes : Syntax
DoubleBytes = (G0 42 "␛$@" or G0 58 "␛$A" or G0 87 "␛$B") or G0 149 "␛$(C" or G0 159 "␛$(D"

double-byte-rows : Within double-byte-seq DoubleBytes
double-byte-rows p s q (left (both letter (both letter (left letter)))) = left (left letter)
double-byte-rows p s q (left (both letter (both letter (right (left letter))))) = left (right (left letter))
double-byte-rows p s q (left (both letter (both letter (right (right letter))))) = left (right (right letter))
double-byte-rows p s q (right (both letter (both letter (both letter (left letter))))) = right (left letter)
double-byte-rows p s q (right (both letter (both letter (both letter (right letter))))) = right (right letter)

g2-rows : Within g2-desig-seq (G2 "␛.A" or G2 "␛.F")
g2-rows p s q (both letter (both letter (left letter))) = left letter
g2-rows p s q (both letter (both letter (right letter))) = right letter

pub single-byte-leads : Leads Any Single single-byte-seq
unfolding designations
single-byte-leads =
    through single-byte-rows
    (or-leads (to-g0 0 6 _ (lit< tt) refl refl (λ _. refl) (λ g0 g2. refl) refl)
    (to-g0 1 14 _ (lit< tt) refl refl (λ _. refl) (λ g0 g2. refl) refl))

pub double-byte-leads : Leads Any Pair double-byte-seq
unfolding designations pair_set
double-byte-leads =
    through double-byte-rows
    (or-leads
    (or-leads (to-g0 2 42 _ (lit< tt) refl refl (λ _. refl) (λ g0 g2. refl) refl)
    (or-leads (to-g0 4 58 _ (lit< tt) refl refl (λ _. refl) (λ g0 g2. refl) refl)
    (to-g0 3 87 _ (lit< tt) refl refl (λ _. refl) (λ g0 g2. refl) refl)))
    (or-leads (to-g0 5 149 _ (lit< tt) refl refl (λ _. refl) (λ g0 g2. refl) refl)
    (to-g0 6 159 _ (lit< tt) refl refl (λ _. refl) (λ g0 g2. refl) refl)))

pub g2-leads : {X : ℕ → Type 0} → Leads X X g2-desig-seq
unfolding designations
g2-leads =
    through g2-rows
    (or-leads (to-g2 7 100 _ (lit< tt) refl refl (λ _. refl) (λ g0 g2. refl) refl)
    (to-g2 8 126 _ (lit< tt) refl refl (λ _. refl) (λ g0 g2. refl) refl))

some : (t : Bool) → not t ≡ true → t ≡ false
some true e = absurd (false≢true e)
some false e = refl

pub shift-leads : {X : ℕ → Type 0} → Leads X X single-shift-char
unfolding between_does
shift-leads {X} = record { by = go }
  where
    go : Passing X X single-shift-char
    go p s q (both (single-shift-seq.shift d (both letter letter)) (value {b = b} l u)) =
        record {
          whole = whole-on (whole_sent p (passed p) (bytes "␛N") refl refl) (whole-byte (passed p) b l);
          leads = λ h. (
            h,
            λ g2 k. led g2 k
                (goes (byte-between p.set g2 p.after_return 27 (lit< tt))
                (goes (byte-n p.set g2 (some (eqb g2 0) (k ∙ d))) (gives (byte-shifted p.set g2 b l u) stay))),
          );
        }

pub char-leads : Leads Single Single single-byte-char
char-leads = record { by = go }
  where
    go : Passing Single Single single-byte-char
    go p s q (single-byte-char.char {b = b} l n a) =
        record {
          whole = whole-char p b n;
          leads = λ h. (
            h,
            λ g2 k. led g2 k (gives (rw n at (byte-char p.set g2 b p.after_return h (ascii-in b l a))) stay),
          );
        }

pub pair-leads : Leads Pair Pair (one-of-94 then one-of-94)
pair-leads = record { by = go }
  where
    go : Passing Pair Pair (one-of-94 then one-of-94)
    go p s q (both (value {b = a} l u) (value {b = b} m v)) =
        record {
          whole = whole-on (whole-byte p a (omega arith)) (whole-byte (passed p) b (omega arith));
          leads = λ h.
              let w = pair-apart p.set h in (
                h,
                λ g2 k. led g2 k
                    (goes (byte-first p.set g2 a (graphic-in a l u) p.after_return w.0 w.1)
                    (gives (byte-second p.set g2 b (graphic-in b m v) a) stay)),
              );
        }

abbrev pub singles : Syntax
singles = Many (single-byte-char or g2-desig-seq or single-shift-char)

abbrev pub pairs : Syntax
pairs = Many ((one-of-94 then one-of-94) or g2-desig-seq or single-shift-char)

singles-lead : Leads Single Single singles
singles-lead = many-leads (or-leads char-leads (or-leads g2-leads shift-leads))

pairs-lead : Leads Pair Pair pairs
pairs-lead = many-leads (or-leads pair-leads (or-leads g2-leads shift-leads))

-- a set that is right is any set
weaker : {X Y : ℕ → Type 0} {A : Syntax} → Leads X Y A → Leads X Any A
weaker f =
    record { by = λ p s q a. let l = f.by p s q a in record { whole = l.whole; leads = λ h. (tt, (l.leads h).1) } }

stronger : {X Y : ℕ → Type 0} {A : Syntax} → Leads Any Y A → Leads X Y A
stronger f = record { by = λ p s q a. let l = f.by p s q a in record { whole = l.whole; leads = λ h. l.leads tt } }

segment-leads : Leads Any Any segment
segment-leads =
    or-leads (weaker (then-leads single-byte-leads singles-lead)) (weaker (then-leads double-byte-leads pairs-lead))

text-leads : Leads Single Single text
text-leads =
    then-leads singles-lead
    (optional-leads (stronger (then-leads (many-leads segment-leads) (then-leads single-byte-leads singles-lead))))

-- what follows "text" is one line: "NOT including CRLF"
pub text-one-line : (p : Standing) (s : List ℕ) (q : Standing) → text p s q → lines_of s ≡ s ∷ []
text-one-line p s q t = one_line (text-leads.by p s q t).whole

-- "the single-byte set that the last one ended in"
pub text-ends-single : (p : Standing) (s : List ℕ) (q : Standing) → text p s q → Single p.set → Single q.set
text-ends-single p s q t h = ((text-leads.by p s q t).leads h).0

record Accepts (st : State) (s : List ℕ) : Type 0 where
  cells : List ℕ
  arrives : Arrives jp2 Last st s cells

lines-lead :
    (line : List ℕ) (lines : List (List ℕ)) (ended : Standing) → Single ended.set → Follow ended (line ∷ lines) →
    Accepts (state ended.set 0 plain) (line ++ behind lines)
unfolding Follow ascii
lines-lead line [] ended h f =
    let l = ((text-leads.by (line_start ended) line f.0 f.1).leads h).1 0 refl in
    let end = state_at f.0 l.kept in
    let rests : Rests (phase_of f.0.after_return) = cond-case Rests f.0.after_return (λ _. tt) (λ _. tt) in
    let last : Last end = record { ascii = f.2; rests = rests } in
    record {
      cells = l.cells;
      arrives = rw append-nil (record { end = end; walk = l.walk; last = last });
    }
lines-lead line (second ∷ lines) ended h f =
    let t = (text-leads.by (line_start ended) line f.0 f.1).leads h in
    let l = t.1 0 refl in
    let g0 = f.0.set in
    let cr = byte-char g0 l.kept 13 f.0.after_return t.0 refl in
    let lf = byte-char g0 l.kept 10 true t.0 refl in
    let r = lines-lead second lines f.0 t.0 f.2 in
    record {
      cells = _;
      arrives = arrives-on l.walk (arrives-on (gives (rw and-false at cr) (gives lf stay)) r.arrives);
    }

-- a text that follows the grammar is accepted
pub follows-accepted : (s : List ℕ) → ByGrammar s → (reading jp2 s).ending ≡ accepted
follows-accepted s f =
    let k = cut s in
    let a = lines-lead k.line k.lines in_ascii refl (rw k.so at f) in
    let w = rw (cut-joined s) at a.arrives in
    ap (λ (r : Reading). r.ending) (walk-whole w.walk (last-ends w.end w.last))
