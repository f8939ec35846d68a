-- What the reader accepts follows RFC 1554's syntax. Assumes nothing.
use Prim.Native.Nat.{ℕ, zero, suc, ◌<◌, ◌≤◌}
use mathlib.Core.Path.{◌≡◌, refl, sym, ap, ◌∙◌}
use mathlib.Core.Bool.{Bool, true, false, cond, ◌&&◌, not, false≢true}
use mathlib.Core.List.{List, [], ◌∷◌, ◌++◌, append-nil, append_assoc}
use native.Mathlib.Omega.{arith}
use lib.ListN.{length, length-append}
use lib.Dec.{eqb}
use borrow.Author.Tests.{eqb-true}
use Rattle.answer.specs.Bytes.{bytes}
use Rattle.answer.proofs.Below as below
use Rattle.reading.specs.Reading.{accepted, reading}
use Rattle.jp2.specs.Table.{designations, row_at, sent}
use Rattle.jp2.specs.Rule.{State, plain, first, state, designated, graphic, jp2}
use Rattle.jp2.specs.Writable.{ascii, pair_set}
use Rattle.jp2.proofs.Table.{table-rule, row-size}
use Rattle.jp2.proofs.Sets.{pair-apart}
use Rattle.jp2.proofs.Sends.{phase_of}
use Rattle.jp2.proofs.Ends.{accepted-ends}
use Rattle.jp2_grammar.specs.Notation.{Standing, Syntax, ◌or◌, left, right, ◌then◌, both, Many, none, more}
use Rattle.jp2_grammar.specs.Notation.{absent, present, passed, Literal, sent as letter, value}
use Rattle.jp2_grammar.specs.Grammar.{one-of-94, single-byte-char, single-shift-seq, single-shift-char}
use Rattle.jp2_grammar.specs.Grammar.{g2-desig-seq, double-byte-seq, single-byte-seq, reset-seq, segment, text}
use Rattle.jp2_grammar.specs.ByGrammar.{lines_of, line_start, Follow, in_ascii, ByGrammar}
use Rattle.jp2_grammar.proofs.Bytes.{one-graphic, one_char}
use Rattle.jp2_grammar.proofs.Whole.{Whole, starts_lf, front}
use Rattle.jp2_grammar.proofs.Leads.{state_at, Holds, Single, Pair, Any, singles, pairs, single-byte-leads}
use Rattle.jp2_grammar.proofs.Leads.{double-byte-leads, g2-leads, shift-leads, char-leads, pair-leads}
use Rattle.jp2_grammar.proofs.Accepting.{Ends, walk_ends, second-ends, Sequence, row, shift, escape-ends}
use Rattle.jp2_grammar.proofs.Accepting.{Byte, esc, char, pair, byte-ends}

-- RFC 1554's rules, read from the right: what an item or a designation makes of what follows it
abbrev single-item : Syntax
single-item = single-byte-char or g2-desig-seq or single-shift-char

abbrev pair-item : Syntax
pair-item = (one-of-94 then one-of-94) or g2-desig-seq or single-shift-char

abbrev closing : Syntax
closing = Many segment then reset-seq then singles

-- the rest of a line where a set of pairs is in G0
abbrev rest-of-pairs : Syntax
rest-of-pairs = pairs then closing

module _ {p q end : Standing} {e : List ℕ} where
  text-item : {l : List ℕ} → single-item p e q → text q l end → text p (e ++ l) end
  text-item a (both {s = s} {t = t} m o) = rw (← append_assoc e s t) (both (more a m) o)

  pairs-item : {l : List ℕ} → pair-item p e q → rest-of-pairs q l end → rest-of-pairs p (e ++ l) end
  pairs-item a (both {s = s} {t = t} m o) = rw (← append_assoc e s t) (both (more a m) o)

  -- a single-byte-seq is the reset-seq where no segment follows, else it opens one
  closing-single : {l : List ℕ} → single-byte-seq p e q → text q l end → closing p (e ++ l) end
  closing-single a (both {s = s} m absent) = rw append-nil (both none (both a m))
  closing-single a (both {s = s} m (present (both {s = u} {t = v} segments c))) =
      rw (← append_assoc s u v, ← append_assoc e (s ++ u) v, ← append_assoc e s u)
      (both (more (left (both a m)) segments) c)

  closing-pairs : {l : List ℕ} → double-byte-seq p e q → rest-of-pairs q l end → closing p (e ++ l) end
  closing-pairs a (both {s = s} m (both {s = u} {t = v} segments c)) =
      rw (← append_assoc s u v, ← append_assoc e (s ++ u) v, ← append_assoc e s u)
      (both (more (right (both a m)) segments) c)

text-closing : {p end : Standing} {l : List ℕ} → closing p l end → text p l end
text-closing c = both none (present c)

pairs-closing : {p end : Standing} {l : List ℕ} → closing p l end → rest-of-pairs p l end
pairs-closing c = both none c

-- what holds of the nine rows, by each
nine : (P : ℕ → Type 0) → P 0 → P 1 → P 2 → P 3 → P 4 → P 5 → P 6 → P 7 → P 8 → (i : ℕ) → i < 9 → P i
nine P a b c d e f g h j zero k = a
nine P a b c d e f g h j (suc zero) k = b
nine P a b c d e f g h j (suc (suc zero)) k = c
nine P a b c d e f g h j (suc (suc (suc zero))) k = d
nine P a b c d e f g h j (suc (suc (suc (suc zero)))) k = e
nine P a b c d e f g h j (suc (suc (suc (suc (suc zero))))) k = f
nine P a b c d e f g h j (suc (suc (suc (suc (suc (suc zero)))))) k = g
nine P a b c d e f g h j (suc (suc (suc (suc (suc (suc (suc zero))))))) k = h
nine P a b c d e f g h j (suc (suc (suc (suc (suc (suc (suc (suc zero)))))))) k = j
nine P a b c d e f g h j (suc (suc (suc (suc (suc (suc (suc (suc (suc i))))))))) k = absurd (omega arith)

-- the reader's state is that where a line stands, with no CR before
record Reaches (q : Standing) (g2 : ℕ) (st : State) : Type 0 where
  holds : Holds q g2
  past : q.after_return ≡ false
  so : st ≡ state_at q g2

reached : {q : Standing} {g2 : ℕ} → Holds q g2 → q.after_return ≡ false → Reaches q g2 (state_at q g2)
reached h r = record { holds = h; past = r; so = refl }

-- a row's escape follows one of the three rules for designations
data Designates (p : Standing) (g2 : ℕ) (e : List ℕ) (st : State) : Type 0 where
  to-single : (q : Standing) → single-byte-seq p e q → Single q.set → Reaches q g2 st → Designates p g2 e st
  to-pairs : (q : Standing) → double-byte-seq p e q → Pair q.set → Reaches q g2 st → Designates p g2 e st
  to-g2 : (q : Standing) (n : ℕ) → g2-desig-seq p e q → q.set ≡ p.set → Reaches q n st → Designates p g2 e st

row-designates :
    (p : Standing) (g2 : ℕ) → Holds p g2 → (i : ℕ) → i < 9 →
    Designates p g2 (sent (row_at i)) (designated p.set g2 (row_at i))
unfolding designations pair_set
row-designates p g2 k =
    nine (λ i. Designates p g2 (sent (row_at i)) (designated p.set g2 (row_at i)))
    (to-single _ (both letter (both letter (left letter))) refl (reached k refl))
    (to-single _ (both letter (both letter (right letter))) refl (reached k refl))
    (to-pairs _ (left (both letter (both letter (left letter)))) refl (reached k refl))
    (to-pairs _ (left (both letter (both letter (right (right letter))))) refl (reached k refl))
    (to-pairs _ (left (both letter (both letter (right (left letter))))) refl (reached k refl))
    (to-pairs _ (right (both letter (both letter (both letter (left letter))))) refl (reached k refl))
    (to-pairs _ (right (both letter (both letter (both letter (right letter))))) refl (reached k refl))
    (to-g2 _ 100 (both letter (both letter (left letter))) refl (reached refl refl))
    (to-g2 _ 126 (both letter (both letter (right letter))) refl (reached refl refl))

-- a text's first line follows A from where it stands, and the lines after it follow the grammar
record Parsed (A : Syntax) (p : Standing) (s : List ℕ) : Type 0 where
  line : List ℕ
  lines : List (List ℕ)
  end : Standing
  so : lines_of s ≡ line ∷ lines
  follows : A p line end
  rest : Follow end lines

-- whole bytes in front of a parsed text, where they and A make B
prepend :
    {A B : Syntax} {p q : Standing} (e : List ℕ) {rest : List ℕ} → Whole p e q →
    (q.after_return && starts_lf rest) ≡ false → Parsed A q rest →
    ((l : List ℕ) (end : Standing) → A q l end → B p (e ++ l) end) → Parsed B p (e ++ rest)
prepend e {rest} w n r f =
    record {
      line = e ++ r.line;
      lines = r.lines;
      end = r.end;
      so = front e rest w n r.so;
      follows = f r.line r.end r.follows;
      rest = r.rest;
    }

-- where a line stands, the set in G0 is right, the reader accepts what is left, and no line ends within it and before
record Here (Right : ℕ → Type 0) (p : Standing) (g2 : ℕ) (s : List ℕ) : Type 0 where
  set : Right p.set
  holds : Holds p g2
  whole : (p.after_return && starts_lf s) ≡ false
  ends : Ends s (state_at p g2)

here :
    {Right : ℕ → Type 0} {q : Standing} {g2 : ℕ} {st : State} {s : List ℕ} → Right q.set → Reaches q g2 st →
    Ends s st → Here Right q g2 s
here o r w = record { set = o; holds = r.holds; whole = rw r.past; ends = rw r.so at w }

-- texts of fewer than n bytes follow B from there
abbrev Parses : ℕ → Syntax → (ℕ → Type 0) → Type 0
Parses n B Right =
    (s : List ℕ) → length s < n → (p : Standing) (g2 : ℕ) → Here Right p g2 s → Parsed B p s

record Claim (n : ℕ) : Type 0 where
  in-single : Parses n text Single
  in_pairs : Parses n rest-of-pairs Pair

-- what the rest of a line follows, by the set in G0: an item in front, and a designation
record Mode (n : ℕ) (B : Syntax) (Right : ℕ → Type 0) : Type 0 where
  item :
      {p q : Standing} {e : List ℕ} → (g2-desig-seq or single-shift-char) p e q → (l : List ℕ) (end : Standing) →
      B q l end → B p (e ++ l) end
  closed : {p end : Standing} {l : List ℕ} → closing p l end → B p l end
  same : Parses n B Right

module _ {n : ℕ} (ih : Claim n) where
  module _ {B : Syntax} {R : ℕ → Type 0} (mode : Mode n B R) (p : Standing) (g2 : ℕ) (set : R p.set) where
    by_row :
        (rest e : List ℕ) (st : State) → length rest < n → Designates p g2 e st → Ends rest st → Parsed B p (e ++ rest)
    by_row rest e st few (to-single q d o r) w =
        prepend e (single-byte-leads.by p e q d).whole (rw r.past) (ih.in-single rest few q g2 (here o r w))
        (λ l end t. mode.closed (closing-single d t))
    by_row rest e st few (to-pairs q d o r) w =
        prepend e (double-byte-leads.by p e q d).whole (rw r.past) (ih.in_pairs rest few q g2 (here o r w))
        (λ l end t. mode.closed (closing-pairs d t))
    by_row rest e st few (to-g2 q m d o r) w =
        prepend e ((g2-leads {X = Any}).by p e q d).whole (rw r.past)
        (mode.same rest few q m (here (rw o set) r w)) (mode.item (left d))

    by-escape : (s : List ℕ) → length s < suc n → Holds p g2 → Sequence p.set g2 s → Parsed B p s
    by-escape s few k (row i rest h e w) =
        let size = length-append (sent (row_at i)) rest in
        let l : length rest < n = omega (arith, ap length e, size, row-size h refl, (table-rule i h).least) in
        rw e (by_row rest (sent (row_at i)) _ l (row-designates p g2 k i h) w)
    by-escape s few k (shift c rest z l e w) =
        let seq = single-shift-seq.shift (sym k ∙ rw z) (both letter letter) in
        let a : single-shift-char p (27 ∷ 78 ∷ c ∷ []) (passed p) = both seq (value l.0 l.1) in
        rw e
        (prepend (27 ∷ 78 ∷ c ∷ []) ((shift-leads {X = Any}).by p _ (passed p) a).whole refl
        (mode.same rest (omega (arith, ap length e)) (passed p) g2 (here set (reached k refl) w))
        (mode.item (right a)))

  single-mode : Mode n text Single
  single-mode = record { item = λ a l end t. text-item (right a) t; closed = text-closing; same = ih.in-single }

  pairs-mode : Mode n rest-of-pairs Pair
  pairs-mode = record { item = λ a l end t. pairs-item (right a) t; closed = pairs-closing; same = ih.in_pairs }

  -- CR and LF end the line
  line-ends :
      (rest : List ℕ) → length rest < n → (p : Standing) → Single p.set → Ends rest (state p.set 0 plain) →
      Parsed text p (13 ∷ 10 ∷ rest)
  unfolding lines_of Follow
  line-ends rest few p o w =
      let r = ih.in-single rest few (line_start p) 0 (here o (reached refl refl) w) in
      record {
        line = [];
        lines = lines_of rest;
        end = p;
        so = refl;
        follows = both none absent;
        rest = rw r.so (r.end, r.follows, r.rest);
      }

  after-return : (rest : List ℕ) (g0 g2 : ℕ) → Single g0 → Byte g0 g2 true 10 rest → Ends rest (state g0 0 plain)
  after-return rest g0 g2 o (esc e w) = absurd (omega arith)
  after-return rest g0 g2 o (char s a w) = w
  after-return rest g0 g2 o (pair s g w) = absurd (false≢true (sym s ∙ o))

  module _ (p : Standing) (g2 b : ℕ) (bs : List ℕ) (few : length bs < n) where
    -- a byte of its own, that ends no line
    char-on :
        Here Single p g2 (b ∷ bs) → ascii b ≡ true → Ends bs (state p.set g2 (phase_of (eqb b 13))) →
        (eqb b 13 && starts_lf bs) ≡ false → Parsed text p (b ∷ bs)
    unfolding starts_lf
    char-on h a w e =
        let c : single-byte-char p (b ∷ []) _ = one_char a h.whole in
        let on = ih.in-single bs few _ g2 (record { set = h.set; holds = h.holds; whole = e; ends = w }) in
        prepend (b ∷ []) (char-leads.by p _ _ c).whole e on (λ l end t. text-item (left c) t)

    pair-on :
        Here Pair p g2 (b ∷ bs) → graphic b ≡ true → Ends bs (state p.set g2 (first b)) →
        Parsed rest-of-pairs p (b ∷ bs)
    pair-on h x w =
        let r = second-ends p.set g2 b bs w in
        let y = one-graphic r.fits in
        let c : (one-of-94 then one-of-94) p (b ∷ r.byte ∷ []) (passed p) = both (one-graphic x) y in
        let l : length r.rest < n = omega (arith, ap length r.so) in
        let on = ih.in_pairs r.rest l (passed p) g2 (here h.set (reached h.holds refl) r.ends) in
        rw r.so
        (prepend (b ∷ r.byte ∷ []) (pair-leads.by p _ _ c).whole refl on (λ l end t. pairs-item (left c) t))

  -- a byte of its own: CR before LF ends the line
  by-char :
      (p : Standing) (g2 b : ℕ) (bs : List ℕ) (t : Bool) → (eqb b 13 && starts_lf bs) ≡ t → length bs < n →
      Here Single p g2 (b ∷ bs) → ascii b ≡ true → Ends bs (state p.set g2 (phase_of (eqb b 13))) →
      Parsed text p (b ∷ bs)
  unfolding starts_lf
  by-char p g2 b bs false e few h a w = char-on p g2 b bs few h a w e
  by-char p g2 b [] true e few h a w = absurd (false≢true (below.both (eqb b 13) false e).1)
  by-char p g2 b (c ∷ rest) true e few h a w =
      let q = below.both (eqb b 13) (eqb c 10) e in
      let d = byte-ends p.set g2 true 10 rest (rw (q.0, eqb-true c 10 q.1) at w) in
      rw (eqb-true b 13 q.0, eqb-true c 10 q.1)
      (line-ends rest (omega arith) p h.set (after-return rest p.set g2 h.set d))

  by-single :
      (p : Standing) (g2 b : ℕ) (bs : List ℕ) → length bs < n → Here Single p g2 (b ∷ bs) →
      Byte p.set g2 p.after_return b bs → Parsed text p (b ∷ bs)
  unfolding starts_lf
  by-single p g2 b bs few h (esc e w) =
      let s = escape-ends p.set g2 bs (27 ∷ []) w in
      rw e (by-escape single-mode p g2 h.set (27 ∷ bs) (omega arith) h.holds s)
  by-single p g2 b bs few h (char s a w) =
      by-char p g2 b bs (eqb b 13 && starts_lf bs) refl few h a (rw h.whole at w)
  by-single p g2 b bs few h (pair s g w) = absurd (false≢true (sym s ∙ h.set))

  by-pairs :
      (p : Standing) (g2 b : ℕ) (bs : List ℕ) → length bs < n → Here Pair p g2 (b ∷ bs) →
      Byte p.set g2 p.after_return b bs → Parsed rest-of-pairs p (b ∷ bs)
  by-pairs p g2 b bs few h (esc e w) =
      let s = escape-ends p.set g2 bs (27 ∷ []) w in
      rw e (by-escape pairs-mode p g2 h.set (27 ∷ bs) (omega arith) h.holds s)
  by-pairs p g2 b bs few h (char s a w) =
      let q = pair-apart p.set h.set in
      absurd (false≢true (rw (q.0, q.1) at s))
  by-pairs p g2 b bs few h (pair s g w) = pair-on p g2 b bs few h g w

  -- or the text ends: with ASCII, and no set of pairs, in G0
  single-parses : Parses (suc n) text Single
  unfolding Ends Follow lines_of
  single-parses [] few p g2 h =
      record { line = []; lines = []; end = p; so = refl; follows = both none absent; rest = h.ends.ascii }
  single-parses (b ∷ bs) few p g2 h =
      by-single p g2 b bs (omega arith) h (byte-ends p.set g2 p.after_return b bs h.ends)

  pairs-parse : Parses (suc n) rest-of-pairs Pair
  unfolding Ends pair_set
  pairs-parse [] few p g2 h = absurd (false≢true (rw h.ends.ascii at h.set))
  pairs-parse (b ∷ bs) few p g2 h =
      by-pairs p g2 b bs (omega arith) h (byte-ends p.set g2 p.after_return b bs h.ends)

claim : (n : ℕ) → Claim n
claim zero =
    record { in-single = λ s few. absurd (omega (arith, few)); in_pairs = λ s few. absurd (omega (arith, few)) }
claim (suc n) = record { in-single = single-parses (claim n); in_pairs = pairs-parse (claim n) }

-- a text that is accepted follows the grammar
pub accepted-follows : (s : List ℕ) → (reading jp2 s).ending ≡ accepted → ByGrammar s
unfolding Follow
accepted-follows s e =
    let a = accepted-ends s e in
    let h = here refl (reached refl refl) (walk_ends a.walk a.last) in
    let r = (claim (suc (length s))).in-single s (omega arith) in_ascii 0 h in
    rw r.so (r.end, r.follows, r.rest)
