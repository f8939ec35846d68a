-- The text before records, followed through them a stretch of cells at a time. Assumes nothing.
use Prim.Native.Nat.{ℕ, suc, ◌+◌, ◌-◌, ◌≤◌, ◌<◌, min}
use mathlib.Core.Path.{◌≡◌, refl, sym, ap, ◌∙◌, subst}
use mathlib.Core.Bool.{Bool, true, false, ◌&&◌}
use mathlib.Core.List.{List, [], ◌∷◌, ◌++◌, reverse, reverse-reverse, append_assoc}
use Rattle.std.specs.Prelude.{Option, Some}
use native.Mathlib.Omega.{arith}
use native.Mathlib.Nat.{add-zero}
use lib.ListN.{length, get_or, take, drop, length-append, length-drop, take-append-drop}
use lib.Seq.{slice, length-slice, take-take, drop-drop, drop_at, drop-append-le, drop-append-add, take-append-le}
use lib.Seq.{length-take-le, take-nil}
use lib.Dec.{ltb, leb}
use borrow.Author.Tests.{le-leb, leb-true, ltb-true, ltb-false}
use Rattle.answer.specs.Answer.{limit}
use Rattle.answer.proofs.Below.{both, cond-case}
use Rattle.editor.specs.Records.{Entry, applied, turned}
use Rattle.editor.proofs.Lengths.{fits-here, fits_next, text_from, before-from, length_from}
use Rattle.ledger.specs.Words.{words_of, size_of, sizes, records_in, length_after, lengths_fit, reached}
use Rattle.ledger.proofs.Words.{Whole, drop-take, At, words-at, words, length-record, records-words, exact}
use Rattle.squeeze.specs.declared.Head.{Head}
use Rattle.squeeze.specs.declared.Trail.{Trail}
use Rattle.squeeze.specs.Folding.{fold_from}
use Rattle.squeeze.specs.Tracing.{head_in, kept_in, passed, held_by, entries_in, text_since, Leads, On, Follows}

-- the text before records is undone one record at a time
pub since-from :
    (from to : ℕ) (history text : List ℕ) →
    text_since from to history text ≡ text_from (entries_in from to history) text
since-from from to history text =
    before-from (reverse (entries_in from to history)) text
    ∙ ap (λ (es : List Entry). text_from es text) (reverse-reverse (entries_in from to history))

-- cells of a text with a record taken back: before its place, of those that it removed, and past them
module _ (e : Entry) (text : List ℕ) (h : e.place + length e.added ≤ length text) where
  abbrev before : List ℕ
  before = applied (turned e) text

  front : length (take e.place text) ≡ e.place
  front = length-take-le e.place text (omega arith)

  pub cells-front : (i c : ℕ) → i + c ≤ e.place → take c (drop i before) ≡ take c (drop i text)
  cells-front i c q =
      let long : length (drop i (take e.place text)) ≡ e.place - i =
      omega (arith, length-drop i (take e.place text), front) in
      ap (take c) (drop-append-le i (take e.place text) _ (omega (arith, front)))
      ∙ take-append-le c (drop i (take e.place text)) _ (omega (arith, long))
      ∙ ap (take c) (drop-take i e.place text)
      ∙ take-take c (e.place - i) (drop i text) (omega arith)

  past : (m : ℕ) → drop (e.place + m) before ≡ drop m (e.removed ++ drop (e.place + length e.added) text)
  past m = ap (λ (n : ℕ). drop (n + m) before) (sym front) ∙ drop-append-add (take e.place text) _ m

  pub cells-removed :
      (m c : ℕ) → m + c ≤ length e.removed →
      take c (drop (e.place + m) before) ≡ take c (drop m e.removed)
  cells-removed m c q =
      ap (take c) (past m ∙ drop-append-le m e.removed _ (omega arith))
      ∙ take-append-le c (drop m e.removed) _ (omega (arith, length-drop m e.removed))

  pub cells-past :
      (i : ℕ) → e.place + length e.removed ≤ i →
      drop i before ≡ drop (i - length e.removed + length e.added) text
  cells-past i q =
      let m : ℕ = i - e.place - length e.removed in
      let at : i ≡ e.place + (length e.removed + m) = omega arith in
      let to : e.place + length e.added + m ≡ i - length e.removed + length e.added = omega arith in
      ap (λ (n : ℕ). drop n before) at
      ∙ past (length e.removed + m)
      ∙ drop-append-add e.removed (drop (e.place + length e.added) text) m
      ∙ drop-drop m (e.place + length e.added) text
      ∙ ap (λ (n : ℕ). drop n text) to

-- fewer cells of two that are the same
fewer : (c b : ℕ) (x y : List ℕ) → c ≤ b → take b x ≡ take b y → take c x ≡ take c y
fewer c b x y q e = sym (take-take c b x q) ∙ ap (take c) e ∙ take-take c b y q

module _ (at to : ℕ) (history text : List ℕ) where
  -- the record at a word, and those after it
  pub record Next : Type 0 where
    pub entry : Entry
    pub here : At history at entry
    pub leads : Leads (at + size_of entry) to history text
    pub entries : entries_in at to history ≡ entry ∷ entries_in (at + size_of entry) to history
    pub within : entry.place + length entry.removed ≤ length (text_since at to history text)
    pub long :
        length (text_since (at + size_of entry) to history text)
        ≡ length_after (length (text_since at to history text)) entry
    pub turns : text_since at to history text ≡ applied (turned entry) (text_since (at + size_of entry) to history text)
    pub ends : at + size_of entry ≤ to
    pub below : length (text_since (at + size_of entry) to history text) ≤ limit

  module _ (l : Leads at to history text) where
    tiles : words (entries_in at to history) ≡ slice at to history
    tiles =
        subst (λ (x : Option (List Entry)). Whole (λ es. words es ≡ slice at to history) x) l.found
        (exact (length (slice at to history)) (slice at to history))

    module _ (e : Entry) (rest : List Entry) (is : entries_in at to history ≡ e ∷ rest) where
      words-here : slice at to history ≡ words_of e ++ words rest
      words-here = sym tiles ∙ ap words is

      size-here : size_of e + length (words rest) ≡ to - at
      size-here =
          omega (
            arith,
            sym (length-slice at to history l.within)
                ∙ ap length words-here
                ∙ length-append (words_of e) (words rest),
            length-record e,
          )

      whole : take at history ++ (words_of e ++ (words rest ++ drop to history)) ≡ history
      whole =
          let upto : take at history ++ slice at to history ≡ take to history =
          ap (λ (x : List ℕ). x ++ slice at to history) (sym (take-take at to history l.order))
          ∙ take-append-drop at (take to history) in
          ap (λ (x : List ℕ). take at history ++ x) (sym (append_assoc (words_of e) (words rest) (drop to history)))
          ∙ sym (append_assoc (take at history) (words_of e ++ words rest) (drop to history))
          ∙ ap (λ (x : List ℕ). x ++ drop to history) (ap (◌++◌ (take at history)) (sym words-here) ∙ upto)
          ∙ take-append-drop to history

      at_here : At history at e
      at_here =
          let first : length (take at history) ≡ at = length-take-le at history (omega (arith, l.order, l.within)) in
          rw (whole, first) at (words-at (take at history) (words rest ++ drop to history) e)

      words-next : slice (at + size_of e) to history ≡ words rest
      words-next =
          sym (drop-drop (size_of e) at (take to history))
          ∙ ap (drop (size_of e)) words-here
          ∙ drop_at (words_of e) (words rest) (size_of e) (length-record e)

      found-next : records_in (length (words rest)) (words rest) ≡ Some rest
      found-next = records-words (length (words rest)) rest (omega arith)

      entries_next : entries_in (at + size_of e) to history ≡ rest
      entries_next = rw words-next (ap held_by found-next)

      abbrev n : ℕ
      n = length (text_since at to history text)

      fits-first : lengths_fit l.room n (e ∷ rest) ≡ true
      fits-first = ap (lengths_fit l.room n) (sym is) ∙ l.fits

      reach-next : length text ≡ reached (length_after n e) rest
      unfolding reached
      reach-next = sym l.reach ∙ ap (reached n) is

      long-next : length (text_since (at + size_of e) to history text) ≡ length_after n e
      long-next =
          ap length
          (since-from (at + size_of e) to history text ∙ ap (λ (es : List Entry). text_from es text) entries_next)
          ∙ length_from l.room (length_after n e) rest text (fits_next l.room n e rest fits-first) reach-next

      room_next : length_after n e ≤ l.room
      unfolding lengths_fit
      room_next =
          let a : Bool = leb (e.place + length e.removed) n in
          let b : Bool = leb (length_after n e) l.room in
          leb-true _ _ (both a b (both (a && b) (lengths_fit l.room (length_after n e) rest) fits-first).0).1

      next_here : Next
      next_here =
          record {
            entry = e;
            here = at_here;
            leads =
                record {
                  room = l.room;
                  small = l.small;
                  order = omega (arith, size-here, l.order);
                  within = l.within;
                  found = rw (words-next, found-next);
                  fits = rw (long-next, entries_next) (fits_next l.room n e rest fits-first);
                  reach = rw (long-next, entries_next) (sym reach-next);
                };
            entries = rw entries_next is;
            within = fits-here l.room n e rest fits-first;
            long = long-next;
            turns =
                since-from at to history text
                ∙ ap (λ (es : List Entry). text_from es text) (is ∙ ap (◌∷◌ e) (sym entries_next))
                ∙ ap (applied (turned e)) (sym (since-from (at + size_of e) to history text));
            ends = omega (arith, size-here, l.order);
            below = omega (arith, long-next, room_next, l.small);
          }

    next_of : at < to → (es : List Entry) → entries_in at to history ≡ es → Next
    next_of q [] is =
        absurd (omega (arith, ap length (sym (ap words is) ∙ tiles), length-slice at to history l.within))
    next_of q (e ∷ rest) is = next_here e rest is

    pub next : at < to → Next
    next q = next_of q (entries_in at to history) refl

    -- its words are whole
    pub whole-next : (q : at < to) → at + (3 + get_or history (at + 1) 0 + get_or history (at + 2) 0) ≤ length history
    whole-next q =
        let x : Next = next q in
        omega (arith, x.here.whole, x.here.removed, x.here.added)

    -- no words are left, so the text is the present one
    entries-of : to ≤ at → (es : List Entry) → entries_in at to history ≡ es → entries_in at to history ≡ []
    entries-of q [] is = is
    entries-of q (e ∷ rest) is = absurd (omega (arith, size-here e rest is))

    pub entries-end : to ≤ at → entries_in at to history ≡ []
    entries-end q = entries-of q (entries_in at to history) refl

    pub since-end : to ≤ at → text_since at to history text ≡ text
    since-end q = since-from at to history text ∙ ap (λ (es : List Entry). text_from es text) (entries-end q)

-- where records end that begin at a word: one of them, and the others; and none
fold-cons :
    (at len count : ℕ) (e : Entry) (es : List Entry) →
    fold_from at len count (e ∷ es) ≡ fold_from (at + size_of e) (length_after len e) (count + 1) es
unfolding reached
fold-cons at len count e es =
    let size : at + (sizes es + size_of e) ≡ at + size_of e + sizes es = omega arith in
    let long : count + suc (length es) ≡ count + 1 + length es = omega arith in
    λ i. record { at = size i; len = reached (length_after len e) es; count = long i }

pub fold-none : (at len count : ℕ) → fold_from at len count [] ≡ record { at = at; len = len; count = count }
unfolding reached
fold-none at len count = rw (add-zero at, add-zero count)

-- what is read at a record's words, and what it tells
pub record Seen (at to : ℕ) (history text : List ℕ) (h : Head) : Type 0 where
  pub entry : Entry
  pub place_is : h.place ≡ entry.place
  pub removed-is : h.removed ≡ length entry.removed
  pub added_is : h.added ≡ length entry.added
  pub out : take (length entry.removed) (drop (at + 3) history) ≡ entry.removed
  pub size : h.end ≡ at + (3 + h.removed + h.added)
  pub ends : h.end ≤ to
  pub leads : Leads h.end to history text
  pub entries : entries_in at to history ≡ entry ∷ entries_in h.end to history
  pub inside : h.place + h.removed ≤ length (text_since at to history text)
  pub after :
      length (text_since h.end to history text) ≡ length (text_since at to history text) - h.removed + h.added
  pub below : length (text_since h.end to history text) ≤ limit
  pub turns : text_since at to history text ≡ applied (turned entry) (text_since h.end to history text)

pub seen :
    (at to : ℕ) (history text : List ℕ) → Leads at to history text → at < to → (h : Head) → h ≡ head_in history at →
    Seen at to history text h
seen at to history text l q h r =
    let x : Next at to history text = next at to history text l q in
    let place : h.place ≡ x.entry.place = ap (λ (h : Head). h.place) r ∙ x.here.place in
    let removed : h.removed ≡ length x.entry.removed = ap (λ (h : Head). h.removed) r ∙ x.here.removed in
    let added : h.added ≡ length x.entry.added = ap (λ (h : Head). h.added) r ∙ x.here.added in
    let end : h.end ≡ at + size_of x.entry =
    ap (λ (h : Head). h.end) r ∙ omega (arith, x.here.removed, x.here.added) in
    record {
      entry = x.entry;
      place_is = place;
      removed-is = removed;
      added_is = added;
      out = x.here.out;
      size = omega (arith, end, removed, added);
      ends = omega (arith, end, x.ends);
      leads = rw end x.leads;
      entries = rw end x.entries;
      inside = omega (arith, place, removed, x.within);
      after = rw (end, removed, added) x.long;
      below = rw end x.below;
      turns = rw end x.turns;
    }

module _ {at to : ℕ} {history text : List ℕ} {h : Head} (x : Seen at to history text h) where
  reaches : x.entry.place + length x.entry.added ≤ length (text_since h.end to history text)
  reaches = omega (arith, x.place_is, x.removed-is, x.added_is, x.inside, x.after)

  -- as many of the records from there on, and that one
  pub fold_next :
      (len count k : ℕ) → count < k →
      fold_from h.end (len - h.removed + h.added) (count + 1)
      (take (k - (count + 1)) (entries_in h.end to history))
      ≡ fold_from at len count (take (k - count) (entries_in at to history))
  fold_next len count k more =
      let m : k - count ≡ suc (k - (count + 1)) = omega arith in
      let rest : List Entry = take (k - (count + 1)) (entries_in h.end to history) in
      let end : h.end ≡ at + size_of x.entry = omega (arith, x.size, x.removed-is, x.added_is) in
      let now : take (k - count) (entries_in at to history) ≡ x.entry ∷ rest = rw (m, x.entries) in
      (λ i. fold_from (end i) (len - x.removed-is i + x.added_is i) (count + 1) rest)
      ∙ sym (fold-cons at len count x.entry rest)
      ∙ ap (fold_from at len count) (sym now)

  module _ {from start most cell count : ℕ} (o : On from to history text start most at cell count) where
    abbrev Next-on : ℕ → ℕ → Type 0
    Next-on cell count = On from to history text start most h.end cell count

    pub on-front : cell < h.place → (c : ℕ) → 0 < c → c ≤ count → c ≤ h.place - cell → Next-on cell c
    on-front here c more few near =
        record {
          leads = x.leads;
          some = more;
          few = omega (arith, o.few);
          part = omega (arith, reaches, x.place_is);
          same =
              fewer c count _ _ few o.same
              ∙ ap (λ (t : List ℕ). take c (drop cell t)) x.turns
              ∙ cells-front x.entry _ reaches cell c (omega (arith, x.place_is));
        }

    pub on-past : h.place + h.removed ≤ cell → Next-on (cell - h.removed + h.added) count
    on-past beyond =
        record {
          leads = x.leads;
          some = o.some;
          few = o.few;
          part = omega (arith, o.part, x.after, x.inside);
          same =
              o.same
              ∙ ap (λ (t : List ℕ). take count (drop cell t)) x.turns
              ∙ ap (take count)
              (cells-past x.entry _ reaches cell (omega (arith, x.place_is, x.removed-is))
              ∙ (λ i. drop (cell - sym x.removed-is i + sym x.added_is i) (text_since h.end to history text)));
        }

    pub at-kept :
        h.place ≤ cell → (c : ℕ) → 0 < c → c ≤ count → cell - h.place + c ≤ h.removed →
        Follows (record { kept = true; at = at + 3 + (cell - h.place); count = c }) history text
        (text_since from to history text) start most
    at-kept beyond c more few near =
        let m : ℕ = cell - h.place in
        let back : cell ≡ x.entry.place + m = omega (arith, x.place_is) in
        let words : take c (drop m x.entry.removed) ≡ take c (drop (at + 3 + m) history) =
        ap (λ (l : List ℕ). take c (drop m l)) (sym x.out)
        ∙ ap (take c) (drop-take m (length x.entry.removed) (drop (at + 3) history))
        ∙ take-take c (length x.entry.removed - m) (drop m (drop (at + 3) history)) (omega (arith, x.removed-is))
        ∙ ap (take c) (drop-drop m (at + 3) history) in
        record {
          some = more;
          few = omega (arith, o.few);
          part = omega (arith, x.size, x.ends, x.leads.within);
          cells =
              sym
              (fewer c count _ _ few o.same
              ∙ (λ i. take c (drop (back i) (x.turns i)))
              ∙ cells-removed x.entry _ reaches m c (omega (arith, x.removed-is))
              ∙ words);
        }

-- no record is left
module _ {from to : ℕ} {history text : List ℕ} {start most at cell count : ℕ} where
  pub at-end :
      On from to history text start most at cell count → to ≤ at →
      Follows (record { kept = false; at = cell; count = count }) history text (text_since from to history text) start
      most
  at-end o q =
      let is : text_since at to history text ≡ text = since-end at to history text o.leads q in
      record {
        some = o.some;
        few = o.few;
        part = omega (arith, o.part, ap length is);
        cells = sym (o.same ∙ ap (λ (t : List ℕ). take count (drop cell t)) is);
      }

-- the first records are passed: no record is left, or enough were
pub stopped :
    {at to : ℕ} {history text : List ℕ} → Leads at to history text → to ≤ at → (len count n : ℕ) →
    record { at = at; len = len; count = count } ≡ fold_from at len count (take n (entries_in at to history))
stopped {at} {to} {history} {text} l q len count n =
    sym (rw (entries-end at to history text l q, take-nil n) (fold-none at len count))

pub enough :
    (at len count k : ℕ) (es : List Entry) → k ≤ count →
    record { at = at; len = len; count = count } ≡ fold_from at len count (take (k - count) es)
enough at len count k es q =
    let none : k - count ≡ 0 = omega arith in
    sym (rw none (fold-none at len count))

-- a walk goes on from where it stood
pub on-further :
    {from to : ℕ} {history text : List ℕ} {start most at cell count at' cell' count' : ℕ} →
    On from to history text start most at cell count → On at to history text cell count at' cell' count' →
    On from to history text start most at' cell' count'
on-further {count' = c} o p =
    record {
      leads = p.leads;
      some = p.some;
      few = omega (arith, o.few, p.few);
      part = p.part;
      same = fewer c _ _ _ p.few o.same ∙ p.same;
    }

-- a record of the shape that was asked for
pub read_alike :
    (history : List ℕ) (at place removed added : ℕ) → place ≡ get_or history at 0 → removed ≡ get_or history (at + 1) 0 →
    added ≡ get_or history (at + 2) 0 →
    record { place = place; removed = removed; added = added; end = at + (3 + removed + added) } ≡ head_in history at
read_alike history at place removed added p r a = rw (p, r, a)

-- what a test tells of a cell, and of the lesser of two numbers
pub kept-within :
    (h : Head) (cell : ℕ) → kept_in h cell ≡ true → (h.place ≤ cell) × (cell - h.place < h.removed)
kept-within h cell t =
    let b = both (leb h.place cell) (ltb (cell - h.place) h.removed) t in
    (leb-true h.place cell b.0, ltb-true (cell - h.place) h.removed b.1)

pub not-kept : (h : Head) (cell : ℕ) → kept_in h cell ≡ false → h.place ≤ cell → h.place + h.removed ≤ cell
not-kept h cell t q =
    omega (arith, ltb-false (cell - h.place) h.removed (rw (le-leb h.place cell q) at t))

pub least-below : (a b : ℕ) → 0 < a → 0 < b → (0 < min a b) × (min a b ≤ a) × (min a b ≤ b)
least-below a b p q = (omega arith, omega arith, omega arith)

-- past a record that did not remove the cell
pub on-passed :
    {at to : ℕ} {history text : List ℕ} {h : Head} → Seen at to history text h → {from start most cell count : ℕ} →
    On from to history text start most at cell count → kept_in h cell ≡ false → (t : Trail) → t ≡ passed h cell count →
    (t.at ≡ h.end) × On from to history text start most t.at t.cell t.count
on-passed {at} {to} {history} {text} {h} x {from} {start} {most} {cell} {count} o n t e =
    rw e
    (cond-case
    (λ (t : Trail). (t.at ≡ h.end) × On from to history text start most t.at t.cell t.count)
    (ltb cell h.place)
    (λ q.
    let less : cell < h.place = ltb-true cell h.place q in
    let c = least-below count (h.place - cell) o.some (omega arith) in
    (refl, on-front x o less (min count (h.place - cell)) c.0 c.1 c.2))
    (λ q. (refl, on-past x o (not-kept h cell n (ltb-false cell h.place q)))))
