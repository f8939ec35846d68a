-- Good words of a line, read whole: strides of the line's rule. Assumes nothing.
use Prim.Native.Nat.{ℕ, suc, ◌+◌, ◌-◌, ◌*◌, ◌<◌, ◌≤◌}
use mathlib.Core.Path.{◌≡◌, refl, sym, ap, ◌∙◌}
use mathlib.Core.Bool.{Bool, true, false, cond, not, ◌&&◌, false≢true}
use mathlib.Core.List.{List, [], ◌∷◌, ◌++◌, append_assoc, append-nil}
use native.Mathlib.Omega.{arith}
use native.Mathlib.Nat.{add-zero}
use native.Mathlib.Numerals.{add-one}
use lib.ListN.{length, get_or, take, drop, set, length-append, length-drop, length-set, take-append-drop}
use lib.Seq.{drop_at, drop-drop, drop-cons, take-add, take-suc-set, length-take-le}
use lib.Dec.{ltb, eqb}
use borrow.Author.Tests.{le-leb, lt-ltb, eq-eqb, ne_eqb, eqb-true}
use Rattle.std.specs.declared.result.Result.TheVariants.{Ok, Err}
use Rattle.answer.specs.declared.Refused.{Refused}
use Rattle.answer.specs.Answer.{Verdict, numbered, number_of, too_long, Answer}
use Rattle.answer.specs.Output.{Outcome, leaves, filled, refusing, deliver}
use Rattle.answer.specs.Answer.{limit}
use Rattle.answer.specs.declared.Refusal.{Refusal}
use Rattle.answer.proofs.Once.{number-pos}
use Rattle.answer.proofs.Below.{both}
use Rattle.reading.specs.Reading.{Does, go, bad, Ending, accepted, fault, on_ending, reading, read_into}
use borrow.Rule.Slice.PartMut.{put_mid, put_same}
use Rattle.reading.specs.Inner.{Left, Filling}
use Rattle.reading.proofs.Laws.{SoundEnd, good-reading}
use Rattle.reading.proofs.Walk.{Walk, stay, gives, goes, walk-on, accepted-walk, no-fault}
use Rattle.reading.proofs.Strides.{Stride, stride_on, stride-to, stride-walk, left-stride, filling-part}
use Rattle.utf7.specs.Rule.{Shift, outside, opening, run, may_end, utf7}
use Rattle.utf7.specs.Rule.{ends_in as utf7-ends_in}
use Rattle.utf7.proofs.Kept.{utf7-kept}
use Rattle.parsing.specs.Parsing.{Parsed, found, failed, literal}
use Rattle.parsing.specs.Digits.{value_of}
use Rattle.scan.specs.Found.{passed_in}
use Rattle.scan.specs.declared.Found.{Found}
use Rattle.encoded_word.specs.Writing.{itself, word_start, word_end, joint}
use Rattle.encoded_word.specs.Rule.{Part, start, text, equals, half, tail, behind, most, fed, at_equals}
use Rattle.encoded_word.specs.Rule.{text_does, part_does, subject}
use Rattle.encoded_word.proofs.Round.{itself-apart, start-walk, head_walk, joint-walk}
use Rattle.encoded_word_read.specs.Words.{Spells, none, space, self, pair, SpellsAt, Unspells, part_at}
use Rattle.encoded_word_read.specs.Words.{Strides, ReadsBy, Read}

-- spellings one after another
spells-on : {q q' bs bs' : List ℕ} → Spells q bs → Spells q' bs' → Spells (q ++ q') (bs ++ bs')
spells-on none t = t
spells-on (space s) t = space (spells-on s t)
spells-on (self e s) t = self e (spells-on s t)
spells-on (pair d e s) t = pair d e (spells-on s t)

spells-some : {q bs : List ℕ} → Spells q bs → 0 < length bs → 0 < length q
spells-some none h = h
spells-some (space s) h = omega arith
spells-some (self e s) h = omega arith
spells-some (pair d e s) h = omega arith

-- one byte of the text, by the last of the characters that spell it
one_byte :
    {st end : Shift} {b n c : ℕ} {from last : Part Shift} {bs q cs : List ℕ} (own : ℕ → Does (Part Shift)) →
    Walk utf7 st (b ∷ bs) cs end → part_does utf7 from c ≡ fed n own (utf7.byte st b) →
    ((st' : Shift) (cs' : List ℕ) → Walk utf7 st' bs cs' end → Walk subject (text n st') q cs' last) →
    Walk subject from (c ∷ q) cs last
one_byte {n = n} own (gives {st' = st'} {cs = cs} e w) p on = gives (p ∙ ap (fed n own) e) (on st' cs w)
one_byte {n = n} {cs = cs} own (goes {st' = st'} e w) p on = goes (p ∙ ap (fed n own) e) (on st' cs w)

spells-walk :
    {q bs cs : List ℕ} {st end : Shift} → Spells q bs → Walk utf7 st bs cs end → (n : ℕ) → n + length q ≤ most →
    Walk subject (text n st) q cs (text (n + length q) end)
unfolding part_does text_does
spells-walk none stay n h = rw add-zero stay
spells-walk (space {q = q} s) w n h =
    let i : n + suc (length q) ≡ n + 1 + length q = omega arith in
    rw i (one_byte bad w (rw (le-leb (n + 1) 63 (omega arith))) (λ st' cs' v. spells-walk s v (n + 1) (omega arith)))
spells-walk {st = st} (self {b = b} {q = q} t s) w n h =
    let i : n + suc (length q) ≡ n + 1 + length q = omega arith in
    let a = itself-apart b t in
    let one : part_does utf7 (text n st) b ≡ fed (n + 1) bad (utf7.byte st b) =
    rw (a.1, a.0, le-leb (n + 1) 63 (omega arith), a.2, t) in
    rw i (one_byte bad w one (λ st' cs' v. spells-walk s v (n + 1) (omega arith)))
spells-walk {st = st} (pair {d = d} {e = e} {q = q} hd he s) w n h =
    let i : n + suc (suc (suc (length q))) ≡ n + 3 + length q = omega arith in
    let one : part_does utf7 (text n st) 61 ≡ go (equals (n + 3) st) = rw (le-leb (n + 3) 63 (omega arith)) in
    let two : part_does utf7 (equals (n + 3) st) d ≡ go (half (n + 3) (value_of d) st) = rw (lt-ltb (value_of d) 16 hd) in
    let three :
    part_does utf7 (half (n + 3) (value_of d) st) e ≡ fed (n + 3) at_equals (utf7.byte st (16 * value_of d + value_of e)) =
    rw (lt-ltb (value_of e) 16 he) in
    rw i (goes one (goes two (one_byte at_equals w three (λ st' cs' v. spells-walk s v (n + 3) (omega arith)))))

-- a text that may end there
ends-any : (st : Shift) (size : ℕ) → utf7-ends_in size st ≡ accepted → utf7-ends_in 0 st ≡ accepted
unfolding utf7-ends_in
ends-any outside size e = refl
ends-any opening size e = no-fault 2 size e
ends-any (run pending) size e = by (may_end pending) e
  where
    by : (t : Bool) → cond t accepted (fault 4 size) ≡ accepted → cond t accepted (fault 4 0) ≡ accepted
    by true e = refl
    by false e = no-fault 4 size e

tail_walk : (n : ℕ) (st : Shift) → 0 < n → utf7-ends_in 0 st ≡ accepted → Walk subject (text n st) word_end [] behind
unfolding part_does text_does
tail_walk n st h e =
    let one : part_does utf7 (text n st) 63 ≡ go tail = rw (ne_eqb n 0 (λ z. omega arith), e) in
    goes one (goes refl stay)

text-walk :
    {q bs : List ℕ} → Spells q bs → 0 < length bs → length q ≤ most → (reading utf7 bs).ending ≡ accepted →
    Walk subject (text 0 outside) (q ++ word_end) (reading utf7 bs).cells behind
text-walk {q} {bs} s some few e =
    let r = accepted-walk utf7 bs e in
    let z = ends-any r.end (length bs) r.last in
    let t = tail_walk (0 + length q) r.end (omega (arith, spells-some s some)) z in
    rw append-nil at (walk-on (spells-walk s r.walk 0 (omega (arith, few))) t)

-- strides, as the contracts say them
pub as-stride :
    {line cs : List ℕ} {at end : ℕ} {from to : Part Shift} → Strides line at from end to cs →
    Stride subject line at from end cs to
as-stride s = record { within = s.within; few = s.few; same = s.same }

by-stride :
    {line cs : List ℕ} {at end : ℕ} {from to : Part Shift} → Stride subject line at from end cs to →
    Strides line at from end to cs
by-stride s = record { within = s.within; few = s.few; same = s.same }

-- the bytes before a word's text, by what `scan::word` found
abbrev rest_of : Parsed Unit → List ℕ
rest_of (found a bs at) = bs
rest_of (failed at) = []

abbrev place_of : Parsed Unit → ℕ
place_of (found a bs at) = at
place_of (failed at) = at

abbrev is_found : Parsed Unit → Bool
is_found (found a bs at) = true
is_found (failed at) = false

literal-found :
    (xs bs : List ℕ) (at : ℕ) {rest : List ℕ} {to : ℕ} → literal xs bs at ≡ found tt rest to →
    (bs ≡ xs ++ rest) × (to ≡ at + length xs)
unfolding literal
literal-found [] bs at e = (ap rest_of e, sym (ap place_of e) ∙ sym (add-zero at))
literal-found (x ∷ xs) [] at e = absurd (false≢true (ap is_found e))
literal-found (x ∷ xs) (b ∷ bs) at {rest} {to} e = by (eqb b x) refl e (literal-found xs bs (at + 1))
  where
    by :
        (t : Bool) → eqb b x ≡ t → cond t (literal xs bs (at + 1)) (failed at) ≡ found tt rest to →
        (literal xs bs (at + 1) ≡ found tt rest to → (bs ≡ xs ++ rest) × (to ≡ at + 1 + length xs)) →
        (b ∷ bs ≡ x ∷ (xs ++ rest)) × (to ≡ at + suc (length xs))
    by true q e f = let r = f e in (rw (eqb-true b x q, r.0), omega (arith, r.1))
    by false q e f = absurd (false≢true (ap is_found e))

module _ (line : List ℕ) (at : ℕ) (h : at ≤ length line) (r : Found) (ok : r.ok ≡ true) where
  lead-by :
      (xs : List ℕ) (st : Part Shift) → Walk subject st xs [] (text 0 outside) →
      passed_in line r ≡ literal xs (drop at line) at → Strides line at st r.at (text 0 outside) []
  lead-by xs st w e =
      let g : literal xs (drop at line) at ≡ found tt (drop r.at line) r.at = sym e ∙ rw ok in
      let f = literal-found xs (drop at line) at g in
      by-stride (stride-to (stride-walk (drop r.at line) w f.0 h) (sym f.1))

  pub lead-first :
      at ≡ 0 → passed_in line r ≡ literal word_start (drop at line) at →
      Strides line at (part_at at) r.at (text 0 outside) []
  lead-first z e = rw (eq-eqb at 0 z) (lead-by word_start start start-walk e)

  pub lead-next :
      (at ≡ 0 → ⊥) → passed_in line r ≡ literal (joint ++ word_start) (drop at line) at →
      Strides line at (part_at at) r.at (text 0 outside) []
  lead-next z e = rw (ne_eqb at 0 z) (lead-by (joint ++ word_start) behind (walk-on joint-walk head_walk) e)

-- a character, a pair
module _ (line : List ℕ) (at : ℕ) where
  one_at : (b : ℕ) → at < length line → get_or line at 0 ≡ b → take 1 (drop at line) ≡ b ∷ []
  one_at b h e = rw (drop-cons line at 0 h, e)

  pub self-at : (b : ℕ) → at < length line → get_or line at 0 ≡ b → itself b ≡ true → SpellsAt line at 1 b
  self-at b h e t = record { within = omega arith; so = rw (one_at b h e) (self t none) }

  pub space-at : at < length line → get_or line at 0 ≡ 95 → SpellsAt line at 1 32
  space-at h e = record { within = omega arith; so = rw (one_at 95 h e) (space none) }

  pub pair-at :
      (d e v : ℕ) → at + 3 ≤ length line → get_or line at 0 ≡ 61 → value_of (get_or line (at + 1) 0) ≡ d →
      value_of (get_or line (at + 2) 0) ≡ e → d ≤ 15 → e ≤ 15 → v ≡ d * 16 + e → SpellsAt line at 3 v
  pair-at d e v h a b c hd he k =
      let x = get_or line (at + 1) 0 in
      let y = get_or line (at + 2) 0 in
      let two : suc (at + 1) ≡ at + 2 = omega arith in
      let i : drop at line ≡ get_or line at 0 ∷ drop (at + 1) line = rw add-one (drop-cons line at 0 (omega arith)) in
      let j : drop (at + 1) line ≡ x ∷ drop (at + 2) line = rw two at (drop-cons line (at + 1) 0 (omega arith)) in
      let l = drop-cons line (at + 2) 0 (omega arith) in
      let t : take 3 (drop at line) ≡ 61 ∷ x ∷ y ∷ [] = rw (i, a, j, l) in
      let z : v ≡ 16 * value_of x + value_of y = omega (arith, b, c) in
      record { within = h; so = rw (t, z) (pair {d = x} {e = y} (omega (arith, b)) (omega (arith, c)) none) }

-- a text, character by character
module _ (line buffer : List ℕ) (from : ℕ) where
  pub unspells-start : from ≤ length line → 63 ≤ length buffer → Unspells line from from buffer 0
  unspells-start h r =
      let z : from - from ≡ 0 = omega arith in
      record {
        after = omega arith;
        within = h;
        few = omega arith;
        count = omega arith;
        room = r;
        so = rw z none;
      }

  pub unspells-next :
      {at n : ℕ} (size b : ℕ) → Unspells line from at buffer n → SpellsAt line at size b → 0 < size →
      at - from + size ≤ 63 → Unspells line from (at + size) (set buffer n b) (n + 1)
  unspells-next {at} {n} size b u s some few =
      let k : at + size - from ≡ at - from + size = omega (arith, u.after) in
      let m : from + (at - from) ≡ at = omega (arith, u.after) in
      let d : drop (at - from) (drop from line) ≡ drop at line =
      drop-drop (at - from) from line ∙ ap (λ (k : ℕ). drop k line) m in
      let c : n < length buffer = omega (arith, u.count, u.room) in
      record {
        after = omega (arith, u.after);
        within = s.within;
        few = omega (arith, u.after);
        count = omega (arith, u.count, u.after);
        room = simp length-set u.room;
        so =
            rw (k, take-add (at - from) size (drop from line), d, add-one n, take-suc-set buffer n b c)
            (spells-on u.so s.so);
      }

-- a word
pub word-reads :
    (line : List ℕ) (at from end n : ℕ) (buffer : List ℕ) → Strides line at (part_at at) from (text 0 outside) [] →
    Unspells line from end buffer n → (n ≡ 0 → ⊥) → drop end line ≡ word_end ++ drop (end + 2) line →
    ReadsBy line at (end + 2) (take n buffer)
word-reads line at from end n buffer a u some e acc =
    let q = take (end - from) (drop from line) in
    let lq : length q ≡ end - from =
    length-take-le (end - from) (drop from line) (omega (arith, length-drop from line, u.within, u.after)) in
    let lb : length (take n buffer) ≡ n =
    length-take-le n buffer (omega (arith, u.count, u.few, u.room, u.after)) in
    let w = text-walk u.so (omega (arith, lb, some)) (omega (arith, lq, u.few)) acc in
    let k : from + (end - from) ≡ end = omega (arith, u.after) in
    let d : drop from line ≡ (q ++ word_end) ++ drop (end + 2) line =
    sym (take-append-drop (end - from) (drop from line))
    ∙ ap (λ (l : List ℕ). q ++ l) (drop-drop (end - from) from line ∙ ap (λ (m : ℕ). drop m line) k ∙ e)
    ∙ sym (append_assoc q word_end (drop (end + 2) line)) in
    let b = stride-walk {s = line} {at = from} (drop (end + 2) line) w d (omega (arith, u.within, u.after)) in
    let t : from + length (q ++ word_end) ≡ end + 2 = omega (arith, lq, length-append q word_end, u.after) in
    by-stride (stride-to (stride_on (as-stride a) b) t)

-- what the reader of UTF-7 answered
module _ (bs out o : List ℕ) (a : Answer) (q : leaves a o ≡ read_into utf7 bs out) where
  abbrev its : List ℕ
  its = (reading utf7 bs).cells

  abbrev Told : Bool → Ending → Verdict → Type 0
  Told long x v =
      ◌≡◌ {A = Outcome} (record { verdict = v; out = o }) (cond long (refusing too_long out) (on_ending x its out))

  took_by :
      (long short : Bool) (x : Ending) (n : ℕ) → SoundEnd x → ltb (length out) (length its) ≡ short →
      Told long x (numbered 0 n) → (x ≡ accepted) × (o ≡ filled its out) × (n ≡ length its)
  unfolding deliver
  took_by true short x n s t r = absurd (omega (arith, ap (λ (v : Outcome). v.verdict.number) r))
  took_by false true accepted n s t r =
      absurd (omega (arith, ap (λ (v : Outcome). v.verdict.number) (rw t at r)))
  took_by false false accepted n s t r =
      let g = rw t at r in
      (refl, ap (λ (v : Outcome). v.out) g, ap (λ (v : Outcome). v.verdict.place) g)
  took_by false short (fault k p) n s t r = absurd (omega (arith, s, ap (λ (v : Outcome). v.verdict.number) r))

  pub took : {n : ℕ} → a ≡ Ok n → ((reading utf7 bs).ending ≡ accepted) × (o ≡ filled its out) × (n ≡ length its)
  unfolding read_into
  took {n} e =
      took_by (ltb limit (length bs)) (ltb (length out) (length its)) (reading utf7 bs).ending n
      (good-reading utf7-kept bs).1 refl (rw e at q)

  left_by :
      (long short : Bool) (x : Ending) (why : Refusal) (place : ℕ) → ltb (length out) (length its) ≡ short →
      Told long x (numbered (number_of why) place) → o ≡ out
  unfolding deliver
  left_by true short x why place t r = ap (λ (v : Outcome). v.out) r
  left_by false true accepted why place t r = ap (λ (v : Outcome). v.out) (rw t at r)
  left_by false false accepted why place t r =
      absurd (omega (arith, number-pos why, ap (λ (v : Outcome). v.verdict.number) (rw t at r)))
  left_by false short (fault k p) why place t r = ap (λ (v : Outcome). v.out) r

  pub untouched : {deny : Refused} → a ≡ Err deny → o ≡ out
  unfolding read_into
  untouched {deny} e =
      left_by (ltb limit (length bs)) (ltb (length out) (length its)) (reading utf7 bs).ending deny.0 deny.1 refl
      (rw e at q)

-- a word's end
pub end-at :
    (line : List ℕ) (at : ℕ) → at + 2 ≤ length line →
    (eqb (get_or line at 0) 63 && eqb (get_or line (at + 1) 0) 61) ≡ true → drop at line ≡ word_end ++ drop (at + 2) line
end-at line at h e =
    let b = both (eqb (get_or line at 0) 63) (eqb (get_or line (at + 1) 0) 61) e in
    let x = eqb-true (get_or line at 0) 63 b.0 in
    let y = eqb-true (get_or line (at + 1) 0) 61 b.1 in
    let two : suc (at + 1) ≡ at + 2 = omega arith in
    let i : drop at line ≡ get_or line at 0 ∷ drop (at + 1) line = rw add-one (drop-cons line at 0 (omega arith)) in
    let j : drop (at + 1) line ≡ get_or line (at + 1) 0 ∷ drop (at + 2) line =
    rw two at (drop-cons line (at + 1) 0 (omega arith)) in
    i ∙ rw (x, j, y)

pub so-then : (t : Bool) → not t ≡ false → t ≡ true
so-then true e = refl
so-then false e = absurd (false≢true (sym e))

-- a loop over good words
module _ {line : List ℕ} {at n : ℕ} where
  pub left_word :
      {out out' : List ℕ} {count end : ℕ} → Left subject line at (part_at at) n → at < end →
      Read line at out out' count end → Left subject line end (part_at end) (n + count)
  left_word {end = end} l h r =
      rw (ne_eqb end 0 (λ e. omega arith), r.size) (left-stride (as-stride r.stride) l)

  module _ {out₀ out : List ℕ} (f : Filling subject line at (part_at at) n out₀ out) where
    pub filling-upto : n ≤ length out
    filling-upto = omega (arith, f.put.upto, f.put.room, f.put.same)

    pub filling-word :
        {y : List ℕ} {count end : ℕ} → at < end →
        Read line at (take (length out - n) (drop n out)) y count end →
        Filling subject line end (part_at end) (n + count) out₀ (put_mid n (length out - n) out y)
    filling-word {end = end} h r =
        rw (ne_eqb end 0 (λ e. omega arith), r.size) (filling-part (as-stride r.stride) f r.so)

    pub filling-same :
        {y : List ℕ} → y ≡ take (length out - n) (drop n out) →
        Filling subject line at (part_at at) n out₀ (put_mid n (length out - n) out y)
    filling-same e = rw (e, put_same n (length out - n) out) f

-- an output that is filled in part, taken for the one that the rest is filled into
module _ {line : List ℕ} {at n : ℕ} {st : Part Shift} {out₀ out : List ℕ}
    (f : Filling subject line at st n out₀ out) where
  behind-same : drop n out ≡ drop n out₀
  behind-same =
      let t = (reading subject line).cells in
      ap (drop n) f.put.front ∙ drop_at (take n t) (drop n out₀) n (length-take-le n t f.put.upto)

  pub filling-anew : Filling subject line at st n out out
  filling-anew =
      let t = (reading subject line).cells in
      record {
        left = f.left;
        put =
            record {
              room = omega (arith, f.put.room, f.put.same);
              upto = f.put.upto;
              left = f.put.left;
              front = f.put.front ∙ ap (λ (r : List ℕ). take n t ++ r) (sym behind-same);
              same = refl;
            };
      }

  pub filled-anew : filled (reading subject line).cells out ≡ filled (reading subject line).cells out₀
  filled-anew =
      let t = (reading subject line).cells in
      let k : n + (length t - n) ≡ length t = omega (arith, f.put.upto) in
      ap (λ (r : List ℕ). t ++ r)
      (ap (λ (m : ℕ). drop m out) (sym k) ∙ sym (drop-drop (length t - n) n out)
      ∙ ap (drop (length t - n)) behind-same ∙ drop-drop (length t - n) n out₀ ∙ ap (λ (m : ℕ). drop m out₀) k)
