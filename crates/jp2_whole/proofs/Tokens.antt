-- What the bytes of a token do together. Assumes nothing.
use Prim.Native.Nat.{ℕ, zero, suc, ◌+◌, ◌-◌, ◌*◌, ◌%◌, ◌<◌, ◌≤◌}
use mathlib.Core.Path.{◌≡◌, refl, sym, ap, ◌∙◌}
use mathlib.Core.Bool.{Bool, true, false, cond, ◌&&◌, ◌||◌, not, true≢false}
use mathlib.Core.List.{List, [], ◌∷◌, map}
use mathlib.Core.Logic.{⊎_elim}
use native.Mathlib.Omega.{arith}
use native.Mathlib.Nat.{add-zero}
use native.Mathlib.Numerals.{add-one}
use lib.ListN.{length, get_or, take, drop, set, length-drop}
use lib.Seq.{drop-cons, length-take-le, get_or-drop, get_or-take, ext_get_or, get_or-set_same, get_or-set_other}
use lib.Dec.{leb, ltb, eqb, lit<}
use borrow.Author.Tests.{not-true, eqb-true, eqb-false, ne_eqb, le-leb, leb-true, ltb-true, ltb-false}
use Rattle.answer.proofs.Below.{both}
use Rattle.answer.proofs.Laid.{Laid, laid-front}
use Rattle.marks.specs.Marks.{ahead_in}
use Rattle.marks.proofs.Counting.{ahead-le, ahead-zero}
use Rattle.reading.specs.Reading.{give, read_from}
use Rattle.reading.proofs.Strides.{Stride, stride-stay, stride-give, stride-go, stride_on, stride-as, stride-to, stride-walk}
use Rattle.jp2.specs.Rule.{plain, return, shifted, escape, state, graphic, cell_of, single_does, between_does, byte_does, ends_in, jp2}
use Rattle.jp2.specs.Writable.{ascii}
use Rattle.jp2.proofs.Sets.{single, differs}
use Rattle.jp2.proofs.Sends.{byte-between}
use Rattle.jp2.proofs.Round.{byte-first, byte-second, byte-n, byte-shifted}
use Rattle.jp2.proofs.Table.{row-walk}
use Rattle.jp2_read.specs.Escapes.{g0_after, g2_after}
use Rattle.jp2_read.proofs.Designating.{at_rest, Stands, code-length, row-says, row-bytes, row-sets}
use Rattle.jp2_whole.specs.Quick.{Shift, Pair, Spanned, Plains, Stretch, Pairs, printing, Marked, Printed}

-- after a CR: as between cells, with G2 cleared if LF follows
return-does : (g0 g2 b : ℕ) → single g0 ≡ true → byte_does (state g0 g2 return) b ≡ byte_does (state g0 (cond (eqb b 10) 0 g2) plain) b
unfolding byte_does between_does single_does
return-does g0 g2 b h = go-by (eqb b 10) refl
  where
    go-by : (t : Bool) → eqb b 10 ≡ t → byte_does (state g0 g2 return) b ≡ byte_does (state g0 (cond (eqb b 10) 0 g2) plain) b
    go-by true e = rw (eqb-true b 10 e, h)
    go-by false e = rw (e, h)

return-list :
    (bs : List ℕ) (at g0 g2 : ℕ) → single g0 ≡ true →
    read_from jp2 bs at (state g0 g2 return) ≡ read_from jp2 bs at (state g0 (cond (eqb (get_or bs 0 0) 10) 0 g2) plain)
unfolding read_from ends_in
return-list [] at g0 g2 h = refl
return-list (b ∷ bs) at g0 g2 h = rw (return-does g0 g2 b h)

return-reads :
    (s : List ℕ) (at g0 g2 : ℕ) → single g0 ≡ true →
    read_from jp2 (drop at s) at (state g0 g2 return) ≡ read_from jp2 (drop at s) at (state g0 (cond (eqb (get_or s at 0) 10) 0 g2) plain)
return-reads s at g0 g2 h = rw (get_or-drop, add-zero) at (return-list (drop at s) at g0 g2 h)

-- a byte of a set of single bytes
byte_one :
    (g0 g2 b : ℕ) → single g0 ≡ true → ascii b ≡ true →
    byte_does (at_rest g0 g2) b ≡ give (cell_of (cond (graphic b) g0 6) b) (state g0 g2 (cond (eqb b 13) return plain))
unfolding between_does single_does ascii
byte_one g0 g2 b s h =
    byte-between g0 g2 false b (omega (arith, leb-true b 127 (both (leb b 127) _ h).0))
    ∙ simp (differs ascii b 27 h refl, s, differs ascii b 14 h refl, differs ascii b 15 h refl)

-- a cell of a set of single bytes
module _ (s : List ℕ) (at g0 g2 : ℕ) (h : at < length s) where
  abbrev b : ℕ
  b = get_or s at 0

  abbrev Single : Type 0
  Single = Stride jp2 s at (at_rest g0 g2) (at + 1) (cell_of (cond (graphic b) g0 6) b ∷ []) (at_rest g0 (cond (eqb b 13 && eqb (get_or s (at + 1) 0) 10) 0 g2))

  pub single-stride : single g0 ≡ true → ascii b ≡ true → Single
  single-stride m k = go-by (eqb b 13) refl
    where
      go-by : (t : Bool) → eqb b 13 ≡ t → Single
      go-by true e = rw e (stride-as (stride-give h (rw e at (byte_one g0 g2 b m k))) (return-reads s (at + 1) g0 g2 m))
      go-by false e = rw e (stride-give h (rw e at (byte_one g0 g2 b m k)))

-- a printing byte
ascii-high : (b : ℕ) → 32 ≤ b → b < 128 → (ascii b ≡ true) × (eqb b 13 ≡ false)
unfolding ascii
ascii-high b h k =
    let ne : (j : ℕ) → j < 32 → eqb b j ≡ false = λ j q. ne_eqb b j (λ e. omega arith) in
    (simp (le-leb b 127 (omega arith), ne 14 (lit< tt), ne 15 (lit< tt), ne 27 (lit< tt)), ne 13 (lit< tt))

module _ {s : List ℕ} {at g0 g2 : ℕ} (h : at < length s) (m : single g0 ≡ true) where
  pub high-stride :
      32 ≤ get_or s at 0 → get_or s at 0 < 128 →
      Stride jp2 s at (at_rest g0 g2) (at + 1) (cell_of (cond (graphic (get_or s at 0)) g0 6) (get_or s at 0) ∷ []) (at_rest g0 g2)
  high-stride l k =
      let q = ascii-high (get_or s at 0) l k in
      rw q.1 at (single-stride s at g0 g2 h m q.0)

-- SO and SI
pub ascii-out : (b : ℕ) → 14 ≤ b → b ≤ 15 → ascii b ≡ false
unfolding ascii
ascii-out b h k = go-by (eqb b 14) refl
  where
    go-by : (t : Bool) → eqb b 14 ≡ t → ascii b ≡ false
    go-by true e = rw (eqb-true b 14 e)
    go-by false e =
        let q : b ≡ 15 = omega (arith, eqb-false b 14 e) in
        rw q

-- a stretch of ASCII with nothing in G2
cond_same : (t : Bool) (x : ℕ) → cond t x x ≡ x
cond_same true x = refl
cond_same false x = refl

plain-one :
    (s : List ℕ) (at : ℕ) → at < length s → ascii (get_or s at 0) ≡ true →
    Stride jp2 s at (at_rest 6 0) (at + 1) (cell_of 6 (get_or s at 0) ∷ []) (at_rest 6 0)
plain-one s at h k =
    rw (cond_same (graphic (get_or s at 0)) 6, cond_same (eqb (get_or s at 0) 13 && eqb (get_or s (at + 1) 0) 10) 0) at (single-stride s at 6 0 h refl k)

-- the cells of the bytes from a place to another
abbrev pub cells_of : List ℕ → ℕ → ℕ → List ℕ
cells_of s from to = map (cell_of 6) (take (to - from) (drop from s))

plains-from :
    (k : ℕ) (s : List ℕ) (from : ℕ) → from + k ≤ length s → ((i : ℕ) → from ≤ i → i < from + k → ascii (get_or s i 0) ≡ true) →
    Stride jp2 s from (at_rest 6 0) (from + k) (map (cell_of 6) (take k (drop from s))) (at_rest 6 0)
plains-from zero s from h e = stride-to (stride-stay (omega arith)) (omega arith)
plains-from (suc k) s from h e =
    let q : from < length s = omega arith in
    rw (drop-cons s from 0 q, ← add-one from)
    (stride-to
    (stride_on (plain-one s from q (e from (omega arith) (omega arith)))
    (plains-from k s (from + 1) (omega arith) (λ i a b. e i (omega arith) (omega arith))))
    (omega arith))

pub plains-stride : {s : List ℕ} {from to : ℕ} → Plains s from to → Stride jp2 s from (at_rest 6 0) to (cells_of s from to) (at_rest 6 0)
plains-stride {s} {from} {to} p =
    let z : from + (to - from) ≡ to = omega (arith, p.ordered) in
    rw z at (plains-from (to - from) s from (omega (arith, p.within, p.ordered)) (λ i a b. p.each i a (omega (arith, p.ordered))))

-- printing bytes, with any set in G2
printing-high : (b : ℕ) → printing b ≡ true → (32 ≤ b) × (b < 128)
printing-high b e = let q = both (leb 32 b) _ e in (leb-true 32 b q.0, ltb-true b 128 q.1)

print-one :
    (s : List ℕ) (at g2 : ℕ) → at < length s → printing (get_or s at 0) ≡ true →
    Stride jp2 s at (at_rest 6 g2) (at + 1) (cell_of 6 (get_or s at 0) ∷ []) (at_rest 6 g2)
print-one s at g2 h k =
    let q = printing-high (get_or s at 0) k in
    rw (cond_same (graphic (get_or s at 0)) 6) at (high-stride {s = s} {at = at} {g0 = 6} {g2 = g2} h refl q.0 q.1)

prints-from :
    (k : ℕ) (s : List ℕ) (from g2 : ℕ) → from + k ≤ length s → ((i : ℕ) → from ≤ i → i < from + k → printing (get_or s i 0) ≡ true) →
    Stride jp2 s from (at_rest 6 g2) (from + k) (map (cell_of 6) (take k (drop from s))) (at_rest 6 g2)
prints-from zero s from g2 h e = stride-to (stride-stay (omega arith)) (omega arith)
prints-from (suc k) s from g2 h e =
    let q : from < length s = omega arith in
    rw (drop-cons s from 0 q, ← add-one from)
    (stride-to
    (stride_on (print-one s from g2 q (e from (omega arith) (omega arith)))
    (prints-from k s (from + 1) g2 (omega arith) (λ i a b. e i (omega arith) (omega arith))))
    (omega arith))

pub prints-stride :
    {s : List ℕ} {from : ℕ} (k g2 : ℕ) → Spanned printing s from (from + k) → Stride jp2 s from (at_rest 6 g2) (from + k) (cells_of s from (from + k)) (at_rest 6 g2)
prints-stride {s} {from} k g2 p =
    let z : from + k - from ≡ k = omega arith in
    rw z (prints-from k s from g2 p.within p.each)

-- as far as there are marks of 0
marked-prints : (b : Bool) → ◌≡◌ {A = ℕ} (cond b 0 255) 0 → b ≡ true
marked-prints true e = refl
marked-prints false e = absurd (omega arith)

pub spanned-marked :
    {s xs : List ℕ} {from : ℕ} → Marked s from xs → (j : ℕ) {at r : ℕ} → r ≡ ahead_in xs j → at ≡ from + j → j + 16 ≤ 144 → at + 16 ≤ length s → Spanned printing s at (at + r)
spanned-marked {s} {xs} {from} m j {at} {r} e p h l =
    record { ordered = omega arith; within = omega (arith, ahead-le xs j); each = by }
  where
    by : (i : ℕ) → at ≤ i → i < at + r → printing (get_or s i 0) ≡ true
    by i a b =
        let q : from + (j + (i - at)) ≡ i = omega arith in
        let z = ahead-zero xs j (i - at) (omega arith) in
        let t = m.so (j + (i - at)) (omega (arith, ahead-le xs j)) in
        rw q at (marked-prints (printing (get_or s (from + (j + (i - at))) 0)) (sym t ∙ z))

-- a pair
neither-set : (a b : Bool) → (a || b) ≡ false → (a ≡ false) × (b ≡ false)
neither-set true b e = absurd (true≢false e)
neither-set false b e = (refl, e)

module _ (s : List ℕ) (g0 : ℕ) where
  -- the cells of pairs
  pub pairs_of : ℕ → ℕ → List ℕ
  pairs_of from zero = []
  pairs_of from (suc k) = cell_of g0 (get_or s from 0 * 256 + get_or s (from + 1) 0) ∷ pairs_of (from + 2) k

  pub pairs-count : (from k : ℕ) → length (pairs_of from k) ≡ k
  unfolding pairs_of
  pairs-count from zero = refl
  pairs-count from (suc k) = ap suc (pairs-count (from + 2) k)

module _ {s : List ℕ} {g0 : ℕ} (m : single g0 ≡ false) where
  pub pair-stride :
      {at g2 : ℕ} → Pair s at →
      Stride jp2 s at (at_rest g0 g2) (at + 2) (cell_of g0 (get_or s at 0 * 256 + get_or s (at + 1) 0) ∷ []) (at_rest g0 g2)
  pair-stride {at} {g2} p =
      let q = both (graphic (get_or s at 0)) _ p.codes in
      let o = neither-set (eqb g0 6) (eqb g0 14) m in
      stride-to
      (stride_on (stride-go (omega (arith, p.within)) (byte-first g0 g2 (get_or s at 0) q.0 false o.0 o.1))
      (stride-give p.within (byte-second g0 g2 (get_or s (at + 1) 0) q.1 (get_or s at 0))))
      (omega arith)

  pairs-from :
      (k from g2 : ℕ) → from + k * 2 ≤ length s → ((i : ℕ) → from ≤ i → i < from + k * 2 → graphic (get_or s i 0) ≡ true) →
      Stride jp2 s from (at_rest g0 g2) (from + k * 2) (pairs_of s g0 from k) (at_rest g0 g2)
  unfolding pairs_of
  pairs-from zero from g2 h e = stride-to (stride-stay (omega arith)) (omega arith)
  pairs-from (suc k) from g2 h e =
      let p : Pair s from =
      record {
        within = omega arith;
        codes = rw (e from (omega arith) (omega arith), e (from + 1) (omega arith) (omega arith));
      } in
      stride-to
      (stride_on (pair-stride p) (pairs-from k (from + 2) g2 (omega arith) (λ i a b. e i (omega arith) (omega arith))))
      (omega arith)

  pub pairs-stride :
      {from to g2 : ℕ} (p : Pairs s from to) →
      Stride jp2 s from (at_rest g0 g2) to (pairs_of s g0 from p.count) (at_rest g0 g2)
  pairs-stride {from} {to} {g2} p =
      stride-to
      (pairs-from p.count from g2 (omega (arith, p.size, p.codes.within)) (λ i a b. p.codes.each i a (omega (arith, p.size))))
      (sym p.size)

-- ESC N and a byte
module _ {s : List ℕ} {at g0 g2 : ℕ} where
  pub shift-stride : get_or s at 0 ≡ 27 → Shift s at g2 → Stride jp2 s at (at_rest g0 g2) (at + 3) (cell_of g2 (get_or s (at + 2) 0) ∷ []) (at_rest g0 g2)
  unfolding between_does
  shift-stride e k =
      let x = get_or s (at + 2) 0 in
      let w = both (not (eqb g2 0)) _ k.code in
      let q = both (leb 32 x) _ w.1 in
      let h = k.within in
      let a : at + 1 + 1 ≡ at + 2 = omega arith in
      let one : Stride jp2 s at (at_rest g0 g2) (at + 1) [] (state g0 g2 (escape (27 ∷ []))) =
      stride-go (omega (arith, h)) (rw e (byte-between g0 g2 false 27 (lit< tt))) in
      let two : Stride jp2 s (at + 1) (state g0 g2 (escape (27 ∷ []))) (at + 1 + 1) [] (state g0 g2 shifted) =
      stride-go (omega (arith, h)) (rw k.letter (byte-n g0 g2 (not-true (eqb g2 0) w.0))) in
      let three : Stride jp2 s (at + 2) (state g0 g2 shifted) (at + 2 + 1) (cell_of g2 x ∷ []) (at_rest g0 g2) =
      stride-give h (byte-shifted g0 g2 x (leb-true 32 x q.0) (omega (arith, ltb-true x 128 q.1))) in
      stride-to (stride_on one (stride_on (stride-to two a) three)) (omega arith)

-- a designation
pub designation-stride :
    {s : List ℕ} {at r : ℕ} (g0 g2 : ℕ) → Stands s at r → Stride jp2 s at (at_rest g0 g2) (at + r % 8) [] (at_rest (g0_after g0 r) (g2_after g2 r))
designation-stride {s} {at} {r} g0 g2 h =
    let d = h.1.1 in
    let l = code-length d in
    rw (row-sets g0 g2 d, row-says d) (stride-walk _ (row-walk g0 g2 d.row d.known false) (row-bytes s at r h) (omega (arith, h.1.0, l.1)))

-- a span of bytes of a set
module _ {set : ℕ → Bool} {s : List ℕ} where
  pub spanned-stay : {from : ℕ} → from ≤ length s → Spanned set s from from
  spanned-stay h = record { ordered = omega arith; within = h; each = λ i a b. absurd (omega arith) }

  pub spanned-on : {from at to : ℕ} → Spanned set s from at → Spanned set s at to → Spanned set s from to
  spanned-on {from} {at} {to} p q =
      record {
        ordered = omega (arith, p.ordered, q.ordered);
        within = q.within;
        each = λ i a b. by_side i a b (ltb i at) refl;
      }
    where
      by_side : (i : ℕ) → from ≤ i → i < to → (t : Bool) → ltb i at ≡ t → set (get_or s i 0) ≡ true
      by_side i a b true e = p.each i a (ltb-true i at e)
      by_side i a b false e = q.each i (ltb-false i at e) b

-- the cells of a stretch, one by one
get_d_map : (l : List ℕ) (k : ℕ) → k < length l → get_or (map (cell_of 6) l) k 0 ≡ cell_of 6 (get_or l k 0)
get_d_map [] k h = absurd (omega arith)
get_d_map (x ∷ l) zero h = refl
get_d_map (x ∷ l) (suc k) h = get_d_map l k (omega arith)

length-cells : (l : List ℕ) → length (map (cell_of 6) l) ≡ length l
length-cells [] = refl
length-cells (x ∷ l) = ap suc (length-cells l)

module _ (s : List ℕ) (from to : ℕ) (h : to ≤ length s) where
  part : length (take (to - from) (drop from s)) ≡ to - from
  part = length-take-le (to - from) (drop from s) (omega (arith, length-drop from s))

  pub cells-length : length (cells_of s from to) ≡ to - from
  cells-length = length-cells (take (to - from) (drop from s)) ∙ part

  pub cells-get : (k : ℕ) → k < to - from → get_or (cells_of s from to) k 0 ≡ cell_of 6 (get_or s (from + k) 0)
  cells-get k q =
      rw (get_d_map (take (to - from) (drop from s)) k (omega (arith, part)), get_or-take (to - from) (drop from s) k 0 q, get_or-drop from s k 0)

-- sixteen cells are put, of which those of printing bytes count
pub laid-printed :
    {s xs : List ℕ} {at k n : ℕ} {out out' : List ℕ} → Printed s at xs → Spanned printing s at (at + k) → k ≤ 16 → Laid xs n out out' → n ≤ length out →
    Laid (cells_of s at (at + k)) n out out'
laid-printed {s} {xs} {at} {k} p q h l m = rw e at (laid-front k l m (omega (arith, p.size)))
  where
    t : length (take k xs) ≡ k
    t = length-take-le k xs (omega (arith, p.size))

    by : (i : ℕ) → i < k → get_or (take k xs) i 0 ≡ get_or (cells_of s at (at + k)) i 0
    by i j =
        let b = printing-high (get_or s (at + i) 0) (q.each (at + i) (omega arith) (omega arith)) in
        let w : get_or s (at + i) 0 % 128 + 393216 ≡ cell_of 6 (get_or s (at + i) 0) = omega (arith, b.0, b.1) in
        get_or-take k xs i 0 j ∙ p.so i (omega arith) ∙ w ∙ sym (cells-get s at (at + k) q.within i (omega arith))

    e : take k xs ≡ cells_of s at (at + k)
    e = ext_get_or 0 (take k xs) (cells_of s at (at + k)) (t ∙ sym (cells-length s at (at + k) q.within ∙ omega arith)) (λ i j. by i (omega (arith, t)))

-- one more element of an array
pub set_more :
    (xs : List ℕ) (k v : ℕ) (Q : ℕ → ℕ → Type 0) → k < length xs → ((j : ℕ) → j < k → Q j (get_or xs j 0)) → Q k v →
    (j : ℕ) → j < k + 1 → Q j (get_or (set xs k v) j 0)
set_more xs k v Q h f g j l = at (eqb j k) refl
  where
    at : (t : Bool) → eqb j k ≡ t → Q j (get_or (set xs k v) j 0)
    at true e = rw (eqb-true j k e, get_or-set_same xs k v 0 h) g
    at false e = rw (get_or-set_other xs k j v 0 (eqb-false j k e)) (f j (omega (arith, eqb-false j k e)))

-- one byte more of a block
pub each_more :
    (set : ℕ → Bool) (s : List ℕ) (at k : ℕ) {ok t : Bool} → (ok ≡ true → (i : ℕ) → at ≤ i → i < at + k → set (get_or s i 0) ≡ true) → (ok && t) ≡ true →
    t ≡ set (get_or s (at + k) 0) → (i : ℕ) → at ≤ i → i < at + (k + 1) → set (get_or s i 0) ≡ true
each_more set s at k {ok} {t} f e q i l m = by_side (ltb i (at + k)) refl (both ok t e)
  where
    by_side : (u : Bool) → ltb i (at + k) ≡ u → (ok ≡ true) × (t ≡ true) → set (get_or s i 0) ≡ true
    by_side true z w = f w.0 i l (ltb-true i (at + k) z)
    by_side false z w =
        let y : i ≡ at + k = omega (arith, ltb-false i (at + k) z) in
        rw y (sym q ∙ w.1)

-- a stretch that was looked for
pub stretch-stride :
    {s : List ℕ} {from to g0 g2 end : ℕ} → from ≤ length s → Stretch s from to g0 g2 end →
    Stride jp2 s from (at_rest g0 g2) end (cells_of s from end) (at_rest g0 g2)
stretch-stride {s} {from} {to} {g0} {g2} {end} h w =
    ⊎_elim
    (λ (e : end ≡ from). rw e (let z : from - from ≡ 0 = omega arith in rw z (stride-stay h)))
    (λ (p : (g0 ≡ 6) × ((g2 ≡ 0) × (Plains s from end × (end ≤ to)))). rw (p.0, p.1.0) (plains-stride p.1.1.0))
    w

pub stretch-bounds : {s : List ℕ} {from to g0 g2 end : ℕ} → from ≤ to → Stretch s from to g0 g2 end → (from ≤ end) × (end ≤ to)
stretch-bounds {s} {from} {to} {g0} {g2} {end} h w =
    ⊎_elim
    (λ (e : end ≡ from). (omega arith, omega arith))
    (λ (p : (g0 ≡ 6) × ((g2 ≡ 0) × (Plains s from end × (end ≤ to)))). (p.1.1.0.ordered, p.1.1.1))
    w
