-- Cells laid into an output, token by token. Assumes nothing.
use Prim.Native.Nat.{ℕ, suc, ◌+◌, ◌-◌, ◌<◌, ◌≤◌}
use mathlib.Core.Path.{◌≡◌, refl, sym, ap, ◌∙◌}
use mathlib.Core.Bool.{Bool, true, false}
use mathlib.Core.List.{List, [], ◌∷◌, ◌++◌}
use native.Mathlib.Omega.{arith}
use native.Mathlib.Nat.{add-zero, zero-add}
use lib.ListN.{length, get_or, take, drop, set, length-append, length-drop}
use lib.Seq.{drop-drop, drop_at, take-add, take_at, take-length, get_or-drop, get_or-take}
use lib.Dec.{ltb}
use borrow.Author.Tests.{eq-eqb, ltb-true, ltb-false}
use Rattle.answer.specs.Output.{filled}
use Rattle.answer.proofs.Laid.{Laid, laid_none, laid_one, laid_on}
use Rattle.reading.specs.Reading.{Reading, Ending, accepted, fault, give, go, read_from, reading}
use Rattle.reading.specs.Matching.{same_cells, accepted_as, reads_as}
use Rattle.reading.proofs.Laws.{Left, left-more, left-go}
use Rattle.reading.proofs.Matches.{Matching}
use Rattle.reading.proofs.Strides.{Stride, stride-stay, stride-give, stride_on, left-stride}
use Rattle.jp2.specs.Rule.{State, byte_does, jp2}
use Rattle.jp2_whole.specs.Quick.{Goes, Laying, Filled, Same, Matches}
use Rattle.jp2_read.proofs.Designating.{at_rest}

pub goes_of : {s : List ℕ} {at to : ℕ} {st st' : State} {cs : List ℕ} → Stride jp2 s at st to cs st' → Goes s at st to cs st'
goes_of a = record { within = a.within; few = a.few; same = a.same }

pub stride-of : {s : List ℕ} {at to : ℕ} {st st' : State} {cs : List ℕ} → Goes s at st to cs st' → Stride jp2 s at st to cs st'
stride-of a = record { within = a.within; few = a.few; same = a.same }

pub laying-start : {s : List ℕ} {at g0 g2 n : ℕ} {out : List ℕ} → at ≤ length s → n ≤ length out → Laying s at g0 g2 n out at g0 g2 n out
laying-start {n = n} {out} h k =
    record { cells = []; goes = goes_of (stride-stay h); laid = laid_none n out; count = omega arith; fits = k }

module _ {s : List ℕ} {from g0₀ g2₀ n₀ : ℕ} {out₀ : List ℕ} {at g0 g2 n : ℕ} {out : List ℕ} (p : Laying s from g0₀ g2₀ n₀ out₀ at g0 g2 n out) where
  module _ {to g0' g2' : ℕ} where
    pub laying-on :
        {cs out' : List ℕ} → Stride jp2 s at (at_rest g0 g2) to cs (at_rest g0' g2') → Laid cs n out out' → n + length cs ≤ length out →
        Laying s from g0₀ g2₀ n₀ out₀ to g0' g2' (n + length cs) out'
    laying-on {cs} {out'} a l h =
        record {
          cells = p.cells ++ cs;
          goes = goes_of (stride_on (stride-of p.goes) a);
          laid = laid_on p.laid p.count l;
          count = omega (arith, p.count, length-append p.cells cs);
          fits = omega (arith, l.same);
        }

    pub laying-one :
        {v : ℕ} → Stride jp2 s at (at_rest g0 g2) to (v ∷ []) (at_rest g0' g2') → n < length out →
        Laying s from g0₀ g2₀ n₀ out₀ to g0' g2' (n + 1) (set out n v)
    laying-one {v} a h = laying-on a (laid_one n v out h) (omega arith)

    pub laying-none : Stride jp2 s at (at_rest g0 g2) to [] (at_rest g0' g2') → Laying s from g0₀ g2₀ n₀ out₀ to g0' g2' n out
    laying-none a = rw (add-zero n) at (laying-on a (laid_none n out) (omega (arith, p.fits)))

    pub laying-more : {n' : ℕ} {out' : List ℕ} → Laying s at g0 g2 n out to g0' g2' n' out' → Laying s from g0₀ g2₀ n₀ out₀ to g0' g2' n' out'
    laying-more {n'} {out'} q =
        rw (sym q.count) at
        (laying-on (stride-of q.goes) q.laid (omega (arith, q.count, q.fits, q.laid.same)))

  pub laying-left : Left jp2 s from (at_rest g0₀ g2₀) n₀ → Left jp2 s at (at_rest g0 g2) n
  laying-left l = rw (sym p.count) at (left-stride (stride-of p.goes) l)

  -- the first n places hold the first n cells
  pub laying-front :
      Left jp2 s from (at_rest g0₀ g2₀) n₀ → take n₀ out₀ ≡ take n₀ (reading jp2 s).cells → take n out ≡ take n (reading jp2 s).cells
  laying-front l e =
      let cs = p.cells in
      let c = l.cells ∙ ap (λ (x : Reading). x.cells) p.goes.same in
      rw p.count
      (p.laid.front
      ∙ rw (e, take-add n₀ (length cs) (reading jp2 s).cells, c, take_at cs (read_from jp2 (drop at s) at (at_rest g0 g2)).cells (length cs) refl))

  pub laying-filled : Filled s from (at_rest g0₀ g2₀) n₀ out₀ → Filled s at (at_rest g0 g2) n out
  laying-filled f = record { left = laying-left f.left; front = laying-front f.left f.front }

-- a buffer with the cells so far: a byte more
module _ {s : List ℕ} {at : ℕ} {st : State} {n : ℕ} {a : List ℕ} (f : Filled s at st n a) where
  pub filled-done : n ≡ length (reading jp2 s).cells → take (length (reading jp2 s).cells) a ≡ (reading jp2 s).cells
  filled-done e = ap (λ (k : ℕ). take k a) (sym e) ∙ f.front ∙ rw (e, take-length (reading jp2 s).cells)

  module _ (h : at < length s) where
    pub filled-place : {v : ℕ} {st' : State} → byte_does st (get_or s at 0) ≡ give v st' → length (reading jp2 s).cells ≤ length a → n < length a
    filled-place e k = omega (arith, left-more f.left h e)

    pub filled-give : {v : ℕ} {st' : State} → byte_does st (get_or s at 0) ≡ give v st' → n < length a → Filled s (at + 1) st' (n + 1) (set a n v)
    filled-give {v} e k =
        let q = stride-give h e in
        let c = f.left.cells ∙ ap (λ (x : Reading). x.cells) q.same in
        record {
          left = left-stride q f.left;
          front =
              (laid_one n v a k).front
              ∙ rw (f.front, take-add n 1 (reading jp2 s).cells, c);
        }

    pub filled-go : {st' : State} → byte_does st (get_or s at 0) ≡ go st' → Filled s (at + 1) st' n a
    filled-go e = record { left = left-go f.left h e; front = f.front }

-- what lies behind the first elements is kept
pub filled-behind : (l out : List ℕ) (m : ℕ) → length l ≤ m → drop m (filled l out) ≡ drop m out
filled-behind l out m h =
    let z : length l + (m - length l) ≡ m = omega arith in
    let far : (x : List ℕ) → drop (m - length l) (drop (length l) x) ≡ drop m x = λ x. rw z at (drop-drop (m - length l) (length l) x) in
    sym (far (filled l out)) ∙ ap (drop (m - length l)) (drop_at l (drop (length l) out) (length l) refl) ∙ far out

-- a front that is all
pub all-front : {xs ys : List ℕ} → length xs ≡ length ys → take (length ys) xs ≡ ys → xs ≡ ys
all-front {xs} {ys} e h = sym (take-length xs) ∙ ap (λ (k : ℕ). take k xs) e ∙ h

-- the same cells in front of two lists
same-front :
    (e : Ending) (cs read cells : List ℕ) → accepted_as e (cs ++ read) (cs ++ cells) ≡ accepted_as e read cells
unfolding same_cells
same-front accepted [] read cells = refl
same-front accepted (c ∷ cs) read cells = rw (eq-eqb c c refl) (same-front accepted cs read cells)
same-front (fault k place) cs read cells = refl

-- the first elements of a list, one by one
pub front_same :
    (l cs : List ℕ) → length cs ≤ length l → ((k : ℕ) → k < length cs → get_or l k 0 ≡ get_or cs k 0) → l ≡ cs ++ drop (length cs) l
front_same l [] h e = refl
front_same [] (c ∷ cs) h e = absurd (omega arith)
front_same (x ∷ l) (c ∷ cs) h e =
    rw (e 0 (omega arith)) (ap (λ (z : List ℕ). c ∷ z) (front_same l cs (omega arith) (λ k q. e (suc k) (omega arith))))

pub same_next :
    (buf cells : List ℕ) (from : ℕ) {k : ℕ} → Same buf cells from k → get_or buf k 0 ≡ get_or cells (from + k) 0 → Same buf cells from (k + 1)
same_next buf cells from {k} s e j h = by_side (ltb j k) refl
  where
    by_side : (t : Bool) → ltb j k ≡ t → get_or cells (from + j) 0 ≡ get_or buf j 0
    by_side true q = s j (ltb-true j k q)
    by_side false q =
        let z : j ≡ k = omega (arith, ltb-false j k q) in
        rw z (sym e)

-- a text that was compared as far as a place
pub matches-start : (s cells : List ℕ) → Matches s cells 0 6 0 0
unfolding reads_as reading
matches-start s cells = record { within = omega arith; few = omega arith; inside = omega arith; so = refl }

pub matching-of : {s cells : List ℕ} {at g0 g2 n : ℕ} → Matches s cells at g0 g2 n → Matching jp2 s cells at (at_rest g0 g2) n
matching-of m = record { few = m.few; inside = m.inside; so = m.so }

pub matches-on :
    {s cells buf buf' : List ℕ} {at g0 g2 n to g0' g2' m : ℕ} → Matches s cells at g0 g2 n → Laying s at g0 g2 0 buf to g0' g2' m buf' →
    m ≤ length cells - n → Same buf' cells n m → Matches s cells to g0' g2' (n + m)
matches-on {s} {cells} {buf} {buf'} {at} {g0} {g2} {n} {to} {g0'} {g2'} {m} p q h e =
    let cs = q.cells in
    let k : m ≡ length cs = omega (arith, q.count) in
    let f : take (length cs) buf' ≡ cs = rw (zero-add (length cs)) at q.laid.front in
    let each : (j : ℕ) → j < length cs → get_or (drop n cells) j 0 ≡ get_or cs j 0 =
    λ j z. get_or-drop n cells j 0 ∙ e j (omega arith) ∙ sym (get_or-take (length cs) buf' j 0 z) ∙ ap (λ (l : List ℕ). get_or l j 0) f in
    let d : drop n cells ≡ cs ++ drop (n + m) cells =
    front_same (drop n cells) cs (omega (arith, length-drop n cells)) each ∙ rw (← k, drop-drop m n cells) in
    record {
      within = q.goes.within;
      few = omega (arith, p.few, q.goes.few);
      inside = omega (arith, p.inside);
      so =
          sym (same-front (read_from jp2 (drop to s) to (at_rest g0' g2')).ending cs (read_from jp2 (drop to s) to (at_rest g0' g2')).cells (drop (n + m) cells))
          ∙ rw (q.goes.same, d) at p.so;
    }
