-- A pass to the left that drops one bench's records, a turn of its loop at a time. Assumes nothing.
use Prim.Native.Nat.{ℕ, zero, suc, ◌+◌, ◌-◌, ◌≤◌, ◌<◌}
use mathlib.Core.Path.{◌≡◌, refl, sym, ap, ◌∙◌}
use mathlib.Core.Bool.{Bool, true, false}
use mathlib.Core.List.{List, [], ◌∷◌, ◌++◌, append_assoc, append-nil}
use native.Mathlib.Omega.{arith}
use native.Mathlib.Nat.{add-zero}
use lib.ListN.{length, get_or, take, drop, length-append, length-drop}
use lib.Seq.{paste, slice, take_at, drop_at, take-paste, drop-paste, length-paste, drop-drop, get_or-drop, length-take-le}
use lib.Dec.{eqb}
use borrow.Author.Tests.{eqb-true, eqb-false}
use Rattle.ledger.proofs.Words.{drop-take}
use Rattle.benches.specs.Words.{Side, first, second, number_of, same, Record, words_of, words, size_of, kept}
use Rattle.benches.proofs.Words.{records-words}
use Rattle.bench_records.specs.Turning.{side_at}
use Rattle.bench_calls.specs.Gap.{Tiles, others_in, closed, Closes}

pub length-record : (r : Record) → length (words_of r) ≡ size_of r.entry
length-record r = simp length-append (omega arith)

-- the words of the other bench's among the words of records
others-words : (mine : ℕ) (rs : List Record) → others_in mine (words rs) ≡ words (kept (side_at mine) 0 rs)
unfolding others_in
others-words mine rs = rw (records-words (length (words rs)) rs (omega arith))

-- whether a record is the caller's, by its first word
mine-same : (mine : ℕ) (s : Side) → mine ≤ 1 → number_of s ≡ mine → same (side_at mine) s ≡ true
mine-same zero first m q = refl
mine-same zero second m q = absurd (omega arith)
mine-same (suc zero) first m q = absurd (omega arith)
mine-same (suc zero) second m q = refl
mine-same (suc (suc n)) s m q = absurd (omega arith)

not_same : (mine : ℕ) (s : Side) → mine ≤ 1 → (number_of s ≡ mine → ⊥) → same (side_at mine) s ≡ false
not_same zero first m q = absurd (q refl)
not_same zero second m q = refl
not_same (suc zero) first m q = refl
not_same (suc zero) second m q = absurd (q refl)
not_same (suc (suc n)) s m q = absurd (omega arith)

-- where the pass stands: before a word all is done, and from another on nothing is changed
pub record Going (mine from used : ℕ) (h₀ h : List ℕ) (at to : ℕ) : Type 0 where
  pub behind : to ≤ at
  pub within : at ≤ used
  pub long : length h ≡ length h₀
  pub rest : drop at h ≡ drop at h₀
  pub rs : List Record
  pub tiles : words rs ++ drop used h₀ ≡ drop at h₀
  pub is : take to h ++ words (kept (side_at mine) 0 rs) ≡ closed mine from used h₀

module _ (mine from used : ℕ) (h₀ : List ℕ) (fits : used ≤ length h₀) where
  -- the words of the records from a word on
  span : (at : ℕ) (rs : List Record) → at ≤ used → words rs ++ drop used h₀ ≡ drop at h₀ → at + length (words rs) ≡ used
  span at rs w e =
      let n = length-append (words rs) (drop used h₀) in
      let l = ap length e in
      omega (arith, length-drop used h₀, length-drop at h₀)

  -- what is to be left
  pub closed-words :
      from ≤ used → (t : Tiles from used h₀) →
      take from h₀ ++ words (kept (side_at mine) 0 t.rs) ≡ closed mine from used h₀
  closed-words w t =
      let n : length (words t.rs) ≡ used - from = omega (arith, span from t.rs w t.is) in
      let part : slice from used h₀ ≡ words t.rs =
      drop-take from used h₀ ∙ ap (take (used - from)) (sym t.is)
      ∙ take_at (words t.rs) (drop used h₀) (used - from) n in
      rw (part, others-words mine t.rs)

  pub begin : from ≤ used → Tiles from used h₀ → Going mine from used h₀ h₀ from from
  begin w t =
      record {
        behind = omega arith;
        within = w;
        long = refl;
        rest = refl;
        rs = t.rs;
        tiles = t.is;
        is = closed-words w t;
      }

  module _ (one : mine ≤ 1) {h : List ℕ} {at to : ℕ} (g : Going mine from used h₀ h at to) where
    -- past the last record
    pub ended : used ≤ at → Closes mine from used h₀ h to
    unfolding kept
    ended q = by g.rs refl
      where
        by : (rs : List Record) → g.rs ≡ rs → Closes mine from used h₀ h to
        by [] e =
            let all : take to h ≡ closed mine from used h₀ =
            sym (append-nil (take to h)) ∙ rw e at g.is in
            let here : at ≡ used = omega (arith, g.within) in
            record {
              long = g.long;
              rest = rw here at g.rest;
              within = omega (arith, g.behind, g.within);
              is = all;
              many =
                  sym (length-take-le to h (omega (arith, g.behind, g.within, g.long))) ∙ ap length all;
            }
        by (r ∷ rs) e =
            let n : at + length (words g.rs) ≡ used = span at g.rs g.within g.tiles in
            let m : length (words g.rs) ≡ length (words (r ∷ rs)) = ap (λ (l : List Record). length (words l)) e in
            absurd (omega (arith, length-append (words_of r) (words rs), length-record r))

    -- the record at a word, and those after it
    pub record Next : Type 0 where
      pub record' : Record
      pub after : List Record
      pub is : g.rs ≡ record' ∷ after
      pub here : drop at h ≡ words_of record' ++ (words after ++ drop used h₀)

    pub next : at < used → Next
    next q = by g.rs refl
      where
        by : (rs : List Record) → g.rs ≡ rs → Next
        by [] e =
            let n : at + length (words g.rs) ≡ used = span at g.rs g.within g.tiles in
            let m : length (words g.rs) ≡ 0 = ap (λ (l : List Record). length (words l)) e in
            absurd (omega arith)
        by (r ∷ rs) e =
            record {
              record' = r;
              after = rs;
              is = e;
              here =
                  g.rest ∙ sym g.tiles ∙ ap (λ (l : List Record). words l ++ drop used h₀) e
                  ∙ append_assoc (words_of r) (words rs) (drop used h₀);
            }

    module _ (q : at < used) where
      abbrev r : Record
      r = (next q).record'

      abbrev more : List Record
      more = (next q).after

      word : (k : ℕ) → get_or h (at + k) 0 ≡ get_or (words_of r ++ (words more ++ drop used h₀)) k 0
      word k = sym (get_or-drop at h k 0) ∙ ap (λ (l : List ℕ). get_or l k 0) (next q).here

      first_word : get_or h at 0 ≡ number_of r.bench
      first_word = ap (λ (n : ℕ). get_or h n 0) (sym (add-zero at)) ∙ word 0

      size_is : 4 + get_or h (at + 2) 0 + get_or h (at + 3) 0 ≡ size_of r.entry
      size_is = rw (word 2, word 3)

      record-fits : at + size_of r.entry ≤ used
      record-fits =
          let n : at + length (words g.rs) ≡ used = span at g.rs g.within g.tiles in
          let m : length (words g.rs) ≡ length (words (r ∷ more)) =
          ap (λ (l : List Record). length (words l)) (next q).is in
          omega (arith, length-append (words_of r) (words more), length-record r)

      module _ (size : ℕ) (z : size ≡ 4 + get_or h (at + 2) 0 + get_or h (at + 3) 0) where
        sized : size ≡ size_of r.entry
        sized = z ∙ size_is

        pub turn-fits : at + size ≤ used
        turn-fits = omega (arith, sized, record-fits)

        long-word : length (words_of r) ≡ size
        long-word = length-record r ∙ sym sized

        tiles-after : words more ++ drop used h₀ ≡ drop (at + size) h₀
        tiles-after =
            sym (drop_at (words_of r) (words more ++ drop used h₀) size long-word)
            ∙ ap (drop size) (sym (next q).here ∙ g.rest)
            ∙ drop-drop size at h₀

        -- the caller's record goes
        dropped : get_or h at 0 ≡ mine → Going mine from used h₀ h (at + size) to
        unfolding kept
        dropped m =
            let own : same (side_at mine) r.bench ≡ true = mine-same mine r.bench one (sym first_word ∙ m) in
            record {
              behind = omega (arith, g.behind);
              within = turn-fits;
              long = g.long;
              rest = sym (drop-drop size at h) ∙ ap (drop size) g.rest ∙ drop-drop size at h₀;
              rs = more;
              tiles = tiles-after;
              is = rw ((next q).is, own) at g.is;
            }

        -- the other's is moved
        abbrev moved : List ℕ
        moved = paste h to (drop at h) size

        module _ (m : get_or h at 0 ≡ mine → ⊥) where
          small : size ≤ length (drop at h)
          small = simp length-drop (omega (arith, turn-fits, g.long, fits))

          front : take (to + size) moved ≡ take to h ++ words_of r
          front =
              take-paste h to (drop at h) size (omega (arith, g.behind, g.within, g.long, fits)) small
              ∙ ap (λ (l : List ℕ). take to h ++ l)
              (ap (take size) (next q).here ∙ take_at (words_of r) (words more ++ drop used h₀) size long-word)

          far : to + size + (at - to) ≡ at + size
          far = omega (arith, g.behind)

          behind-it : drop (at + size) moved ≡ drop (at + size) h
          behind-it =
              let d = drop-paste h to (drop at h) size (omega (arith, g.behind, g.within, g.long, fits)) small in
              rw (← far)
              (sym (drop-drop (at - to) (to + size) moved) ∙ ap (drop (at - to)) d
              ∙ drop-drop (at - to) (to + size) h)

          moved_on : Going mine from used h₀ moved (at + size) (to + size)
          unfolding kept
          moved_on =
              let others : same (side_at mine) r.bench ≡ false =
              not_same mine r.bench one (λ (e : number_of r.bench ≡ mine). m (first_word ∙ e)) in
              record {
                behind = omega (arith, g.behind);
                within = turn-fits;
                long =
                    length-paste h to (drop at h) size (omega (arith, g.behind, turn-fits, g.long, fits)) small
                    ∙ g.long;
                rest = behind-it ∙ sym (drop-drop size at h) ∙ ap (drop size) g.rest ∙ drop-drop size at h₀;
                rs = more;
                tiles = tiles-after;
                is =
                    ap (λ (l : List ℕ). l ++ words (kept (side_at mine) 0 more)) front
                    ∙ append_assoc (take to h) (words_of r) (words (kept (side_at mine) 0 more))
                    ∙ rw ((next q).is, others) at g.is;
              }

        pub turn :
            (h' : List ℕ) (to' : ℕ) → (get_or h at 0 ≡ mine → (to' ≡ to) × (h' ≡ h)) →
            ((get_or h at 0 ≡ mine → ⊥) → (to' ≡ to + size) × (h' ≡ moved)) → Going mine from used h₀ h' (at + size) to'
        turn h' to' a b = by (eqb (get_or h at 0) mine) refl
          where
            by : (t : Bool) → eqb (get_or h at 0) mine ≡ t → Going mine from used h₀ h' (at + size) to'
            by true e =
                let m : get_or h at 0 ≡ mine = eqb-true (get_or h at 0) mine e in
                rw ((a m).0, (a m).1) (dropped m)
            by false e =
                let m : get_or h at 0 ≡ mine → ⊥ = eqb-false (get_or h at 0) mine e in
                rw ((b m).0, (b m).1) (moved_on m)
