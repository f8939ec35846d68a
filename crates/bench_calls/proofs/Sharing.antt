-- What closing the gap leaves of sound benches' words: those of the records that stay. Assumes nothing.
use Prim.Native.Nat.{ℕ, zero, suc, ◌+◌, ◌≤◌, ◌<◌}
use mathlib.Core.Path.{◌≡◌, refl, sym, ap, ◌∙◌}
use mathlib.Core.Bool.{Bool, true, false, cond}
use mathlib.Core.List.{List, [], ◌∷◌, ◌++◌, append_assoc, append-nil}
use native.Mathlib.Omega.{arith}
use lib.ListN.{length, take, drop, length-append}
use lib.Seq.{take_at, drop_at, length-take-le}
use lib.Dec.{leb}
use borrow.Author.Tests.{leb-true, leb-false}
use Rattle.answer.specs.Answer.{limit}
use Rattle.editor.specs.Records.{Entry}
use Rattle.benches.specs.declared.Bench.{Bench}
use Rattle.benches.specs.Words.{Side, first, second, number_of, same, at, Record, words_of, words, size_of, own, kept}
use Rattle.benches.specs.Benches.{State}
use Rattle.benches.proofs.Words.{by-bench, words_append, words-kept}
use Rattle.bench_records.specs.declared.Pass.{Pass}
use Rattle.bench_records.specs.Passing.{begins}
use Rattle.bench_records.specs.Turning.{side_at}
use Rattle.bench_records.proofs.Found.{Fit}
use Rattle.bench_records.proofs.Ended.{fitting, pass-spare, pass-next, pass-none, history-is}
use Rattle.bench_calls.specs.Gap.{Tiles, closed}
use Rattle.bench_calls.specs.Replaces.{Shared}
use Rattle.bench_calls.proofs.Closing.{closed-words, length-record}

module _ (s : Side) where
  -- the records before a bench's first undone one, and from it on
  record Split (n : ℕ) (rs : List Record) : Type 0 where
    pub front : List Record
    pub tail : List Record
    pub is : rs ≡ front ++ tail
    pub stay : kept s n rs ≡ front ++ kept s 0 tail
    pub some' : n < length (own s rs) → length (words front) ≡ begins s n rs
    pub none' : length (own s rs) ≤ n → tail ≡ []

  -- one record before them
  ahead :
      (n m : ℕ) (r : Record) (rs : List Record) → kept s n (r ∷ rs) ≡ r ∷ kept s m rs →
      begins s n (r ∷ rs) ≡ size_of r.entry + begins s m rs →
      (n < length (own s (r ∷ rs)) → m < length (own s rs)) → (length (own s (r ∷ rs)) ≤ n → length (own s rs) ≤ m) →
      Split m rs → Split n (r ∷ rs)
  ahead n m r rs k b more few p =
      record {
        front = r ∷ p.front;
        tail = p.tail;
        is = ap (λ (l : List Record). r ∷ l) p.is;
        stay = k ∙ ap (λ (l : List Record). r ∷ l) p.stay;
        some' = λ h. omega (arith, length-append (words_of r) (words p.front), length-record r, p.some' (more h), b);
        none' = λ h. p.none' (few h);
      }

  split : (n : ℕ) (rs : List Record) → Split n rs
  unfolding own kept
  split n [] =
      record {
        front = [];
        tail = [];
        is = refl;
        stay = refl;
        some' = λ h. absurd (omega arith);
        none' = λ h. refl;
      }
  split zero (r ∷ rs) = by (same s r.bench) refl (split zero rs)
    where
      by : (t : Bool) → same s r.bench ≡ t → Split zero rs → Split zero (r ∷ rs)
      by true q p =
          record {
            front = [];
            tail = r ∷ rs;
            is = refl;
            stay = refl;
            some' = λ _. rw q;
            none' = λ h. let h' : suc (length (own s rs)) ≤ 0 = rw q at h in absurd (omega arith);
          }
      by false q p = ahead zero zero r rs (rw q) (rw q) (λ h. rw q at h) (λ h. rw q at h) p
  split (suc n) (r ∷ rs) = by (same s r.bench) refl (split n rs) (split (suc n) rs)
    where
      by : (t : Bool) → same s r.bench ≡ t → Split n rs → Split (suc n) rs → Split (suc n) (r ∷ rs)
      by true q p o =
          ahead (suc n) n r rs (rw q) (rw q)
          (λ h. let h' : suc n < suc (length (own s rs)) = rw q at h in omega arith)
          (λ h. let h' : suc (length (own s rs)) ≤ suc n = rw q at h in omega arith) p
      by false q p o = ahead (suc n) (suc n) r rs (rw q) (rw q) (λ h. rw q at h) (λ h. rw q at h) o

  own-few : (rs : List Record) → length (own s rs) ≤ length (words rs)
  unfolding own
  own-few [] = omega arith
  own-few (r ∷ rs) =
      by-bench s r (λ t. length (cond t (r.entry ∷ own s rs) (own s rs)) ≤ length (words (r ∷ rs)))
      (λ _. omega (arith, own-few rs, length-append (words_of r) (words rs)))
      (λ _. omega (arith, own-few rs, length-append (words_of r) (words rs)))

side-at : (s : Side) → side_at (number_of s) ≡ s
side-at first = refl
side-at second = refl

at_most_one : (s : Side) → number_of s ≤ 1
at_most_one first = omega arith
at_most_one second = omega arith

module _ {t : State} {s : Side} {p : Pass} (f : Fit t s p) where
  abbrev b : Bench
  b = at t.benches s

  abbrev text : List ℕ
  text = at t.texts s

  abbrev es : List Entry
  es = own s f.rs

  abbrev cut : Split s b.standing f.rs
  cut = split s b.standing f.rs

  all : length (words f.rs) ≡ t.used
  all = ap length f.tiled.tiles ∙ length-take-le t.used t.history f.tiled.uses

  next-is : length (words cut.front) ≡ p.next
  next-is = by (leb (length es) b.standing) refl
    where
      by : (c : Bool) → leb (length es) b.standing ≡ c → length (words cut.front) ≡ p.next
      by true q =
          let h : length es ≤ b.standing = leb-true (length es) b.standing q in
          let n : p.next ≡ t.used = pass-none f h in
          let w : f.rs ≡ cut.front =
          cut.is ∙ ap (λ (l : List Record). cut.front ++ l) (cut.none' h) ∙ append-nil cut.front in
          ap (λ (l : List Record). length (words l)) (sym w) ∙ all ∙ sym n
      by false q =
          let h : b.standing < length es = leb-false (length es) b.standing q in
          cut.some' h ∙ sym (pass-next f h)

  whole : words cut.front ++ (words cut.tail ++ drop t.used t.history) ≡ t.history
  whole =
      sym (append_assoc (words cut.front) (words cut.tail) (drop t.used t.history))
      ∙ ap (λ (l : List ℕ). l ++ drop t.used t.history)
      (sym (words_append cut.front cut.tail) ∙ ap words (sym cut.is))
      ∙ history-is f

  abbrev tiles : Tiles p.next t.used t.history
  tiles =
      record {
        rs = cut.tail;
        is =
            sym (drop_at (words cut.front) (words cut.tail ++ drop t.used t.history) p.next next-is)
            ∙ ap (drop p.next) whole;
      }

  front-is : take p.next t.history ≡ words cut.front
  front-is =
      ap (take p.next) (sym whole)
      ∙ take_at (words cut.front) (words cut.tail ++ drop t.used t.history) p.next next-is

  from : p.next ≤ t.used
  from =
      omega (
        arith,
        next-is,
        all,
        ap (λ (l : List Record). length (words l)) cut.is,
        ap length (words_append cut.front cut.tail),
        length-append (words cut.front) (words cut.tail),
      )

  -- what the code leaves of the words is what stays of the records
  pub closed_is : closed (number_of s) p.next t.used t.history ≡ words (kept s b.standing f.rs)
  closed_is =
      sym (closed-words (number_of s) p.next t.used t.history f.tiled.uses from tiles)
      ∙ (λ i. front-is i ++ words (kept (side-at s i) 0 cut.tail))
      ∙ sym (words_append cut.front (kept s 0 cut.tail))
      ∙ ap words (sym cut.stay)

  kept-length : length (words (kept s b.standing f.rs)) + p.spare ≡ t.used
  kept-length = omega (arith, words-kept s b.standing f.rs, pass-spare f, all)

  pub shared : length text ≤ limit → Shared b (number_of s) t.used p text t.history
  shared small =
      record {
        one = at_most_one s;
        few = omega (arith, (fitting f).few, own-few s f.rs, all, f.tiled.uses, f.short-history);
        text-filled = record { fits = (fitting f).fits; blank = (fitting f).blank };
        text-small = small;
        filled = record { fits = f.tiled.uses; blank = f.tiled.blank };
        small = f.short-history;
        from = from;
        spare = omega (arith, kept-length);
        tiles = tiles;
        closes = omega (arith, ap length closed_is, kept-length);
      }
