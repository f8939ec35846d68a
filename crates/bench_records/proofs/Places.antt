-- Where a bench's own record begins in the shared words: what undo (the last standing one) and redo (the first undone
-- one) find. Past its first word it is a page's record. Assumes nothing.
use Prim.Native.Nat.{ℕ, zero, suc, ◌+◌}
use mathlib.Core.Path.{◌≡◌, sym, ap, ◌∙◌}
use mathlib.Core.Bool.{true, cond}
use mathlib.Core.List.{List, [], ◌∷◌, ◌++◌, append_assoc, nil≢cons, head-eq_of_cons-eq}
use native.Mathlib.Omega.{arith}
use lib.ListN.{length, drop, length-append}
use lib.Seq.{drop-nil}
use Rattle.editor.specs.Records.{Entry}
use Rattle.ledger.specs.Words as page
use Rattle.ledger.proofs.Words.{At, words-at}
use Rattle.benches.specs.Words.{Side, number_of, same, Record, words_of, words, size_of, own}
use Rattle.benches.proofs.Words.{by-bench, words_append}
use Rattle.bench_records.specs.Passing.{begins}

length-record : (r : Record) → length (words_of r) ≡ size_of r.entry
length-record r = simp length-append (omega arith)

module _ (s : Side) where
  pub record Placed (n : ℕ) (rs : List Record) (e : Entry) : Type 0 where
    pub front : List Record
    pub rest : List Record
    pub bench : Side
    pub mine : same s bench ≡ true
    pub is : rs ≡ front ++ record { bench = bench; entry = e } ∷ rest
    pub at : length (words front) ≡ begins s n rs

  -- one record before it
  before :
      (n m : ℕ) (r : Record) (rs : List Record) (e : Entry) →
      begins s n (r ∷ rs) ≡ size_of r.entry + begins s m rs → Placed m rs e → Placed n (r ∷ rs) e
  before n m r rs e b p =
      record {
        front = r ∷ p.front;
        rest = p.rest;
        bench = p.bench;
        mine = p.mine;
        is = ap (λ (l : List Record). r ∷ l) p.is;
        at = omega (arith, length-append (words_of r) (words p.front), length-record r, p.at, b);
      }

  pub placed :
      (n : ℕ) (rs : List Record) (e : Entry) (es : List Entry) → drop n (own s rs) ≡ e ∷ es → Placed n rs e
  unfolding own
  placed n [] e es h = absurd (nil≢cons (sym (drop-nil n) ∙ h))
  placed zero (r ∷ rs) e es h =
      by-bench s r (λ t. cond t (r.entry ∷ own s rs) (own s rs) ≡ e ∷ es → Placed zero (r ∷ rs) e)
      (λ q h.
      record {
        front = [];
        rest = rs;
        bench = r.bench;
        mine = q;
        is = λ i. record { bench = r.bench; entry = head-eq_of_cons-eq h i } ∷ rs;
        at = rw q;
      })
      (λ q h. before zero zero r rs e (rw q) (placed zero rs e es h)) h
  placed (suc n) (r ∷ rs) e es h =
      by-bench s r (λ t. drop (suc n) (cond t (r.entry ∷ own s rs) (own s rs)) ≡ e ∷ es → Placed (suc n) (r ∷ rs) e)
      (λ q h. before (suc n) n r rs e (rw q) (placed n rs e es h))
      (λ q h. before (suc n) (suc n) r rs e (rw q) (placed (suc n) rs e es h)) h

  -- its words, past the first one, are a page's record
  placed-words :
      (n : ℕ) (rs : List Record) (e : Entry) (p : Placed n rs e) (tail : List ℕ) →
      words rs ++ tail
      ≡ (words p.front ++ number_of p.bench ∷ []) ++ (page.words_of e ++ (words p.rest ++ tail))
  placed-words n rs e p tail =
      ap (λ (rs : List Record). words rs ++ tail) p.is
      ∙ rw (words_append p.front (record { bench = p.bench; entry = e } ∷ p.rest)) (simp append_assoc)

  -- so it stands there, whatever follows the records
  pub placed_at :
      (n : ℕ) (rs : List Record) (e : Entry) → Placed n rs e → (tail : List ℕ) →
      At (words rs ++ tail) (begins s n rs + 1) e
  placed_at n rs e p tail =
      let front : List ℕ = words p.front ++ number_of p.bench ∷ [] in
      let long : length front ≡ begins s n rs + 1 = simp length-append (omega (arith, p.at)) in
      rw (placed-words n rs e p tail, ← long) (words-at front (words p.rest ++ tail) e)
