-- One pass over all records judges a bench as order 13 has it, and finds the words where its last standing and its
-- first undone record begin, and how many words the undone ones are. Assumes nothing.
use Prim.Native.Nat.{ℕ, zero, suc, ◌+◌, ◌-◌, ◌≤◌, ◌<◌}
use mathlib.Core.Path.{◌≡◌, refl, ◌∙◌}
use mathlib.Core.Bool.{Bool, true, false, cond, ◌&&◌}
use mathlib.Core.List.{List, [], ◌∷◌}
use native.Mathlib.Omega.{arith}
use native.Mathlib.Nat.{add-zero, zero-add}
use lib.ListN.{length, take, drop}
use lib.Seq.{take-nil, drop-nil}
use lib.Dec.{leb, ltb, eqb}
use borrow.Author.Tests.{lt-ltb, le-ltb, eq-eqb, ne_eqb}
use Rattle.answer.proofs.Below.{cond-case}
use Rattle.editor.specs.Records.{Entry, length_after, lengths_fit, reached}
use Rattle.ledger.specs.Words.{zeros}
use Rattle.ledger.specs.Parts.{mark_within}
use Rattle.benches.specs.declared.Bench.{Bench}
use Rattle.benches.specs.Words.{Side, same, Record, size_of, sizes, own}
use Rattle.benches.specs.Benches.{bench_sound}
use Rattle.benches.proofs.Words.{by-bench}
use Rattle.bench_records.specs.declared.Pass.{Pass}
use Rattle.std.specs.Prelude.{None, Some}
use Rattle.bench_records.specs.Passing.{owned, passed, begun, leads, pass_sound, begins}

cond-and : {A : Type 0} (a b : Bool) (x y : A) → cond a (cond b x y) y ≡ cond (a && b) x y
cond-and true b x y = refl
cond-and false b x y = refl

module _ (room standing : ℕ) (s : Side) where
  -- where a pass stands at the end of records that fit
  unfoldable pub end_of : ℕ → Pass → List Record → Pass
  end_of at p [] = p
  end_of at p (r ∷ rs) =
      end_of (at + size_of r.entry) (cond (same s r.bench) (owned room standing s at p r.entry) p) rs

  owned-len : (at : ℕ) (p : Pass) (e : Entry) → (owned room standing s at p e).len ≡ length_after p.len e
  owned-len at p e =
      cond-case (λ (q : Pass). q.len ≡ length_after p.len e) (ltb p.seen standing) (λ _. refl) (λ _. refl)

  owned-seen : (at : ℕ) (p : Pass) (e : Entry) → (owned room standing s at p e).seen ≡ p.seen + 1
  owned-seen at p e =
      cond-case (λ (q : Pass). q.seen ≡ p.seen + 1) (ltb p.seen standing) (λ _. refl) (λ _. refl)

  pub passed_is :
      (rs : List Record) (at : ℕ) (p : Pass) →
      passed room standing s at p rs ≡ cond (lengths_fit room p.len (own s rs)) (Some (end_of at p rs)) None
  unfolding passed end_of own lengths_fit
  passed_is [] at p = refl
  passed_is (r ∷ rs) at p =
      let x : Entry = r.entry in
      let q : Pass = owned room standing s at p x in
      let fits : Bool = leb (x.place + length x.removed) p.len && leb (length_after p.len x) room in
      let next : passed room standing s (at + size_of x) q rs
      ≡ cond (lengths_fit room (length_after p.len x) (own s rs)) (Some (end_of (at + size_of x) q rs)) None =
      passed_is rs (at + size_of x) q ∙ rw (owned-len at p x) in
      by-bench s r
      (λ t.
      cond t (cond fits (passed room standing s (at + size_of x) q rs) None)
      (passed room standing s (at + size_of x) p rs)
      ≡ cond (lengths_fit room p.len (cond t (x ∷ own s rs) (own s rs)))
      (Some (end_of (at + size_of x) (cond t q p) rs)) None)
      (λ _. rw next (cond-and fits (lengths_fit room (length_after p.len x) (own s rs)) _ None))
      (λ _. passed_is rs (at + size_of x) p)

  -- what is true of a pass's end, by the own records that are left
  module _
      (P : Pass → ℕ → List Record → Pass → Type 0)
      (none : (at : ℕ) (p : Pass) → P p at [] p)
      (mine : (r : Record) (rs : List Record) (at : ℕ) (p q : Pass) → same s r.bench ≡ true →
      P (owned room standing s at p r.entry) (at + size_of r.entry) rs q → P p at (r ∷ rs) q)
      (others : (r : Record) (rs : List Record) (at : ℕ) (p q : Pass) → same s r.bench ≡ false →
      P p (at + size_of r.entry) rs q → P p at (r ∷ rs) q) where
    ends_by : (rs : List Record) (at : ℕ) (p : Pass) → P p at rs (end_of at p rs)
    unfolding end_of
    ends_by [] at p = none at p
    ends_by (r ∷ rs) at p =
        by-bench s r
        (λ t. P p at (r ∷ rs) (end_of (at + size_of r.entry) (cond t (owned room standing s at p r.entry) p) rs))
        (λ e. mine r rs at p _ e (ends_by rs (at + size_of r.entry) (owned room standing s at p r.entry)))
        (λ e. others r rs at p _ e (ends_by rs (at + size_of r.entry) p))

  -- how many
  pub ends-seen : (rs : List Record) (at : ℕ) (p : Pass) → (end_of at p rs).seen ≡ p.seen + length (own s rs)
  unfolding own
  ends-seen =
      ends_by (λ p at rs q. q.seen ≡ p.seen + length (own s rs)) (λ at p. omega arith)
      (λ r rs at p q e h. rw e (omega (arith, h, owned-seen at p r.entry))) (λ r rs at p q e h. rw e h)

  -- an own record that stands, and one that does not
  module _ (at : ℕ) (p : Pass) (e : Entry) where
    abbrev standing_pass : Pass
    standing_pass =
        record {
          seen = p.seen + 1;
          len = length_after p.len e;
          stood = length_after p.len e;
          last = at;
          next = p.next;
          spare = p.spare;
        }

    abbrev undone_pass : Pass
    undone_pass =
        record {
          seen = p.seen + 1;
          len = length_after p.len e;
          stood = p.stood;
          last = p.last;
          next = cond (eqb p.seen standing) at p.next;
          spare = p.spare + size_of e;
        }

    stands : p.seen < standing → owned room standing s at p e ≡ standing_pass
    stands h = rw (lt-ltb p.seen standing h)

    undone : standing ≤ p.seen → owned room standing s at p e ≡ undone_pass
    undone h = rw (le-ltb p.seen standing h)

  -- how many words the undone ones are
  abbrev Spare : Pass → ℕ → List Record → Pass → Type 0
  Spare p at rs q = (k : ℕ) → standing - p.seen ≡ k → q.spare ≡ p.spare + sizes (drop k (own s rs))

  spare-mine :
      (r : Record) (rs : List Record) (at : ℕ) (p q : Pass) → same s r.bench ≡ true →
      Spare (owned room standing s at p r.entry) (at + size_of r.entry) rs q → Spare p at (r ∷ rs) q
  unfolding own
  spare-mine r rs at p q e h zero z =
      let h' = rw (undone at p r.entry (omega arith)) at h in
      rw e (omega (arith, h' 0 (omega arith)))
  spare-mine r rs at p q e h (suc k) z =
      let h' = rw (stands at p r.entry (omega arith)) at h in
      rw e (h' k (omega arith))

  pub ends-spare : (rs : List Record) (at : ℕ) (p : Pass) → Spare p at rs (end_of at p rs)
  unfolding own
  ends-spare =
      ends_by Spare (λ at p k z. rw drop-nil (omega arith)) spare-mine (λ r rs at p q e h k z. rw e (h k z))

  -- the length that those that stand lead to
  abbrev Stood : Pass → ℕ → List Record → Pass → Type 0
  Stood p at rs q =
      (k : ℕ) → standing - p.seen ≡ k → (k ≡ 0 → q.stood ≡ p.stood)
      × (p.stood ≡ p.len → q.stood ≡ reached p.len (take k (own s rs)))

  -- the word where the last of them begins, and where the first undone one does
  abbrev Last : Pass → ℕ → List Record → Pass → Type 0
  Last p at rs q =
      (standing ≤ p.seen → q.last ≡ p.last)
      × ((k : ℕ) → standing ≡ p.seen + suc k → k < length (own s rs) → q.last ≡ at + begins s k rs)

  abbrev Next : Pass → ℕ → List Record → Pass → Type 0
  Next p at rs q =
      (standing < p.seen → q.next ≡ p.next)
      × ((k : ℕ) → standing ≡ p.seen + k → k < length (own s rs) → q.next ≡ at + begins s k rs)

  begins-others :
      (r : Record) (rs : List Record) → same s r.bench ≡ false → (k : ℕ) →
      begins s k (r ∷ rs) ≡ size_of r.entry + begins s k rs
  begins-others r rs e zero = rw e
  begins-others r rs e (suc k) = rw e

  last-mine :
      (r : Record) (rs : List Record) (at : ℕ) (p q : Pass) → same s r.bench ≡ true →
      Last (owned room standing s at p r.entry) (at + size_of r.entry) rs q → Last p at (r ∷ rs) q
  unfolding own
  last-mine r rs at p q e h = (past, here)
    where
      past : standing ≤ p.seen → q.last ≡ p.last
      past z = (rw (undone at p r.entry z) at h).0 (omega arith)

      here : (k : ℕ) → standing ≡ p.seen + suc k → k < length (own s (r ∷ rs)) → q.last ≡ at + begins s k (r ∷ rs)
      here zero z few = rw e (rw add-zero ((rw (stands at p r.entry (omega arith)) at h).0 (omega arith)))
      here (suc k) z few =
          rw e
          (omega (
            arith,
            (rw (stands at p r.entry (omega arith)) at h).1 k (omega arith) (omega (arith, rw e at few)),
          ))

  last-others :
      (r : Record) (rs : List Record) (at : ℕ) (p q : Pass) → same s r.bench ≡ false →
      Last p (at + size_of r.entry) rs q → Last p at (r ∷ rs) q
  unfolding own
  last-others r rs at p q e h =
      (h.0, λ k z few. omega (arith, h.1 k z (rw e at few), begins-others r rs e k))

  pub ends_last : (rs : List Record) (at : ℕ) (p : Pass) → Last p at rs (end_of at p rs)
  unfolding own
  ends_last = ends_by Last (λ at p. ((λ _. refl), (λ k z few. absurd (omega arith)))) last-mine last-others

  next-mine :
      (r : Record) (rs : List Record) (at : ℕ) (p q : Pass) → same s r.bench ≡ true →
      Next (owned room standing s at p r.entry) (at + size_of r.entry) rs q → Next p at (r ∷ rs) q
  unfolding own
  next-mine r rs at p q e h = (past, here)
    where
      past : standing < p.seen → q.next ≡ p.next
      past z =
          let other : eqb p.seen standing ≡ false =
          ne_eqb p.seen standing (λ (u : p.seen ≡ standing). omega arith) in
          (rw (undone at p r.entry (omega arith), other) at h).0 (omega arith)

      here : (k : ℕ) → standing ≡ p.seen + k → k < length (own s (r ∷ rs)) → q.next ≡ at + begins s k (r ∷ rs)
      here zero z few =
          let here : eqb p.seen standing ≡ true = eq-eqb p.seen standing (omega arith) in
          rw e (rw add-zero ((rw (undone at p r.entry (omega arith), here) at h).0 (omega arith)))
      here (suc k) z few =
          rw e
          (omega (
            arith,
            (rw (stands at p r.entry (omega arith)) at h).1 k (omega arith) (omega (arith, rw e at few)),
          ))

  next-others :
      (r : Record) (rs : List Record) (at : ℕ) (p q : Pass) → same s r.bench ≡ false →
      Next p (at + size_of r.entry) rs q → Next p at (r ∷ rs) q
  unfolding own
  next-others r rs at p q e h =
      (h.0, λ k z few. omega (arith, h.1 k z (rw e at few), begins-others r rs e k))

  pub ends_next : (rs : List Record) (at : ℕ) (p : Pass) → Next p at rs (end_of at p rs)
  unfolding own
  ends_next = ends_by Next (λ at p. ((λ _. refl), (λ k z few. absurd (omega arith)))) next-mine next-others

  none-mine :
      (r : Record) (rs : List Record) (at : ℕ) (p q : Pass) → same s r.bench ≡ true →
      ((owned room standing s at p r.entry).seen + length (own s rs) ≤ standing →
      q.next ≡ (owned room standing s at p r.entry).next) →
      p.seen + length (own s (r ∷ rs)) ≤ standing → q.next ≡ p.next
  unfolding own
  none-mine r rs at p q e h few =
      let few' : p.seen + suc (length (own s rs)) ≤ standing = rw e at few in
      (rw (stands at p r.entry (omega arith)) at h) (omega arith)

  -- where none is undone, it is as before
  pub ends-none :
      (rs : List Record) (at : ℕ) (p : Pass) → p.seen + length (own s rs) ≤ standing → (end_of at p rs).next ≡ p.next
  unfolding own
  ends-none =
      ends_by (λ p at rs q. p.seen + length (own s rs) ≤ standing → q.next ≡ p.next) (λ at p few. refl) none-mine
      (λ r rs at p q e h few. h (rw e at few))

  stood-mine :
      (r : Record) (rs : List Record) (at : ℕ) (p q : Pass) → same s r.bench ≡ true →
      Stood (owned room standing s at p r.entry) (at + size_of r.entry) rs q → Stood p at (r ∷ rs) q
  unfolding own reached
  stood-mine r rs at p q e h zero z =
      let same' : q.stood ≡ p.stood = ((rw (undone at p r.entry (omega arith)) at h) 0 (omega arith)).0 refl in
      ((λ _. same'), (λ even. same' ∙ even))
  stood-mine r rs at p q e h (suc k) z =
      let t = ((rw (stands at p r.entry (omega arith)) at h) k (omega arith)).1 refl in
      ((λ (n : suc k ≡ 0). absurd (omega arith)), (λ _. rw e t))

  pub ends-stood : (rs : List Record) (at : ℕ) (p : Pass) → Stood p at rs (end_of at p rs)
  unfolding own reached
  ends-stood =
      ends_by Stood (λ at p k z. ((λ _. refl), (λ even. rw take-nil even))) stood-mine
      (λ r rs at p q e h k z. rw e (h k z))

-- the tests of a bench, in the pass's order
reordered : (a c m f r : Bool) → (a && c && m && f && r) ≡ (a && cond f (c && m && r) false)
reordered false c m f r = refl
reordered true false m true r = refl
reordered true false m false r = refl
reordered true true false true r = refl
reordered true true false false r = refl
reordered true true true true r = refl
reordered true true true false r = refl

module _ (b : Bench) (used : ℕ) (s : Side) (rs : List Record) where
  abbrev es : List Entry
  es = own s rs

  abbrev ended : ℕ → Pass
  ended room = end_of room b.standing s 0 (begun b.opening used) rs

  abbrev tests : Bool
  tests =
      leb b.standing (length es) && mark_within (length es) b.saved
      && eqb (reached b.opening (take b.standing es)) b.length

  leads-ended : (room : ℕ) (f : Bool) → leads b (cond f (Some (ended room)) None) ≡ cond f tests false
  unfolding leads
  leads-ended room true =
      let p : Pass = begun b.opening used in
      let n : (ended room).seen ≡ length es = ends-seen room b.standing s rs 0 p ∙ zero-add (length es) in
      let t : (ended room).stood ≡ reached b.opening (take b.standing es) =
      (ends-stood room b.standing s rs 0 p b.standing (omega arith)).1 refl in
      rw (n, t)
  leads-ended room false = refl

  pub pass-sound : (text : List ℕ) → bench_sound b text (own s rs) ≡ pass_sound b text used s rs
  unfolding bench_sound pass_sound
  pass-sound text =
      let room : ℕ = length text in
      let fits : Bool = lengths_fit room b.opening es in
      rw (passed_is room b.standing s rs 0 (begun b.opening used), leads-ended room fits)
      (reordered (leb b.opening room && leb b.length room && zeros (drop b.length text))
      (leb b.standing (length es)) (mark_within (length es) b.saved) fits
      (eqb (reached b.opening (take b.standing es)) b.length))
