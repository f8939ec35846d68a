-- Document 02, order 9, of UTF-7: outside a run the state is the start's. Assumes nothing.
use Prim.Native.Nat.{ℕ}
use mathlib.Core.Path.{◌≡◌, refl, sym, ap, ◌∙◌}
use mathlib.Core.Bool.{Bool, true, false, cond, true≢false}
use mathlib.Core.List.{List, [], ◌∷◌}
use native.Mathlib.Omega.{arith}
use lib.ListN.{length, length-append}
use Rattle.answer.specs.Bytes.{bytes}
use Rattle.bits.specs.Bits.{bits, number, all_zero}
use Rattle.alphabet.specs.Letters.{value_of, set_b}
use Rattle.reading.specs.Reading.{go, accepted, fault, Reading, read_from, reading}
use Rattle.reading.specs.Located.{state_after}
use Rattle.reading.specs.Joined.{Accepted, end_state, Serves, ReadsAsBoth}
use Rattle.reading.proofs.Walk.{Walk, stay, goes, walk-state, walk-on, walk-whole, no-fault, accepted-walk}
use Rattle.reading.proofs.Joined.{Simulation, simulates-same, serves, joined-reads, joined-calls}
use Rattle.utf7.specs.Sets.{alphanumeric, set_d, set_o, direct}
use Rattle.utf7.specs.Rule.{Shift, outside, opening, run, outside_does, unit_does, may_end, end_does}
use Rattle.utf7.specs.Rule.{low_does, byte_does, ends_in, utf7}
use Rattle.utf7.specs.Joined.{EndsOutside, Counterexample, LettersJoined}
use Rattle.utf7.proofs.Kept.{utf7-kept}

abbrev Same : Shift → Shift → Type 0
Same now st = now ≡ st

-- whether a text may end in a state does not hang on its length
may-end : (t : Bool) (at at' : ℕ) → cond t accepted (fault 4 at) ≡ accepted → cond t accepted (fault 4 at') ≡ accepted
may-end true at at' e = refl
may-end false at at' e = no-fault 4 at e

any-size : (st : Shift) (at at' : ℕ) → ends_in at st ≡ accepted → ends_in at' st ≡ accepted
unfolding ends_in
any-size outside at at' e = refl
any-size opening at at' e = no-fault 2 at e
any-size (run pending) at at' e = may-end (may_end pending) at at' e

same : Simulation utf7 Same
same =
    record {
      bytes = λ now st b h. rw h (simulates-same (λ (s : Shift). refl) (byte_does st b));
      ends = λ now st at at' h e. rw h (any-size st at at' e);
    }

outside-serves : (text : List ℕ) → EndsOutside text → Serves utf7 (end_state utf7 text) outside
outside-serves text = serves same (end_state utf7 text) outside

abbrev inside : Shift → Bool
inside outside = false
inside opening = true
inside (run pending) = true

without-that : Counterexample
unfolding bits number all_zero value_of set_b read_from reading state_after alphanumeric set_d set_o direct outside_does
    unit_does may_end end_does low_does byte_does ends_in
without-that =
    record {
      first = refl;
      second = refl;
      both = refl;
      inside = λ e. true≢false (ap inside e);
      fails = λ e. omega (arith, ap (λ (r : Reading). length r.cells) e);
    }

-- a run that may end is ended by `-`, which gives nothing
minus-ends : (pending : List Bool) → may_end pending ≡ true → byte_does (run pending) 45 ≡ go outside
unfolding byte_does low_does end_does set_b value_of
minus-ends pending e = rw e

may-true : (t : Bool) (at : ℕ) → cond t accepted (fault 4 at) ≡ accepted → t ≡ true
may-true true at e = refl
may-true false at e = no-fault 4 at e

module _ (first : List ℕ) (h : ReadsAsBoth utf7 first (bytes "-")) where
  ends_by :
      (st : Shift) → Walk utf7 outside first (reading utf7 first).cells st → ends_in (length first) st ≡ accepted →
      st ≡ outside
  unfolding ends_in
  ends_by outside w e = refl
  ends_by opening w e = no-fault 2 (length first) e
  ends_by (run pending) w e =
      let m = may-true (may_end pending) (length first) e in
      let r = walk-whole (walk-on w (goes (minus-ends pending m) stay)) (λ size. refl) in
      let q = rw without-that.second at (ap (λ (x : Reading). length x.cells) (sym r ∙ h)) in
      let c = (reading utf7 first).cells in
      absurd (omega (arith, q, length-append c [], length-append c (45 ∷ [])))

only : (first : List ℕ) → Accepted utf7 first → ReadsAsBoth utf7 first (bytes "-") → EndsOutside first
only first one h =
    let a = accepted-walk utf7 first one in
    rw (walk-state a.walk) (ends_by first h a.end a.walk a.last)

pub letters-joined : LettersJoined
letters-joined =
    record {
      reads = λ first second one out two. joined-reads utf7 first second one (outside-serves first out) two;
      calls = λ first second out. joined-calls utf7-kept first second (λ _. outside-serves first out);
      only = only;
      without-that = without-that;
    }
