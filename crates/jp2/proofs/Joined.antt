-- Document 02, order 9, of JP-2: a text that is accepted by itself shows nothing that stood in G2 before it. Assumes
-- nothing.
use Prim.Native.Nat.{ℕ}
use mathlib.Core.Path.{◌≡◌, refl}
use mathlib.Core.Bool.{Bool, true, false, cond, ◌&&◌, ◌||◌}
use mathlib.Core.List.{List, [], ◌∷◌, ◌++◌}
use lib.Dec.{ltb, eqb}
use Rattle.reading.specs.Reading.{Does, read_from, reading}
use Rattle.reading.specs.Joined.{Accepted, end_state, Serves}
use Rattle.reading.proofs.Walk.{walk-state}
use Rattle.reading.proofs.Joined.{Simulates, gives, goes, faulty, Simulation, simulates-same, serves, joined-reads}
use Rattle.reading.proofs.Joined.{joined-calls}
use Rattle.jp2.specs.Table.{designations, begins, first_where, row_at, is_list, row_of_escape, row_begun_by}
use Rattle.jp2.specs.Rule.{Phase, plain, return, first, shifted, escape, State, state, designated, graphic}
use Rattle.jp2.specs.Rule.{single_does, first_does, second_does, between_does, shifted_does, escape_does, in_phase}
use Rattle.jp2.specs.Rule.{byte_does, ends_in, jp2}
use Rattle.jp2.specs.declared.Designation.{Designation}
use Rattle.jp2.specs.Joined.{OneWay, LettersJoined}
use Rattle.jp2.proofs.Kept.{jp2-kept}
use Rattle.jp2.proofs.Ends.{Rests, Last, ends_last, last-ends, accepted-ends}

-- with nothing in G2 no single shift is begun
abbrev Unshifted : Phase → Type 0
Unshifted plain = Unit
Unshifted return = Unit
Unshifted (first a) = Unit
Unshifted shifted = ⊥
Unshifted (escape bytes) = Unit

-- the state behind the first text, and that of the second by itself: the same, once the second has designated its own
-- G2; before that, something in G2 for nothing; and right at the join the first may have ended with CR
data For : State → State → Type 0 where
  same : {st : State} → For st st
  more : {g0 g2 : ℕ} {phase : Phase} → Unshifted phase → For (state g0 g2 phase) (state g0 0 phase)
  after_return : {g0 g2 : ℕ} → For (state g0 g2 return) (state g0 0 plain)

either :
    (t : Bool) {a b c d : Does State} → Simulates For a c → Simulates For b d →
    Simulates For (cond t a b) (cond t c d)
either true x y = x
either false x y = y

after-single : (t : Bool) → Unshifted (cond t return plain)
after-single true = tt
after-single false = tt

nothing : (t : Bool) → ◌≡◌ {A = ℕ} (cond t 0 0) 0
nothing true = refl
nothing false = refl

module _ (g0 g2 b : ℕ) where
  -- CR before the byte or not, in either
  between-simulates : (cr cr' : Bool) → Simulates For (between_does g0 g2 cr b) (between_does g0 0 cr' b)
  unfolding between_does single_does first_does
  between-simulates cr cr' =
      either (eqb b 27) (goes (more tt))
      (either (eqb g0 6 || eqb g0 14)
      (either (eqb b 14 || eqb b 15) faulty (rw (nothing (cr' && eqb b 10)) (gives (more (after-single (eqb b 13))))))
      (either (graphic b) (goes (more tt)) faulty))

  second-simulates : (a : ℕ) → Simulates For (second_does g0 g2 a b) (second_does g0 0 a b)
  unfolding second_does
  second-simulates a = either (graphic b) (gives (more tt)) faulty

designated-for : (g0 g2 : ℕ) (d : Designation) → For (designated g0 g2 d) (designated g0 0 d)
designated-for g0 g2 d = by (eqb d.to 2)
  where
    by :
        (t : Bool) →
        For (cond t (state g0 d.number plain) (state d.number g2 plain))
        (cond t (state g0 d.number plain) (state d.number 0 plain))
    by true = same
    by false = more tt

escape-simulates : (g0 g2 : ℕ) (bytes : List ℕ) → Simulates For (escape_does g0 g2 bytes) (escape_does g0 0 bytes)
unfolding escape_does
escape-simulates g0 g2 bytes =
    either (is_list bytes (27 ∷ 78 ∷ [])) faulty
    (either (ltb (row_of_escape bytes) 9) (goes (designated-for g0 g2 (row_at (row_of_escape bytes))))
    (either (ltb (row_begun_by bytes) 9) (goes (more tt)) faulty))

phase-simulates : (p : Phase) (g0 g2 b : ℕ) → Unshifted p → Simulates For (in_phase p g0 g2 b) (in_phase p g0 0 b)
phase-simulates plain g0 g2 b u = between-simulates g0 g2 b false false
phase-simulates return g0 g2 b u = between-simulates g0 g2 b true true
phase-simulates (first a) g0 g2 b u = second-simulates g0 g2 b a
phase-simulates shifted g0 g2 b u = absurd u
phase-simulates (escape bytes) g0 g2 b u = escape-simulates g0 g2 (bytes ++ b ∷ [])

byte-simulates : {now st : State} → For now st → (b : ℕ) → Simulates For (byte_does now b) (byte_does st b)
unfolding byte_does
byte-simulates {now} same b = simulates-same (λ st. same) _
byte-simulates (more {g0} {g2} {phase} u) b = either (ltb b 128) (phase-simulates phase g0 g2 b u) faulty
byte-simulates (after_return {g0} {g2}) b = either (ltb b 128) (between-simulates g0 g2 b true false) faulty

last-for : {now st : State} → For now st → Last st → Last now
last-for same l = l
last-for (more u) l = record { ascii = l.ascii; rests = l.rests }
last-for after_return l = record { ascii = l.ascii; rests = tt }

left_over : Simulation jp2 For
left_over =
    record {
      bytes = λ now st b h. byte-simulates h b;
      ends = λ now st at at' h e. last-ends now (last-for h (ends_last at st e)) at';
    }

-- an accepted text ends in a state that serves for the start
start-for : (g0 g2 : ℕ) (p : Phase) → g0 ≡ 6 → Rests p → For (state g0 g2 p) jp2.start
start-for g0 g2 plain e r = rw e (more tt)
start-for g0 g2 return e r = rw e after_return
start-for g0 g2 (first a) e r = absurd r
start-for g0 g2 shifted e r = absurd r
start-for g0 g2 (escape bytes) e r = absurd r

end-serves : (text : List ℕ) → Accepted jp2 text → Serves jp2 (end_state jp2 text) jp2.start
end-serves text e =
    let a = accepted-ends text e in
    let s = a.end in
    serves left_over (end_state jp2 text) jp2.start
    (rw (walk-state a.walk) (start-for s.g0 s.g2 s.phase a.last.ascii a.last.rests))

one_way : OneWay
unfolding read_from reading designations begins first_where row_of_escape row_begun_by graphic single_does first_does
    second_does between_does shifted_does escape_does byte_does ends_in
one_way = record { first = refl; second = refl; both = refl }

pub letters-joined : LettersJoined
letters-joined =
    record {
      reads = λ first second one two. joined-reads jp2 first second one (end-serves first one) two;
      calls = λ first second. joined-calls jp2-kept first second (end-serves first);
      one_way = one_way;
    }
