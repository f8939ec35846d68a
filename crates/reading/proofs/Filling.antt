-- Reading into an output: the loop that fills it, and the ways that the whole call goes. Assumes nothing.
use Prim.Native.Nat.{ℕ, ◌+◌, ◌<◌, ◌≤◌}
use mathlib.Core.Path.{◌≡◌, refl, ap}
use mathlib.Core.Bool.{true, false}
use mathlib.Core.List.{List, [], ◌∷◌}
use native.Mathlib.Omega.{arith}
use lib.ListN.{length, get_or, drop, set}
use lib.Dec.{ltb}
use borrow.Author.Tests.{lt-ltb, le-ltb}
use Rattle.std.specs.declared.result.Result.TheVariants.{Ok, Err}
use Rattle.answer.specs.declared.Refused.{Refused}
use Rattle.answer.specs.Answer.{Verdict, numbered, number_of, in_numbers, limit, too_long, refused_at, Answer}
use Rattle.answer.specs.Output.{leaves, filled, deliver}
use Rattle.answer.specs.declared.Refusal.{Refusal}
use Rattle.answer.specs.declared.Refusal.TheVariants.{NoRoom}
use Rattle.answer.proofs.Once.{number-pos}
use Rattle.answer.proofs.Put.{Put, put-start, put_as, put-lt, put_next, put-done}
use Rattle.reading.specs.Reading.{Does, give, go, bad, on_read, Ending, accepted, fault, Rule, Reading, closing, verdict_of, on_ending, read_from, reading, read_into}
pub use Rattle.reading.specs.Inner.{Filling}
use Rattle.reading.proofs.Laws.{Kept, SoundEnd, good-reading, read_by, read-end, left-start, left-give, left-go}

pub filling-start :
    {S : Type 0} (rule : Rule S) (s out : List ℕ) → length (reading rule s).cells ≤ length out → Filling rule s 0 rule.start 0 out out
unfolding reading
filling-start rule s out h = record { left = left-start rule s; put = put-start (reading rule s).cells out h }

module _ {S : Type 0} {rule : Rule S} {s : List ℕ} {at : ℕ} {st : S} {n : ℕ} {out₀ out : List ℕ} (f : Filling rule s at st n out₀ out) where
  put-by : (r : Reading) → read_from rule (drop at s) at st ≡ r → Put (reading rule s).cells out₀ out n r.cells
  put-by r e = put_as (ap (λ (x : Reading). x.cells) e) f.put

  module _ (h : at < length s) where
    module _ {v : ℕ} {st' : S} (e : rule.byte st (get_or s at 0) ≡ give v st') where
      pub filling-index : n < length out
      filling-index = put-lt (put-by _ (read_by rule s at st (give v st') h e))

      pub filling-give : Filling rule s (at + 1) st' (n + 1) out₀ (set out n v)
      filling-give = record { left = left-give f.left h e; put = put_next (put-by _ (read_by rule s at st (give v st') h e)) }

    pub filling-go : {st' : S} → rule.byte st (get_or s at 0) ≡ go st' → Filling rule s (at + 1) st' n out₀ out
    filling-go {st'} e = record { left = left-go f.left h e; put = put-by _ (read_by rule s at st (go st') h e) }

    pub filling-bad : {k : ℕ} → rule.byte st (get_or s at 0) ≡ bad k → out ≡ filled (reading rule s).cells out₀
    filling-bad {k} e = put-done (put-by _ (read_by rule s at st (bad k) h e))

  pub filling-end : length s ≤ at → out ≡ filled (reading rule s).cells out₀
  filling-end h = put-done (put-by _ (read-end rule s at st h))

-- the whole call, by the answer `a` that a first pass found
module _ {S : Type 0} {rule : Rule S} {Sound : S → Type 0} {Good : ℕ → Type 0} (kept : Kept rule Sound Good) (s out : List ℕ) where
  pub into-long : (a : Answer) → ltb limit (length s) ≡ true → in_numbers a ≡ too_long → leaves a out ≡ read_into rule s out
  unfolding read_into
  into-long a h e = rw (h, e)

  module _ (h : ltb limit (length s) ≡ false) where
    refused-by :
        (why : Refusal) (place : ℕ) (e : Ending) (cells : List ℕ) → numbered (number_of why) place ≡ closing e (length cells) →
        leaves (refused_at why place) out ≡ on_ending e cells out
    refused-by why place accepted cells q = absurd (omega (arith, number-pos why, ap (λ (v : Verdict). v.number) q))
    refused-by why place (fault k p) cells q = rw q

    pub into-refused : {a : Answer} {deny : Refused} → in_numbers a ≡ verdict_of (reading rule s) → a ≡ Err deny → leaves a out ≡ read_into rule s out
    unfolding read_into
    into-refused {a} {deny} q e =
        rw (h, e) (refused-by deny.0 deny.1 (reading rule s).ending (reading rule s).cells (rw e at q))

    accepted-by : (n : ℕ) (e : Ending) (m : ℕ) → SoundEnd e → numbered 0 n ≡ closing e m → (e ≡ accepted) × (n ≡ m)
    accepted-by n accepted m w q = (refl, ap (λ (v : Verdict). v.place) q)
    accepted-by n (fault k p) m w q = absurd (omega (arith, w, ap (λ (v : Verdict). v.number) q))

    module _ {a : Answer} {n : ℕ} (q : in_numbers a ≡ verdict_of (reading rule s)) (e : a ≡ Ok n) where
      known : ((reading rule s).ending ≡ accepted) × (n ≡ length (reading rule s).cells)
      known = accepted-by n (reading rule s).ending (length (reading rule s).cells) (good-reading kept s).1 (rw e at q)

      pub into-count : n ≡ length (reading rule s).cells
      into-count = known.1

      pub into-room : n ≤ length out → length (reading rule s).cells ≤ length out
      into-room r = omega (arith, known.1)

      pub into-short : length out < n → leaves (refused_at NoRoom n) out ≡ read_into rule s out
      unfolding read_into deliver
      into-short r = rw (h, known.0, ← known.1, lt-ltb (length out) n r)

      pub into-filled : {o : List ℕ} → n ≤ length out → o ≡ filled (reading rule s).cells out → leaves a o ≡ read_into rule s out
      unfolding read_into deliver
      into-filled {o} r f = rw (h, known.0, e, f, ← known.1, le-ltb (length out) n r)

-- a text has no more cells than bytes
module _ {S : Type 0} (rule : Rule S) where
  few-does :
      (m : Does S) (at k : ℕ) (rest : S → Reading) → ((st : S) → length (rest st).cells ≤ k) → length (on_read m at rest).cells ≤ k + 1
  few-does (give v st) at k rest ih = omega (arith, ih st)
  few-does (go st) at k rest ih = omega (arith, ih st)
  few-does (bad j) at k rest ih = omega arith

  few-from : (bs : List ℕ) (at : ℕ) (st : S) → length (read_from rule bs at st).cells ≤ length bs
  unfolding read_from
  few-from [] at st = omega arith
  few-from (b ∷ bs) at st =
      let h = few-does (rule.byte st b) at (length bs) (read_from rule bs (at + 1)) (few-from bs (at + 1)) in
      omega (arith, h)

  pub few-cells : (s : List ℕ) → length (reading rule s).cells ≤ length s
  unfolding reading
  few-cells s = few-from s 0 rule.start
