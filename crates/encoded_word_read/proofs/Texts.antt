-- How many characters of a word's text there may be, and how it ends. Assumes nothing.
use Prim.Native.Nat.{ℕ, ◌+◌, ◌%◌, ◌<◌, ◌≤◌}
use mathlib.Core.Path.{◌≡◌, refl, sym, ap, ◌∙◌}
use mathlib.Core.Bool.{true, false}
use native.Mathlib.Omega.{arith}
use native.Mathlib.Nat.{mod-eq_of_lt}
use lib.Dec.{ltb, leb}
use borrow.Author.Tests.{lt-ltb, le-ltb, lt-leb, le-leb}
use Rattle.std.specs.declared.result.Result.TheVariants.{Ok, Err}
use Rattle.answer.specs.declared.Refused.{Refused}
use Rattle.answer.specs.Answer.{Verdict, numbered, number_of, in_numbers, Answer}
use Rattle.answer.specs.declared.Refusal.{Refusal}
use Rattle.answer.proofs.Once.{number-pos}
use Rattle.reading.specs.Reading.{Does, go, bad, Ending, accepted, fault, closing}
use Rattle.reading.proofs.Laws.{SoundEnd}
use Rattle.utf7.specs.Rule.{Shift, ends_in}
use Rattle.utf7.proofs.Kept.{ends-sound}
use Rattle.encoded_word.specs.Rule.{Part, tail, ended}
use Rattle.encoded_word_read.specs.Line.{does_of}
use Rattle.encoded_word_read.specs.declared.Turn.{Turn}

pub pair-over : (n : ℕ) → 60 < n → leb (n + 3) 63 ≡ false
pair-over n h = lt-leb (n + 3) 63 (omega arith)

pub pair-in : (n : ℕ) → n ≤ 60 → leb (n + 3) 63 ≡ true
pair-in n h = le-leb (n + 3) 63 (omega arith)

pub char-over : (n : ℕ) → 62 < n → leb (n + 1) 63 ≡ false
char-over n h = lt-leb (n + 1) 63 (omega arith)

pub char-in : (n : ℕ) → n ≤ 62 → leb (n + 1) 63 ≡ true
char-in n h = le-leb (n + 1) 63 (omega arith)

pub digit-none : (v : ℕ) → 15 < v → ltb v 16 ≡ false
digit-none v h = le-ltb v 16 (omega arith)

pub digit-some : (v : ℕ) → v ≤ 15 → ltb v 16 ≡ true
digit-some v h = lt-ltb v 16 (omega arith)

pub digit-small : (v : ℕ) → v ≤ 15 → v % 16 ≡ v
digit-small v h = mod-eq_of_lt (omega arith)

-- the reader's answer to the end of a text: accepted, or refused
accepted-ends : (e : Ending) (n : ℕ) → SoundEnd e → numbered 0 n ≡ closing e 0 → go tail ≡ ended {S = Shift} e
accepted-ends accepted n h q = refl
accepted-ends (fault k place) n h q = absurd (omega (arith, h, ap (λ (v : Verdict). v.number) q))

refused-ends :
    (e : Ending) (why : Refusal) (place : ℕ) → numbered (number_of why) place ≡ closing e 0 →
    bad (number_of why) ≡ ended {S = Shift} e
refused-ends accepted why place q = absurd (omega (arith, number-pos why, ap (λ (v : Verdict). v.number) q))
refused-ends (fault k p) why place q = ap bad (ap (λ (v : Verdict). v.number) q)

pub ended-told :
    (st : Shift) {a : Answer} {n : ℕ} → in_numbers a ≡ closing (ends_in 0 st) 0 → a ≡ Ok n →
    go tail ≡ ended {S = Shift} (ends_in 0 st)
ended-told st {n = n} q e = accepted-ends (ends_in 0 st) n (ends-sound 0 st) (ap in_numbers (sym e) ∙ q)

pub ended-refused :
    (st : Shift) {a : Answer} {deny : Refused} → in_numbers a ≡ closing (ends_in 0 st) 0 →
    a ≡ Err deny →
    bad (number_of deny.0) ≡ ended {S = Shift} (ends_in 0 st)
ended-refused st {deny = deny} q e = refused-ends (ends_in 0 st) deny.0 deny.1 (ap in_numbers (sym e) ∙ q)

-- what an arm that found the turn `t` knows
pub turned : {r t : Turn} {does : Does (Part Shift)} → does_of r ≡ does → r ≡ t → does ≡ does_of t
turned e k = sym e ∙ ap does_of k
