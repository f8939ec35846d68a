-- What reading numbers keeps: each is at most 4,294,967,295. Assumes nothing.
use Prim.Native.Nat.{ℕ, ◌+◌, ◌*◌, ◌^◌, ◌<◌, ◌≤◌}
use mathlib.Core.Path.{◌≡◌, sym, ap, ◌∙◌}
use mathlib.Core.List.{List}
use native.Mathlib.Omega.{arith}
use native.Mathlib.Nat.{mul-le-mul}
use lib.Dec.{ltb, eqb, lit<}
use borrow.Author.Tests.{ltb-true}
use Rattle.answer.specs.Lists.{Each}
use Rattle.answer.proofs.Below.{cond-case}
use Rattle.reading.specs.Reading.{Does, reading}
use Rattle.reading.proofs.Laws.{SoundDoes, SoundEnd, Kept, good-reading}
use Rattle.commands.specs.Lines.{blank}
use Rattle.commands.specs.Numbers.{base, raised, byte_does, ends_in, numbers, digit_value, does_of}
use Rattle.commands.specs.declared.numbers.State.{State}
use Rattle.commands.specs.declared.numbers.State.TheVariants.{Gap, Word}
use Rattle.commands.specs.declared.numbers.Move.{Move}

-- what an arm that found the move `m` knows
pub moved : {r m : Move} {does : Does State} → does_of r ≡ does → r ≡ m → does ≡ does_of m
moved h e = sym h ∙ ap does_of e

-- a digit more fits twice a cell's bits
pub base-most : (seen : ℕ) → base seen ≤ 16
base-most seen = cond-case (λ (r : ℕ). r ≤ 16) (ltb seen 2) (λ _. omega arith) (λ _. omega arith)

pub product-most : (v r : ℕ) → v < 2 ^ 32 → r ≤ 16 → v * r ≤ 4294967295 * 16
product-most v r h k = mul-le-mul {n₁ = v} {m₁ = r} {n₂ = 4294967295} {m₂ = 16} (omega arith) k

abbrev pub Small : ℕ → Type 0
Small v = v < 2 ^ 32

abbrev pub SmallState : State → Type 0
SmallState (Gap seen) = Unit
SmallState (Word seen v) = Small v

abbrev Keeps : Does State → Type 0
Keeps m = SoundDoes SmallState Small m

keeps-raised : (seen v d : ℕ) → Keeps (raised seen v d)
unfolding raised
keeps-raised seen v d =
    let next = v * base seen + d in
    cond-case Keeps (ltb d (base seen)) (λ _. cond-case Keeps (ltb next (2 ^ 32)) (λ e. ltb-true next (2 ^ 32) e) (λ _. lit< tt))
    (λ _. lit< tt)

keeps-byte : (st : State) (b : ℕ) → SmallState st → Keeps (byte_does st b)
unfolding byte_does
keeps-byte (Gap seen) b h = cond-case Keeps (blank b) (λ _. tt) (λ _. keeps-raised seen 0 (digit_value b))
keeps-byte (Word seen v) b h = cond-case Keeps (blank b) (λ _. (h, tt)) (λ _. keeps-raised seen v (digit_value b))

keeps-end : (asked size : ℕ) (st : State) → SoundEnd (ends_in asked size st)
unfolding ends_in
keeps-end asked size (Gap seen) = cond-case SoundEnd (eqb seen asked) (λ _. tt) (λ _. lit< tt)
keeps-end asked size (Word seen v) = lit< tt

pub numbers-kept : (asked : ℕ) → Kept (numbers asked) SmallState Small
numbers-kept asked = record { starts = tt; keeps = keeps-byte; ends = λ size st _. keeps-end asked size st }

pub numbers-small : (asked : ℕ) (s : List ℕ) → Each Small (reading (numbers asked) s).cells
numbers-small asked s = (good-reading (numbers-kept asked) s).0
