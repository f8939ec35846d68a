-- The numbers are those of the header, by computing them. Assumes nothing.
use Prim.Native.Nat.{ℕ, ◌<◌, ◌≤◌}
use mathlib.Core.Path.{◌≡◌, refl}
use mathlib.Core.Bool.{false}
use native.Mathlib.Omega.{arith}
use lib.Dec.{eqb, lit≤}
use borrow.Author.Tests.{le-ltb, ne_eqb}
use Rattle.host_steps.specs.Steps.{shift_in, name_shift_in, phase_in}
use Rattle.host_steps.specs.Numbers.{Shifts, NameShifts, Phases}

above : (n most : ℕ) → most < n → (k : ℕ) → k ≤ most → eqb n k ≡ false
above n most h k l = ne_eqb n k (λ e. omega arith)

pub shifts : (pending value : ℕ) → Shifts pending value
unfolding shift_in
shifts pending value =
    record {
      outside = refl;
      sign = refl;
      else = λ shift h. rw (above shift 1 h 0 (lit≤ tt), above shift 1 h 1 (lit≤ tt));
    }

pub name-shifts : (pending value : ℕ) → NameShifts pending value
unfolding name_shift_in
name-shifts pending value =
    record {
      outside = refl;
      outside-after = refl;
      sign = refl;
      sign-after = refl;
      else = λ shift h. rw (le-ltb shift 2 (omega arith), le-ltb shift 4 (omega arith));
    }

pub phases : (first second : ℕ) → Phases first second
unfolding phase_in
phases first second =
    record {
      between = refl;
      after-cr = refl;
      pair = refl;
      shifted = refl;
      escape = refl;
      one_more = refl;
      two-more = λ phase h.
          let a = above phase 5 h in
          rw (a 0 (lit≤ tt), a 1 (lit≤ tt), a 2 (lit≤ tt), a 3 (lit≤ tt), a 4 (lit≤ tt), a 5 (lit≤ tt));
    }
