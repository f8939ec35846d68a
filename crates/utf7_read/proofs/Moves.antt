-- The code's numbers are the bits of the definitions. Assumes nothing.
use Prim.Native.Nat.{ℕ, ◌+◌, ◌-◌, ◌*◌, ◌/◌, ◌%◌, ◌^◌, ◌<◌, ◌≤◌}
use mathlib.Core.Path.{◌≡◌, refl}
use mathlib.Core.Bool.{cond, ◌&&◌}
use mathlib.Core.List.{◌++◌}
use native.Mathlib.Omega.{arith}
use native.Mathlib.Nat.{mod-lt, mod-eq_of_lt}
use lib.ListN.{length}
use lib.Pow.{pow_pos, pow-add, shr_lt}
use lib.Dec.{ltb, eqb}
use borrow.Author.Tests.{lt-ltb, le-ltb}
use Rattle.bits.specs.Bits.{bits, number}
use Rattle.bits.proofs.Bits.{number_lt, length-bits, number-bits, bits-append, bits-take, bits-drop, bits-mod, zero_bits, spelled}
use Rattle.reading.specs.Reading.{accepted, fault}
use Rattle.reading.specs.Decoding.{told_move, does_by, Moves}
use Rattle.reading.specs.declared.Move.{Move}
use Rattle.reading.specs.declared.Move.TheVariants.{Give, Go}
use Rattle.reading.proofs.Decoding as code
use Rattle.reading.proofs.Decoding.{Faithful, move-found}
use Rattle.utf7.specs.Rule.{Shift, outside, opening, run, unit_does, may_end, byte_does, ends_in}
use Rattle.utf7.specs.Writing.{IsUnit}
use Rattle.utf7.proofs.Kept.{SoundShift, utf7-kept}
use Rattle.utf7_read.specs.Cursor.{settled_back, shift_of, state_of, Settled, move_of, utf7_code}
use Rattle.utf7_read.specs.declared.State.{State}
use Rattle.utf7_read.specs.declared.State.TheVariants.{Outside, Opening, Run}

-- a shift with fewer than sixteen pending bits is the shift of its state
pub shift_back : (shift : Shift) → SoundShift shift → shift_of (state_of shift) ≡ shift
shift_back outside h = refl
shift_back opening h = refl
shift_back (run pending) h = rw (mod-eq_of_lt h, spelled pending (length pending) (number pending) refl refl)

-- a state of any numbers means such a shift
sound-shift : (st : State) → SoundShift (shift_of st)
sound-shift Outside = tt
sound-shift Opening = tt
sound-shift (Run n v) = rw (length-bits (n % 16) v) (omega arith)

pub settled-state : (shift : Shift) → SoundShift shift → Settled (state_of shift)
settled-state outside h = tt
settled-state opening h = tt
settled-state (run pending) h = (h, number_lt pending)

abbrev pub utf7-faithful : Faithful utf7_code
utf7-faithful =
    record {
      Sound = SoundShift;
      Good = IsUnit;
      kept = utf7-kept;
      writes-back = settled_back;
      means-back = shift_back;
      settles = settled-state;
    }

-- a byte's move in any state
pub byte-moves : (st : State) (b : ℕ) {r : Move State} → told_move r ≡ move_of st b → Moves utf7_code r (byte_does (shift_of st) b)
unfolding move_of
byte-moves st b e = code.byte-moves utf7-faithful st b (sound-shift st) e

pub byte-moved :
    (st : State) (b : ℕ) {r m : Move State} → told_move r ≡ move_of st b → r ≡ m → byte_does (shift_of st) b ≡ does_by utf7_code m
byte-moved st b e k = move-found utf7_code (byte-moves st b e).so k

-- a letter's six bits behind the pending ones: too few for a unit, or sixteen and some
module _ (n v x : ℕ) (few : n < 16) (fits : v < 2 ^ n) (letter : x < 64) where
  pub all-fits : v * 64 + x < 2 ^ (n + 6)
  all-fits = rw (pow-add 2 n 6) (omega arith)

  all-bits : bits n v ++ bits 6 x ≡ bits (n + 6) (v * 64 + x)
  all-bits = bits-append n 6 v x fits letter

  pub letter-go : n < 10 → Moves utf7_code (Go (Run (n + 6) (v * 64 + x))) (unit_does (bits n v ++ bits 6 x))
  unfolding unit_does
  letter-go h =
      let few' : n + 6 < 16 = omega arith in
      record {
        so = simp (all-bits, length-bits, lt-ltb _ _ few', mod-eq_of_lt few');
        settled = (few', all-fits);
      }

  pub letter-give : 10 ≤ n → Moves utf7_code (Give ((v * 64 + x) / 2 ^ (n - 10)) (Run (n - 10) ((v * 64 + x) % 2 ^ (n - 10)))) (unit_does (bits n v ++ bits 6 x))
  unfolding unit_does
  letter-give h =
      let k = n - 10 in
      let all = v * 64 + x in
      let e : n + 6 ≡ 16 + k = omega arith in
      let small : k < 16 = omega arith in
      let fits' : all < 2 ^ (16 + k) = rw (← e) all-fits in
      record {
        so = rw (all-bits, length-bits (n + 6) all, le-ltb (n + 6) 16 (omega arith), e, bits-take 16 k all fits', bits-drop 16 k all fits', number-bits 16 (all / 2 ^ k) (shr_lt 16 k fits'), mod-eq_of_lt small);
        settled = (small, mod-lt all (pow_pos k));
      }

-- of any count and value, those that count
pub settle-run : (n v : ℕ) → Settled (Run (n % 16) (v % 2 ^ (n % 16))) × (shift_of (Run (n % 16) (v % 2 ^ (n % 16))) ≡ shift_of (Run n v))
settle-run n v =
    let few : n % 16 < 16 = omega arith in
    ((few, mod-lt v (pow_pos (n % 16))), rw (mod-eq_of_lt few, bits-mod (n % 16) v))

-- the bits with which a run may end, by their count and value
pub may-end : (n v : ℕ) → v < 2 ^ n → may_end (bits n v) ≡ (eqb v 0 && ltb n 6)
unfolding may_end
may-end n v h = rw (zero_bits n v h, length-bits n v)

-- a text that ends in a run
pub run_ends : (n v size : ℕ) → Settled (Run n v) → ends_in size (shift_of (Run n v)) ≡ cond (may_end (bits n v)) accepted (fault 4 size)
unfolding ends_in
run_ends n v size h = rw (mod-eq_of_lt h.0)
