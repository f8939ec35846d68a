-- The code's numbers are the bits of the definitions. Assumes nothing.
use Prim.Native.Nat.{ℕ, ◌+◌, ◌-◌, ◌*◌, ◌/◌, ◌%◌, ◌^◌, ◌<◌, ◌≤◌}
use mathlib.Core.Path.{◌≡◌, refl}
use mathlib.Core.Bool.{true, false, cond}
use mathlib.Core.List.{◌++◌}
use native.Mathlib.Omega.{arith}
use native.Mathlib.Nat.{mod-lt, mod-eq_of_lt}
use lib.ListN.{length}
use lib.Pow.{pow_pos, pow-add, shr_lt}
use lib.Dec.{ltb, eqb}
use borrow.Author.Tests.{lt-ltb, le-ltb}
use Rattle.answer.specs.declared.Refusal.TheVariants.{NeedlessShift}
use Rattle.bits.specs.Bits.{bits, number}
use Rattle.bits.proofs.Bits.{number_lt, length-bits, number-bits, bits-append, bits-take, bits-drop, bits-mod, zero_bits, spelled}
use Rattle.reading.specs.Reading.{go, bad}
use Rattle.reading.specs.Decoding.{told_move, does_by, Moves}
use Rattle.reading.specs.declared.Move.{Move}
use Rattle.reading.specs.declared.Move.TheVariants.{Give, Go, Bad}
use Rattle.reading.proofs.Decoding as code
use Rattle.reading.proofs.Decoding.{Faithful, move-found}
use Rattle.utf7.specs.Sets.{printable}
use Rattle.utf7.specs.Writing.{IsUnit}
use Rattle.mailbox.specs.Rule.{Shift, outside, opening, run, gives_unit, unit_does, close_does, byte_does}
use Rattle.mailbox.proofs.Kept.{SoundShift, mailbox-kept}
use Rattle.mailbox_read.specs.Cursor.{settled_back, shift_of, state_of, Settled, move_of, mailbox_code}
use Rattle.mailbox_read.specs.declared.State.{State}
use Rattle.mailbox_read.specs.declared.State.TheVariants.{Outside, Opening, Run}

-- a shift with fewer than sixteen pending bits is the shift of its state
pub shift_back : (shift : Shift) → SoundShift shift → shift_of (state_of shift) ≡ shift
shift_back (outside after) h = refl
shift_back (opening after) h = refl
shift_back (run pending) h = rw (mod-eq_of_lt h, spelled pending (length pending) (number pending) refl refl)

-- a state of any numbers means such a shift
sound-shift : (st : State) → SoundShift (shift_of st)
sound-shift (Outside after) = tt
sound-shift (Opening after) = tt
sound-shift (Run n v) = rw (length-bits (n % 16) v) (omega arith)

pub settled-state : (shift : Shift) → SoundShift shift → Settled (state_of shift)
settled-state (outside after) h = tt
settled-state (opening after) h = tt
settled-state (run pending) h = (h, number_lt pending)

abbrev pub mailbox-faithful : Faithful mailbox_code
mailbox-faithful =
    record {
      Sound = SoundShift;
      Good = IsUnit;
      kept = mailbox-kept;
      writes-back = settled_back;
      means-back = shift_back;
      settles = settled-state;
    }

-- a byte's move in any state
pub byte-moves : (st : State) (b : ℕ) {r : Move State} → told_move r ≡ move_of st b → Moves mailbox_code r (byte_does (shift_of st) b)
unfolding move_of
byte-moves st b e = code.byte-moves mailbox-faithful st b (sound-shift st) e

pub byte-moved :
    (st : State) (b : ℕ) {r m : Move State} → told_move r ≡ move_of st b → r ≡ m → byte_does (shift_of st) b ≡ does_by mailbox_code m
byte-moved st b e k = move-found mailbox_code (byte-moves st b e).so k

-- a letter's six bits behind the pending ones: too few for a unit, or sixteen and some
module _ (n v x : ℕ) (few : n < 16) (fits : v < 2 ^ n) (letter : x < 64) where
  pub all-fits : v * 64 + x < 2 ^ (n + 6)
  all-fits = rw (pow-add 2 n 6) (omega arith)

  all-bits : bits n v ++ bits 6 x ≡ bits (n + 6) (v * 64 + x)
  all-bits = bits-append n 6 v x fits letter

  pub letter-go : n < 10 → Moves mailbox_code (Go (Run (n + 6) (v * 64 + x))) (unit_does (bits n v ++ bits 6 x))
  unfolding unit_does
  letter-go h =
      let few' : n + 6 < 16 = omega arith in
      record {
        so = simp (all-bits, length-bits, lt-ltb _ _ few', mod-eq_of_lt few');
        settled = (few', all-fits);
      }

  module _ (h : 10 ≤ n) where
    abbrev k : ℕ
    k = n - 10

    abbrev all : ℕ
    all = v * 64 + x

    small : k < 16
    small = omega arith

    letter-unit : unit_does (bits n v ++ bits 6 x) ≡ gives_unit (all / 2 ^ k) (bits k (all % 2 ^ k))
    unfolding unit_does
    letter-unit =
        let e : n + 6 ≡ 16 + k = omega arith in
        let fits' : all < 2 ^ (16 + k) = rw (← e) all-fits in
        rw (all-bits, length-bits (n + 6) all, le-ltb (n + 6) 16 (omega arith), e, bits-take 16 k all fits', bits-drop 16 k all fits', number-bits 16 (all / 2 ^ k) (shr_lt 16 k fits'))

    pub letter-needless : printable (all / 2 ^ k) ≡ true → Moves mailbox_code (Bad NeedlessShift) (unit_does (bits n v ++ bits 6 x))
    unfolding gives_unit
    letter-needless t = record { so = rw (letter-unit, t); settled = tt }

    pub letter-give : printable (all / 2 ^ k) ≡ false → Moves mailbox_code (Give (all / 2 ^ k) (Run k (all % 2 ^ k))) (unit_does (bits n v ++ bits 6 x))
    unfolding gives_unit
    letter-give t = record { so = rw (letter-unit, t, mod-eq_of_lt small); settled = (small, mod-lt all (pow_pos k)) }

-- of any count and value, those that count
pub settle-run : (n v : ℕ) → Settled (Run (n % 16) (v % 2 ^ (n % 16))) × (shift_of (Run (n % 16) (v % 2 ^ (n % 16))) ≡ shift_of (Run n v))
settle-run n v =
    let few : n % 16 < 16 = omega arith in
    ((few, mod-lt v (pow_pos (n % 16))), rw (mod-eq_of_lt few, bits-mod (n % 16) v))

-- the '-' that closes a run
pub closed : (n v : ℕ) → v < 2 ^ n → close_does (bits n v) ≡ cond (eqb v 0) (cond (ltb n 6) (go (outside true)) (bad 17)) (bad 4)
unfolding close_does
closed n v h = rw (zero_bits n v h, length-bits n v)
