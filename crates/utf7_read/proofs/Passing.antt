-- Passing over bytes, by the laws of `reading` for a step's loop. Assumes nothing.
use Prim.Native.Nat.{ℕ, ◌+◌, ◌-◌, ◌*◌, ◌/◌, ◌%◌, ◌^◌, ◌<◌, ◌≤◌}
use mathlib.Core.Path.{◌≡◌, refl, sym, ap, ◌∙◌}
use mathlib.Core.Bool.{true}
use mathlib.Core.List.{List, [], ◌++◌}
use native.Mathlib.Omega.{arith}
use native.Mathlib.Nat.{mod-eq_of_lt}
use lib.ListN.{length, get_or}
use lib.Dec.{lit<}
use borrow.Author.Tests.{lt-ltb, ltb-true}
use Rattle.bits.specs.Bits.{bits}
use Rattle.alphabet.specs.Letters.{value_of, set_b, slash}
use Rattle.std.specs.declared.option.Option.TheVariants.{Some}
use Rattle.reading.specs.Spans.{marked_as, last_bytes}
use Rattle.reading.specs.Decoding.{Leads, Gets}
use Rattle.reading.proofs.Decoding.{leads-go, gets-give}
use Rattle.utf7.specs.Sets.{direct}
use Rattle.utf7.specs.Rule.{opening, unit_does, may_end, outside_does, low_does, byte_does}
use Rattle.utf7.specs.Spans.{span_in}
use Rattle.utf7.proofs.Round.{byte-run, byte-opening, close-run, self-walk}
use Rattle.utf7.proofs.Units.{unit-letters}
use Rattle.utf7_read.specs.Cursor.{shift_of, Settled, utf7_code}
use Rattle.utf7_read.specs.declared.State.TheVariants.{Outside, Opening, Run}
use Rattle.utf7_read.proofs.Moves.{letter-go, letter-give}

-- a letter, in a run and directly after the '+'
is-letter : (x b : ℕ) → x < 64 → x ≡ value_of slash b → set_b slash b ≡ true
unfolding set_b
is-letter x b l e = rw (← e) (lt-ltb _ _ l)

in-run : (n v x b : ℕ) → n < 16 → x < 64 → x ≡ value_of slash b → byte_does (shift_of (Run n v)) b ≡ unit_does (bits n v ++ bits 6 x)
in-run n v x b h l e = rw (e, mod-eq_of_lt h) (byte-run (bits n v) b (is-letter x b l e))

as-opened : (b : ℕ) → set_b slash b ≡ true → byte_does opening b ≡ byte_does (shift_of (Run 0 0)) b
unfolding bits
as-opened b e = byte-opening b e ∙ sym (byte-run [] b e)

module _ {text : List ℕ} {at : ℕ} (h : at < length text) where
  -- a byte that stands for itself
  pub gets-alone :
      direct (get_or text at 0) ≡ true → Gets utf7_code text at Outside (record { cell = Some (marked_as (get_or text at 0) (last_bytes 1 (at + 1))); at = at + 1; state = Outside })
  unfolding span_in
  gets-alone e = gets-give h (self-walk (get_or text at 0) e) refl tt

  -- the '-' that ends a run
  pub leads-closed : {n v : ℕ} → n < 16 → get_or text at 0 ≡ 45 → may_end (bits n v) ≡ true → Leads utf7_code text at (Run n v) (at + 1) Outside
  leads-closed {n} {v} k e m = leads-go h (rw (e, mod-eq_of_lt k) (close-run (bits n v) m)) tt

  -- a letter in a run
  module _ {n v x : ℕ} (fits : Settled (Run n v)) (l : x < 64) (e : x ≡ value_of slash (get_or text at 0)) where
    -- it makes no unit, or it makes one
    pub leads-letter : n < 10 → Leads utf7_code text at (Run n v) (at + 1) (Run (n + 6) (v * 64 + x))
    leads-letter few = let m = letter-go n v x fits.0 fits.1 l few in leads-go h (in-run n v x _ fits.0 l e ∙ sym m.so) m.settled

    pub gets-letter :
        10 ≤ n →
        Gets utf7_code text at (Run n v)
        (record { cell = Some (marked_as ((v * 64 + x) / 2 ^ (n - 10)) (last_bytes ((n + 11) / 6) (at + 1))); at = at + 1; state = Run (n - 10) ((v * 64 + x) % 2 ^ (n - 10)) })
    unfolding span_in
    gets-letter many =
        let m = letter-give n v x fits.0 fits.1 l many in
        gets-give h (in-run n v x _ fits.0 l e ∙ sym m.so) (ap (marked_as _) (rw (mod-eq_of_lt fits.0, is-letter x _ l e) (unit-letters n v (value_of slash (get_or text at 0)) at fits.0))) m.settled

-- the '+' that a letter follows
pub leads-opened :
    {text : List ℕ} {at : ℕ} → at + 1 < length text → get_or text at 0 ≡ 43 → set_b slash (get_or text (at + 1) 0) ≡ true → Leads utf7_code text at Outside (at + 1) (Run 0 0)
unfolding byte_does low_does outside_does set_b
leads-opened {text} {at} h e l =
    let here : at < length text = omega arith in
    let p = leads-go {text = text} {st = Outside} {st' = Opening} here (rw e) tt in
    let fits : Settled (Run 0 0) = (lit< tt, lit< tt) in
    let b = get_or text (at + 1) 0 in
    let few = ltb-true _ _ l in
    let m = letter-go 0 0 (value_of slash b) fits.0 fits.1 few (lit< tt) in
    let q = leads-go {st = Opening} h (as-opened b l ∙ in-run 0 0 _ b fits.0 few refl ∙ sym m.so) m.settled in
    let r = leads-letter h fits few refl (lit< tt) in
    record { on = omega arith; settled = fits; same = λ handed. p.same handed ∙ q.same handed ∙ sym (r.same handed) }
