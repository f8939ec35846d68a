-- Passing over bytes, by the laws of `reading` for a step's loop. Assumes nothing.
use Prim.Native.Nat.{ℕ, ◌+◌, ◌-◌, ◌*◌, ◌/◌, ◌%◌, ◌^◌, ◌<◌, ◌≤◌}
use mathlib.Core.Path.{◌≡◌, refl, sym, ap, ◌∙◌}
use mathlib.Core.Logic.{◌≢◌}
use mathlib.Core.Bool.{Bool, true, false}
use mathlib.Core.List.{List, ◌++◌}
use native.Mathlib.Omega.{arith}
use native.Mathlib.Nat.{mod-eq_of_lt}
use lib.ListN.{length, get_or}
use lib.Dec.{lit<}
use borrow.Author.Tests.{lt-ltb, ltb-true, leb-true, ne_eqb}
use Rattle.bits.specs.Bits.{bits}
use Rattle.alphabet.specs.Letters.{value_of, set_b, comma}
use Rattle.alphabet.proofs.Letters.{within_both}
use Rattle.std.specs.declared.option.Option.TheVariants.{Some}
use Rattle.reading.specs.Reading.{give}
use Rattle.reading.specs.Spans.{marked_as, last_bytes}
use Rattle.reading.specs.Decoding.{Leads, Gets}
use Rattle.reading.proofs.Decoding.{leads-go, gets-give}
use Rattle.utf7.specs.Sets.{printable}
use Rattle.utf7.proofs.Units.{unit-letters}
use Rattle.mailbox.specs.Rule.{outside, opening, unit_does, outside_does, low_does, byte_does}
use Rattle.mailbox.specs.Spans.{span_in}
use Rattle.mailbox.proofs.Round.{letter-runs, letter-opens}
use Rattle.mailbox_read.specs.Cursor.{shift_of, Settled, mailbox_code, Between}
use Rattle.mailbox_read.specs.declared.State.{State}
use Rattle.mailbox_read.specs.declared.State.TheVariants.{Outside, Opening, Run}
use Rattle.mailbox_read.proofs.Moves.{letter-go, letter-give, closed}

-- a letter in a run
is-letter : (x b : ℕ) → x < 64 → x ≡ value_of comma b → set_b comma b ≡ true
unfolding set_b
is-letter x b l e = rw (← e) (lt-ltb _ _ l)

in-run : (n v x b : ℕ) → n < 16 → x < 64 → x ≡ value_of comma b → byte_does (shift_of (Run n v)) b ≡ unit_does (bits n v ++ bits 6 x)
in-run n v x b h l e = rw (e, mod-eq_of_lt h) (letter-runs (bits n v) b (is-letter x b l e))

-- the first letter behind the '&' does what it does in a run
as-opened : (b : ℕ) → set_b comma b ≡ true → byte_does (opening false) b ≡ byte_does (shift_of (Run 0 0)) b
unfolding bits
as-opened b e = letter-opens b e

-- a byte that stands for itself
self-does : (after : Bool) (b : ℕ) → b ≢ 38 → printable b ≡ true → byte_does (outside after) b ≡ give b (outside false)
unfolding byte_does low_does outside_does
self-does after b n p = rw (lt-ltb b 128 (omega (arith, leb-true b 126 (within_both 32 126 b p).1)), ne_eqb b 38 n, p)

no-letter : set_b comma 45 ≡ false
unfolding set_b value_of
no-letter = refl

module _ {text : List ℕ} {at : ℕ} (h : at < length text) where
  pub gets-alone :
      (st : State) → Between st → get_or text at 0 ≢ 38 → printable (get_or text at 0) ≡ true →
      Gets mailbox_code text at st (record { cell = Some (marked_as (get_or text at 0) (last_bytes 1 (at + 1))); at = at + 1; state = Outside false })
  unfolding span_in
  gets-alone (Outside after) f n p = gets-give h (self-does after (get_or text at 0) n p) refl tt
  gets-alone (Opening after) f n p = absurd f
  gets-alone (Run n v) f q p = absurd f

  -- the '-' that closes a run
  pub leads-closed : {n v : ℕ} → Settled (Run n v) → get_or text at 0 ≡ 45 → v ≡ 0 → n < 6 → Leads mailbox_code text at (Run n v) (at + 1) (Outside true)
  unfolding byte_does low_does
  leads-closed {n} {v} k e z f = leads-go h (rw (e, no-letter, mod-eq_of_lt k.0, closed n v k.1, z, lt-ltb n 6 f)) tt

  -- a letter in a run
  module _ {n v x : ℕ} (fits : Settled (Run n v)) (l : x < 64) (e : x ≡ value_of comma (get_or text at 0)) where
    -- it makes no unit, or it makes one
    pub leads-letter : n < 10 → Leads mailbox_code text at (Run n v) (at + 1) (Run (n + 6) (v * 64 + x))
    leads-letter few = let m = letter-go n v x fits.0 fits.1 l few in leads-go h (in-run n v x _ fits.0 l e ∙ sym m.so) m.settled

    pub gets-letter :
        10 ≤ n → printable ((v * 64 + x) / 2 ^ (n - 10)) ≡ false →
        Gets mailbox_code text at (Run n v)
        (record { cell = Some (marked_as ((v * 64 + x) / 2 ^ (n - 10)) (last_bytes ((n + 11) / 6) (at + 1))); at = at + 1; state = Run (n - 10) ((v * 64 + x) % 2 ^ (n - 10)) })
    unfolding span_in
    gets-letter many p =
        let m = letter-give n v x fits.0 fits.1 l many p in
        gets-give h (in-run n v x _ fits.0 l e ∙ sym m.so) (ap (marked_as _) (rw (mod-eq_of_lt fits.0) (unit-letters n v (value_of comma (get_or text at 0)) at fits.0))) m.settled

-- the '&' that a letter follows
pub leads-opened :
    {text : List ℕ} {at : ℕ} → at + 1 < length text → get_or text at 0 ≡ 38 → set_b comma (get_or text (at + 1) 0) ≡ true →
    Leads mailbox_code text at (Outside false) (at + 1) (Run 0 0)
unfolding byte_does low_does outside_does set_b
leads-opened {text} {at} h e l =
    let here : at < length text = omega arith in
    let p = leads-go {text = text} {st = Outside false} {st' = Opening false} here (rw e) tt in
    let fits : Settled (Run 0 0) = (lit< tt, lit< tt) in
    let b = get_or text (at + 1) 0 in
    let few = ltb-true _ _ l in
    let m = letter-go 0 0 (value_of comma b) fits.0 fits.1 few (lit< tt) in
    let q = leads-go {st = Opening false} h (as-opened b l ∙ in-run 0 0 _ b fits.0 few refl ∙ sym m.so) m.settled in
    let r = leads-letter h fits few refl (lit< tt) in
    record { on = omega arith; settled = fits; same = λ handed. p.same handed ∙ q.same handed ∙ sym (r.same handed) }
