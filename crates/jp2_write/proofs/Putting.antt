-- The writing on its way into the output. Assumes nothing.
use Prim.Native.Nat.{ℕ, ◌+◌, ◌-◌, ◌<◌, ◌≤◌}
use mathlib.Core.Path.{◌≡◌, sym, ap, ◌∙◌}
use mathlib.Core.Bool.{true, false, ◌&&◌, true≢false}
use mathlib.Core.List.{List, ◌++◌}
use native.Mathlib.Omega.{arith}
use lib.ListN.{length, get_or, take, drop, take-append-drop}
use lib.Seq.{length-take-le}
use lib.Dec.{eqb}
use borrow.Rule.Slice.PartMut.{put_mid}
use Rattle.answer.proofs.Below.{cond-case}
use Rattle.answer.proofs.Put.{Put, put_as, put-lent-room, put-lent}
use Rattle.jp2.specs.Rule.{cell_of}
use Rattle.jp2.specs.Writable.{shift_set}
use Rattle.jp2.specs.Writing.{writing}
use Rattle.jp2_write.specs.Pieces.{after_cr, g2_after, Puts}
use Rattle.jp2_write.proofs.Cells.{todo}
use Rattle.jp2_write.proofs.Turns.{Turn, cell-less}

-- what is in G2 is a set of G2, or nothing
abbrev pub Held : ℕ → Type 0
Held g2 = eqb g2 0 ≡ false → shift_set g2 ≡ true

pub held_after : (cells : List ℕ) (i g2 : ℕ) → Held g2 → Held (g2_after cells i g2)
unfolding g2_after
held_after cells i g2 h =
    cond-case Held (after_cr cells i && eqb (get_or cells i 0) (cell_of 6 10)) {a = 0} {b = g2} (λ _ e. absurd (true≢false e)) (λ _. h)

-- the bytes put so far
pub record Written (cells out₀ out : List ℕ) (at i g0 g2 : ℕ) : Type 0 where
  pub put : Put (writing cells) out₀ out at (todo cells i g0 g2)
  pub within : i ≤ length cells
  pub base : shift_set g0 ≡ false
  pub held : Held g2

pub written_in : {cells out₀ out : List ℕ} {at i g0 g2 : ℕ} → Written cells out₀ out at i g0 g2 → at ≤ length out₀
written_in p = omega (arith, p.put.upto, p.put.room)

-- a piece goes to the rest of the output, lent on as `&mut out[at..]`
module _ {cells text out₀ out : List ℕ} {at i g0 g2 : ℕ} {piece : List ℕ} {i' g0' g2' : ℕ} (p : Put text out₀ out at (todo cells i g0 g2))
    (t : Turn cells i g0 g2 piece i' g0' g2') where
  cut-put : Put text out₀ out at (piece ++ todo cells i' g0' g2')
  cut-put = put_as t.cut p

  pub turn-room : length piece ≤ length (take (length out - at) (drop at out))
  turn-room = put-lent-room piece (todo cells i' g0' g2') cut-put

  pub turn-put :
      {y : List ℕ} {k : ℕ} → Puts piece (take (length out - at) (drop at out)) y k →
      Put text out₀ (put_mid at (length out - at) out y) (at + k) (todo cells i' g0' g2')
  turn-put q = rw q.size (put-lent piece (todo cells i' g0' g2') cut-put q.so)

module _ {cells out₀ out : List ℕ} {at i g0 g2 : ℕ} {piece : List ℕ} {i' g0' g2' : ℕ} (p : Written cells out₀ out at i g0 g2)
    (t : Turn cells i g0 g2 piece i' g0' g2') where
  pub written-room : length piece ≤ length (take (length out - at) (drop at out))
  written-room = turn-room p.put t

  pub written_on :
      {y : List ℕ} {k : ℕ} → Held g2' → Puts piece (take (length out - at) (drop at out)) y k →
      Written cells out₀ (put_mid at (length out - at) out y) (at + k) i' g0' g2'
  written_on h q = record { put = turn-put p.put t q; within = t.within; base = t.base; held = h }

-- a run that was put to the front of what was lent
module _ {lent y : List ℕ} {n : ℕ} (cells : List ℕ) (i to g0 g2 : ℕ) (p : Put (todo cells i g0 g2) lent y n (todo cells to g0 g2)) where
  run_length : length (take n (todo cells i g0 g2)) ≡ n
  run_length = length-take-le n (todo cells i g0 g2) p.upto

  pub run-turn : i < to → to ≤ length cells → shift_set g0 ≡ false → Turn cells i g0 g2 (take n (todo cells i g0 g2)) to g0 g2
  run-turn h k b =
      record {
        cut = sym (take-append-drop n (todo cells i g0 g2)) ∙ ap (λ (l : List ℕ). take n (todo cells i g0 g2) ++ l) p.left;
        within = k;
        base = b;
        less = cell-less cells i to g0 g2 g0 g2 h (omega arith);
      }

  pub run-puts : Puts (take n (todo cells i g0 g2)) lent y n
  run-puts = record { so = rw run_length p.front; size = sym run_length }
