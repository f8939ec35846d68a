-- Buffers that begin with a page's lists and hold zeros past them, and whether the page is sound with them. Assumes
-- nothing.
use Prim.Native.Nat.{ℕ, zero, suc, ◌-◌, ◌≤◌, ◌<◌}
use mathlib.Core.Path.{◌≡◌, refl, sym, ap, ◌∙◌}
use mathlib.Core.Bool.{Bool, true, false}
use mathlib.Core.List.{List}
use Rattle.std.specs.Prelude.{Option, None, Some, is_some}
use native.Mathlib.Omega.{arith}
use lib.ListN.{length, take, drop, replicate, length-append, length-replicate}
use lib.Seq.{slice, take-take, take_at, drop_at}
use borrow.Author.Tests.{le-leb, lt-leb}
use Rattle.ledger.specs.declared.Page.{Page}
use Rattle.ledger.specs.Words.{Parted, zeros, pad}
use Rattle.ledger.specs.Page.{state_of, framed}
use Rattle.ledger.specs.Parts.{mark_within, cut_in, bounded}
use Rattle.records.specs.Walking.{Walk, walk_cut, last_of}
use Rattle.page_read.specs.Inner.{Frames}

-- what the survey of a page tells
pub some_of_last : (done : ℕ) (x : Option Parted) → is_some (last_of done x) ≡ is_some x
some_of_last done None = refl
some_of_last done (Some v) = refl

module _ {p : Page} {room : ℕ} {words t h : List ℕ} (f : Frames p room words t h) where
  words_same : (from to : ℕ) → to ≤ p.used → slice from to words ≡ slice from to h
  words_same from to q = ap (λ (l : List ℕ). drop from (take to l)) (sym f.begins) ∙ ap (drop from)
      (take-take to p.used h q)

  -- the tests before the records are looked at
  pub no-opening : room < p.opening → bounded (state_of p t h) ≡ false
  unfolding framed
  no-opening q = rw (lt-leb p.opening (length t) (omega (arith, f.same)))

  module _ (opens : p.opening ≤ room) where
    pub no-done : p.used < p.done → bounded (state_of p t h) ≡ false
    unfolding framed
    no-done q =
        rw (
          le-leb p.opening (length t) (omega (arith, f.same)),
          le-leb p.length (length t) f.size,
          le-leb
              p.used (length h) f.used,
          f.blank-text,
          f.blank-history,
          lt-leb p.done p.used q,
        )

    module _ (stands : p.done ≤ p.used) where
      by-mark : (m : Bool) → mark_within p.used p.saved ≡ m → bounded (state_of p t h) ≡ m
      unfolding framed
      by-mark m e =
          rw (
            le-leb p.opening (length t) (omega (arith, f.same)),
            le-leb p.length (length t) f.size,
            le-leb
                p.used (length h) f.used,
            f.blank-text,
            f.blank-history,
            le-leb p.done p.used stands,
          ) e

      pub no-mark : mark_within p.used p.saved ≡ false → bounded (state_of p t h) ≡ false
      no-mark e = by-mark false e

      pub all-bounded : mark_within p.used p.saved ≡ true → bounded (state_of p t h) ≡ true
      all-bounded e = by-mark true e

      -- the two walks
      pub standing-walk :
          {w : Walk} → w ≡ walk_cut room 0 p.opening 0 (cut_in p.saved 0 p.done - 0) (slice 0 p.done words) →
          w ≡ walk_cut (length t) 0 p.opening 0 (cut_in p.saved 0 p.done - 0) (slice 0 p.done h)
      standing-walk e = e ∙ rw (← f.same, words_same 0 p.done stands)

      pub undone-walk :
          {w : Walk} →
          w ≡ walk_cut room p.done p.length p.done (cut_in p.saved p.done p.used - p.done)
          (slice p.done p.used words) →
          w ≡ walk_cut (length t) p.done p.length p.done (cut_in p.saved p.done p.used - p.done)
          (slice p.done p.used h)
      undone-walk e = e ∙ rw (← f.same, words_same p.done p.used (omega arith))

-- zeros in place of what is past the end
zeros-blank : (n : ℕ) → zeros (replicate n 0) ≡ true
unfolding zeros
zeros-blank zero = refl
zeros-blank (suc n) = zeros-blank n

length-pad : (n : ℕ) (l : List ℕ) → length l ≤ n → length (pad n l) ≡ n
length-pad n l h = length-append l (replicate (n - length l) 0) ∙ omega
    (arith, length-replicate {A = ℕ} (n - length l) 0)

pub padded : (p : Page) (room space : ℕ) (cells words : List ℕ) → length cells ≡ p.length → length words ≡ p.used → p.length ≤ room → p.used ≤ space → Frames p room words (pad room cells) (pad space words)
padded p room space cells words e f h g =
    let n : length (pad room cells) ≡ room = length-pad room cells (omega arith) in
    let m : length (pad space words) ≡ space = length-pad space words (omega arith) in
    record {
      same = n;
      size = omega arith;
      used = omega arith;
      begins = take_at words (replicate (space - length words) 0) p.used f;
      blank-text = ap zeros (drop_at cells (replicate (room - length cells) 0) p.length e) ∙ zeros-blank
          (room - length cells);
      blank-history = ap zeros (drop_at words (replicate (space - length words) 0) p.used f) ∙ zeros-blank
          (space - length words);
    }
