-- What replace makes of the caller's bench, refusal by refusal, and the edit and the record that it makes. Assumes
-- nothing.
use Prim.Native.Nat.{ℕ, ◌+◌, ◌-◌, ◌≤◌, ◌<◌}
use mathlib.Core.Path.{◌≡◌, sym, ap, ◌∙◌}
use mathlib.Core.List.{List, ◌∷◌, ◌++◌}
use native.Mathlib.Omega.{arith}
use lib.ListN.{length, take, drop, length-append, length-take, length-drop}
use lib.Seq.{length-take-le, take-take}
use borrow.Author.Tests.{lt-ltb, le-ltb}
use Rattle.answer.specs.Answer.{numbered}
use Rattle.codec.specs.Kinds.{first_unwritable}
use Rattle.editor.specs.Marks.{Mark, replaced_mark}
use Rattle.editor.specs.Records.{Entry, applied, entry_at}
use Rattle.ledger.specs.Words.{words_of, pad}
use Rattle.ledger.proofs.Words.{drop-take}
use Rattle.splice.specs.Splice.{spliced}
use Rattle.benches.specs.declared.Bench.{Bench}
use Rattle.bench_records.specs.declared.Pass.{Pass}
use Rattle.bench_calls.specs.declared.Turned.{Turned}
use Rattle.bench_calls.specs.Leaving.{leaves_of, edited_as, refused_with}
use Rattle.bench_calls.specs.Gap.{closed}
use Rattle.bench_calls.specs.Replaces.{need_on, fitting_on, replaced_on}

module _ (b : Bench) (mine used : ℕ) (p : Pass) (place count : ℕ) (cells text history : List ℕ) where
  abbrev old : List ℕ
  old = take b.length text

  abbrev step : Entry
  step = entry_at old place count cells

  -- the new length, and the words needed
  abbrev after : ℕ
  after = b.length - count + length cells

  abbrev need : ℕ
  need = used - p.spare + (4 + count + length cells)

  module _ (fits : b.length ≤ length text) where
    length-old : length old ≡ b.length
    length-old = length-take-le b.length text fits

    pub beyond :
        b.length < place + count →
        refused_with (numbered 11 b.length) b used text history
        ≡ replaced_on b mine used p place count cells text history
    unfolding replaced_on
    beyond q = rw (length-old, lt-ltb b.length (place + count) q)

    module _ (within : place + count ≤ b.length) where
      module _ (first : ℕ) (e : first ≡ first_unwritable b.kind cells) where
        pub unwritable :
            first < length cells →
            refused_with (numbered 10 first) b used text history
            ≡ replaced_on b mine used p place count cells text history
        unfolding replaced_on
        unwritable q = rw (length-old, le-ltb b.length (place + count) within, ← e, lt-ltb first (length cells) q)

        pub writable :
            length cells ≤ first →
            fitting_on b mine used p step text history ≡ replaced_on b mine used p place count cells text history
        unfolding replaced_on
        writable q = rw (length-old, le-ltb b.length (place + count) within, ← e, le-ltb first (length cells) q)

      length_removed : length step.removed ≡ count
      length_removed = simp (length-take, length-drop) (omega (arith, length-old))

      applied-is : applied step old ≡ spliced place count cells old
      applied-is = rw length_removed

      length-applied : length (applied step old) ≡ after
      length-applied = rw applied-is (simp (length-append, length-take, length-drop) (omega (arith, length-old)))

      need-is : need_on used p step ≡ need
      need-is = rw length_removed

      pub no_room :
          length text < after →
          refused_with (numbered 9 after) b used text history ≡ fitting_on b mine used p step text history
      unfolding fitting_on
      no_room q = rw (length-applied, lt-ltb (length text) after q)

      pub no_words :
          after ≤ length text → length history < need →
          refused_with (numbered 12 need) b used text history ≡ fitting_on b mine used p step text history
      unfolding fitting_on
      no_words q r =
          rw (length-applied, le-ltb (length text) after q, need-is, lt-ltb (length history) need r)

      -- the cells removed, as the code lends them
      abbrev part : List ℕ
      part = take (place + count - place) (drop place text)

      part-is : part ≡ step.removed
      part-is =
          let n : place + count - place ≡ count = omega arith in
          rw (n, drop-take place b.length text)
          (sym (take-take count (b.length - place) (drop place text) (omega arith)))

      pub length_part : length part ≡ count
      length_part = ap length part-is ∙ length_removed

      pub replaced-is :
          (r : Turned) (x y : List ℕ) → after ≤ length text → need ≤ length history → (mark : Mark) →
          mark ≡ replaced_mark b.standing b.saved →
          r ≡ edited_as b (spliced place count cells old) need (b.standing + 1) mark →
          x ≡ pad (length text) (spliced place count cells old) →
          y
          ≡ pad (length history)
          (closed mine p.next used history
          ++ mine ∷ words_of (record { place = place; removed = part; added = cells })) →
          leaves_of r x y ≡ fitting_on b mine used p step text history
      unfolding fitting_on
      replaced-is r x y q w mark m e f g =
          let t = le-ltb (length text) (length (applied step old)) (omega (arith, length-applied)) in
          let u = le-ltb (length history) (need_on used p step) (omega (arith, need-is)) in
          (λ i. leaves_of (e i) (f i) (g i)) ∙ rw (m, t, u, applied-is, need-is, part-is)
