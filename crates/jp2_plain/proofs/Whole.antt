-- A stretch on its way through its text, and the whole text. Assumes nothing.
use Prim.Native.Nat.{ℕ, ◌+◌, ◌-◌, ◌<◌, ◌≤◌}
use mathlib.Core.Path.{◌≡◌, refl, sym, ap, ◌∙◌}
use mathlib.Core.Bool.{false}
use mathlib.Core.List.{List, [], ◌∷◌, ◌++◌}
use native.Mathlib.Omega.{arith}
use lib.ListN.{length, take, drop, set}
use lib.Seq.{drop-drop, drop_at, length-take-le}
use lib.Dec.{ltb}
use borrow.Author.Tests.{lt-ltb, le-ltb}
use Rattle.std.specs.declared.result.Result.TheVariants.{Ok, Err}
use Rattle.answer.specs.declared.Refused.{Refused}
use Rattle.answer.specs.Answer.{Verdict, in_numbers, limit, refused_at, Answer}
use Rattle.answer.specs.Output.{Outcome, leaves, refusing, filled}
use Rattle.answer.specs.declared.Refusal.{Refusal}
use Rattle.answer.specs.declared.Refusal.TheVariants.{NoRoom}
use Rattle.answer.proofs.Put.{put_as, put-end, put-done}
use Rattle.reading.specs.Reading.{Reading, Ending, push, closing, verdict_of, reading, read_into}
use Rattle.reading.specs.Inner.{Filling}
use Rattle.reading.proofs.Laws.{read-end}
use Rattle.reading.proofs.Filling.{into-refused, into-short, into-room, into-filled}
use Rattle.reading.proofs.Strides.{Stride, filling-none, filling-place, filling-one}
use Rattle.jp2.specs.Rule.{plain, state, ends_in, jp2}
use Rattle.jp2.proofs.Kept.{jp2-kept}
use Rattle.jp2_plain.specs.Plain.{plain_into, AsMainReader}
use Rattle.jp2_plain.specs.Inner.{read_at, Shorter}

abbrev Cells : List ℕ → List ℕ
Cells text = (reading jp2 text).cells

-- a stretch that began at a place, with an output as it was then, has come to another place
pub record Reached (text : List ℕ) (from : ℕ) (cells₀ cells : List ℕ) (at g0 g2 n : ℕ) : Type 0 where
  pub past : from ≤ at
  pub so : Filling jp2 text at (state g0 g2 plain) n cells₀ cells

pub reached-start :
    {text cells : List ℕ} {from g0 g2 n : ℕ} → Filling jp2 text from (state g0 g2 plain) n cells cells →
    Reached text from cells cells from g0 g2 n
reached-start f = record { past = omega arith; so = f }

module _ {text cells₀ cells : List ℕ} {from at g0 g2 n : ℕ} (r : Reached text from cells₀ cells at g0 g2 n) where
  -- a designation is passed
  pub reached-set :
      {next g0' g2' : ℕ} → Shorter text at next → read_at text at g0 g2 ≡ read_at text next g0' g2' →
      Reached text from cells₀ cells next g0' g2' n
  reached-set s e =
      record {
        past = omega (arith, r.past, s.past);
        so = filling-none r.so (record { within = s.within; few = omega (arith, s.past); same = e });
      }

  -- a cell is written
  module _ {next v : ℕ} (left : ℕ) (s : Shorter text at next)
      (e : read_at text at g0 g2 ≡ push v (read_at text next g0 left)) where
    one : Stride jp2 text at (state g0 g2 plain) next (v ∷ []) (state g0 left plain)
    one = record { within = s.within; few = omega (arith, s.past); same = e }

    pub reached-place : n < length cells
    reached-place = filling-place r.so one

    pub reached-cell : Reached text from cells₀ (set cells n v) next g0 left (n + 1)
    reached-cell = record { past = omega (arith, r.past, s.past); so = filling-one r.so one }

  -- a fault, or the end of the text: every cell is written, and the answer is the whole text's
  pub reached-over :
      {e : Ending} → read_at text at g0 g2 ≡ record { cells = []; ending = e } →
      (closing e n ≡ verdict_of (reading jp2 text)) × (cells ≡ filled (Cells text) cells₀)
  reached-over {e} q =
      let p = put_as (ap (λ (r : Reading). r.cells) q) r.so.put in
      let ends : (reading jp2 text).ending ≡ e = r.so.left.ending ∙ ap (λ (r : Reading). r.ending) q in
      (rw (ends, put-end p), put-done p)

  pub reached-end :
      {v : Verdict} → length text ≤ at → v ≡ closing (ends_in at (state g0 0 plain)) n →
      (v ≡ verdict_of (reading jp2 text)) × (cells ≡ filled (Cells text) cells₀)
  unfolding ends_in
  reached-end h e =
      let q = reached-over (read-end jp2 text at (state g0 g2 plain) h) in
      (e ∙ q.0, q.1)

  -- the buffer as it is now is handed on, and comes back
  kept : drop n cells ≡ drop n cells₀
  kept =
      let p = r.so.put in
      ap (drop n) p.front ∙ drop_at (take n (Cells text)) (drop n cells₀) n (length-take-le n (Cells text) p.upto)

  pub handed : Filling jp2 text at (state g0 g2 plain) n cells cells
  handed =
      let p = r.so.put in
      record {
        left = r.so.left;
        put =
            record {
              room = omega (arith, p.room, p.same);
              upto = p.upto;
              left = p.left;
              front = p.front ∙ ap (λ (z : List ℕ). take n (Cells text) ++ z) (sym kept);
              same = refl;
            };
      }

  pub handed-back : {cells' : List ℕ} → cells' ≡ filled (Cells text) cells → cells' ≡ filled (Cells text) cells₀
  handed-back e =
      let k = length (Cells text) - n in
      let z : n + k ≡ length (Cells text) = omega (arith, r.so.put.upto) in
      e
      ∙ ap (λ (l : List ℕ). Cells text ++ l)
      (rw z at (sym (drop-drop k n cells) ∙ ap (drop k) kept ∙ drop-drop k n cells₀))

-- the order, of the definition; that `read` keeps to it is its promise
pub as-main-reader : AsMainReader
unfolding plain_into
as-main-reader =
    record {
      same = λ text out h. rw (le-ltb 512 (length text) h);
      longer = λ text out h. rw (lt-ltb 512 (length text) h);
    }

-- the whole call, by the answer `a` that was found with a buffer
module _ (text out : List ℕ) (h : length text ≤ 512) where
  shown : {o : Outcome} → o ≡ read_into jp2 text out → o ≡ plain_into text out
  shown e = e ∙ sym (as-main-reader.same text out h)

  within : ltb limit (length text) ≡ false
  unfolding limit
  within = le-ltb limit (length text) (omega arith)

  module _ {a : Answer} (q : in_numbers a ≡ verdict_of (reading jp2 text)) where
    pub read-refused : {deny : Refused} → a ≡ Err deny → leaves a out ≡ plain_into text out
    read-refused e = shown (into-refused jp2-kept text out within q e)

    module _ {n : ℕ} (e : a ≡ Ok n) where
      pub read_short : length out < n → leaves (refused_at NoRoom n) out ≡ plain_into text out
      read_short r = shown (into-short jp2-kept text out within q e r)

      pub read-room : n ≤ length out → length (Cells text) ≤ length out
      read-room r = into-room jp2-kept text out within q e r

      -- the answer `b` and the output that were found with the output
      pub read-filled :
          (b : Answer) {o : List ℕ} → n ≤ length out → in_numbers b ≡ verdict_of (reading jp2 text) →
          o ≡ filled (Cells text) out → leaves b o ≡ plain_into text out
      read-filled b {o} r k f =
          shown
          (ap (λ (v : Verdict). refusing v o) (k ∙ sym q) ∙ into-filled jp2-kept text out within q e r f)
