-- A line behind others in a buffer of 128 bytes. Assumes nothing.
use Prim.Native.Nat.{ℕ, ◌+◌, ◌-◌, ◌≤◌}
use mathlib.Core.Path.{◌≡◌, refl, sym, ap, ◌∙◌}
use mathlib.Core.List.{List, [], ◌∷◌, ◌++◌, append-nil}
use native.Mathlib.Omega.{arith}
use lib.ListN.{length, take, drop, replicate, length-append, length-take, length-drop, length-replicate}
use lib.Seq.{take_at, drop_at}
use borrow.Author.Tests.{le-ltb}
use borrow.Rule.Slice.PartMut.{put_mid}
use Rattle.answer.specs.Answer.{numbered, in_numbers, Answer}
use Rattle.answer.specs.Output.{Outcome, leaves, filled, deliver}
use Rattle.answer.proofs.Put.{Put, put-lent, put-done}
use Rattle.listing.specs.Listing.{decimal, say_into}
use Rattle.listing.proofs.Digits.{decimal-few}
use Rattle.listing.proofs.Lines.{line-size}
use denote.Enum.Declared.{tag_of}
use Rattle.comparer.specs.contracts.Text.{the_type}
use Rattle.comparer.specs.declared.Text.{Text}
use Rattle.comparer.specs.declared.Text.TheVariants.{First, Second}
use Rattle.same_lines.specs.Told.{says, text_number, laid}
use Rattle.same_lines.specs.Inner.{Holds}
use Rattle.same_lines.specs.declared.Lines.{Lines}

pub says-few : (name : List ℕ) (n : ℕ) → length (says name n) ≤ length name + 22
says-few name n = omega (arith, line-size name (decimal n), decimal-few 20 n)

-- what was said, where there is room
module _ (name : List ℕ) (n : ℕ) (sub y : List ℕ) (said : Answer) (e : leaves said y ≡ say_into name n sub)
    (h : length (says name n) ≤ length sub) where
  fits : leaves said y ≡ record { verdict = numbered 0 (length (says name n)); out = filled (says name n) sub }
  unfolding say_into deliver
  fits = rw (le-ltb (length sub) (length (says name n)) h) at e

  pub said-size : (in_numbers said).place ≡ length (says name n)
  said-size = ap (λ (o : Outcome). o.verdict.place) fits

  pub said-out : y ≡ filled (says name n) sub
  said-out = ap (λ (o : Outcome). o.out) fits

abbrev zeros : List ℕ
zeros = replicate 128 0

module _ (l part : List ℕ) (h : length l + length part ≤ 128) where
  all : length (filled l zeros) ≡ 128
  all = simp (length-append, length-drop, length-replicate) (omega arith)

  begun : Put (l ++ part) zeros (filled l zeros) (length l) (part ++ [])
  begun =
      record {
        room = simp (length-append, length-replicate) h;
        upto = simp length-append (omega arith);
        left = drop_at l part (length l) refl ∙ sym (append-nil part);
        front = rw (take_at l part (length l) refl);
        same = all ∙ simp length-replicate;
      }

  pub laid_next :
      (y : List ℕ) → y ≡ filled part (take (128 - length l) (drop (length l) (filled l zeros))) →
      put_mid (length l) (128 - length l) (filled l zeros) y ≡ filled (l ++ part) zeros
  laid_next y e = rw all at (put-done (put-lent part [] begun {y = y} (rw all e)))

-- and of lines whatever they are
pub lines_next :
    (lines : Lines) (l part y : List ℕ) (size : ℕ) → lines ≡ laid l → length lines.bytes ≡ 128 →
    lines.size + length part ≤ 128 →
    y ≡ filled part (take (128 - lines.size) (drop lines.size lines.bytes)) → size ≡ lines.size + length part →
    ◌≡◌ {A = Lines}
    (record { bytes = put_mid lines.size (128 - lines.size) lines.bytes y; size = size })
    (laid (l ++ part))
unfolding laid
lines_next lines l part y size e k h f z =
    let s : lines.size ≡ length l = ap (λ (x : Lines). x.size) e in
    let b : lines.bytes ≡ filled l zeros = ap (λ (x : Lines). x.bytes) e in
    let t : size ≡ length (l ++ part) = simp length-append (omega arith) in
    let m : length l + length part ≤ 128 = omega arith in
    rw (s, b, t, laid_next l part m y (rw (s, b) at f))

pub lines-room :
    (lines : Lines) (part y : List ℕ) → length lines.bytes ≡ 128 → lines.size ≤ 128 →
    length part ≤ length (take (128 - lines.size) (drop lines.size lines.bytes)) →
    y ≡ filled part (take (128 - lines.size) (drop lines.size lines.bytes)) →
    length (put_mid lines.size (128 - lines.size) lines.bytes y) ≡ 128
lines-room lines part y k h r e =
    let q = simp (length-append, length-take, length-drop) at (ap length e) in
    let m = simp (length-take, length-drop) at r in
    simp (length-append, length-take, length-drop) (omega arith)

-- the number that the code has for a text
pub number-of-text : (which : Text) → tag_of the_type which + 1 ≡ text_number which
number-of-text First = refl
number-of-text Second = refl

pub holds-less : {lines : Lines} {most more : ℕ} → Holds lines most → most ≤ more → Holds lines more
holds-less h l = record { room = h.room; few = omega (arith, h.few) }
