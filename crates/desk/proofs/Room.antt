-- The longest page file of buffers of some lengths, and when a `keep` at the desk is refused for room. Assumes nothing.
use Prim.Native.Nat.{ℕ, ◌+◌, ◌*◌, ◌≤◌}
use mathlib.Core.Path.{◌≡◌, refl, ap, ◌∙◌}
use mathlib.Core.Bool.{Bool, true, false, cond}
use mathlib.Core.List.{List}
use native.Mathlib.Omega.{arith}
use lib.ListN.{length, take, length-take}
use lib.Dec.{ltb, lit≤}
use borrow.Author.Tests.{le-ltb}
use Rattle.answer.specs.Answer.{numbered}
use Rattle.std.specs.Prelude.{None, Some}
use Rattle.answer.specs.Output.{Outcome, refusing, filled, deliver}
use Rattle.codec.specs.declared.Kind.{Kind}
use Rattle.codec.specs.declared.Kind.TheVariants.{Utf7Header, Utf7Body, Jp2}
use Rattle.editor.specs.Marks.{Mark}
use Rattle.ledger.specs.Page.{State, text_in}
use Rattle.ledger.specs.Ledger.{Ledger}
use Rattle.page_file.specs.File.{name_of, mark_of}
use Rattle.page_file.specs.Inner.{form_if}
use Rattle.page_file.specs.Calls.{keep_of}
use Rattle.page_keep.proofs.Puts.{length_digits}
use Rattle.page_keep.specs.Inner.{is_long}
use Rattle.page_keep.proofs.Keeping.{file-size}
use Rattle.sessions.specs.Demand.{file_for}
use Rattle.desk_lines.specs.Desk.{file_room}
use Rattle.desk_lines.specs.Runs.{Reached}
use Rattle.desk_lines.proofs.Law.{runs_on}
use Rattle.desk_lines.proofs.Room.{before-fits}

name-most : (kind : Kind) → length (name_of kind) ≤ 5
name-most Utf7Header = lit≤ tt
name-most Utf7Body = lit≤ tt
name-most Jp2 = lit≤ tt

width-most : (two : Bool) → (form_if two).width ≤ 7
width-most true = lit≤ tt
width-most false = lit≤ tt

mark-most : (two : Bool) (mark : Mark) → length (mark_of (form_if two) mark) ≤ 7
mark-most two None = lit≤ tt
mark-most two (Some n) = omega (arith, length_digits 10 (form_if two).width n, width-most two)

take-most : (n : ℕ) (l : List ℕ) → length (take n l) ≤ length l
take-most n l = simp length-take (omega arith)

-- the file of a page in buffers of some lengths
pub file-most :
    (most : ℕ) (s : State) (letter : List ℕ) → length letter ≤ most → length s.text ≤ most →
    length s.history ≤ most →
    length (file_for s letter) ≤ 113 + 18 * most
file-most most s letter a t h =
    let two : Bool = is_long s.page letter in
    omega (
      arith,
      file-size two s.page (text_in s) (take s.page.used s.history) letter refl,
      width-most two,
      name-most s.page.kind,
      mark-most two s.page.saved,
      take-most s.page.length s.text,
      take-most s.page.used s.history,
      a,
      t,
      h,
    )

verdict-by :
    (b : Bool) (n : ℕ) (out filled : List ℕ) →
    (cond b (refusing (numbered 9 n) out) (record { verdict = numbered 0 n; out = filled })).verdict
    ≡ cond b (numbered 9 n) (numbered 0 n)
verdict-by true n out filled = refl
verdict-by false n out filled = refl

module _ (kind : Kind) (letter : List ℕ) {s : State} {l : Ledger} (r : Reached kind letter s l) where
  -- a `keep` at the desk is refused only with 9, exactly where the page's file is longer than the room, with its length
  pub keep-at-desk :
      (out : List ℕ) → length out ≡ file_room →
      (keep_of s letter out).verdict
      ≡ cond (ltb file_room (length (file_for s letter))) (numbered 9 (length (file_for s letter)))
      (numbered 0 (length (file_for s letter)))
  unfolding deliver
  keep-at-desk out e =
      let file : List ℕ = file_for s letter in
      ap (λ (o : Outcome). o.verdict) ((runs_on kind letter s l r).keeps out)
      ∙ (verdict-by (ltb (length out) (length file)) (length file) out (filled file out)
      ∙ ap (λ (n : ℕ). cond (ltb n (length file)) (numbered 9 (length file)) (numbered 0 (length file))) e)

  -- so it is accepted for every page whose letter, text and history are no longer than they were before order 10
  pub keep-of-before :
      (out : List ℕ) → length out ≡ file_room → length letter ≤ 65536 → length s.text ≤ 65536 →
      length s.history ≤ 65536 →
      (keep_of s letter out).verdict ≡ numbered 0 (length (file_for s letter))
  keep-of-before out e a t h =
      keep-at-desk out e
      ∙ rw (le-ltb file_room (length (file_for s letter)) (omega (arith, file-most 65536 s letter a t h, before-fits)))
