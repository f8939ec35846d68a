-- A file is its first lines and its lists, and how many bytes; what keeping answers. Assumes nothing.
use Prim.Native.Nat.{ℕ, ◌+◌, ◌*◌, ◌≤◌, ◌<◌}
use Prim.Native.String.{String}
use mathlib.Core.Path.{◌≡◌, refl, sym, ap, ◌∙◌}
use mathlib.Core.Bool.{Bool, true, false, cond}
use mathlib.Core.List.{List, [], ◌∷◌, ◌++◌, append_assoc, append-nil}
use native.Mathlib.Omega.{arith}
use native.Mathlib.Nat.{zero-add}
use lib.ListN.{length, take, length-append}
use lib.Seq.{sets, sets-eq, length-take-le}
use borrow.Author.Tests.{lt-ltb, le-ltb}
use Rattle.std.specs.Prelude.{Err}
use Rattle.std.specs.declared.result.Result.TheVariants.{Ok}
use Rattle.answer.specs.Answer.{numbered, in_numbers, too_long, refused_at, Answer}
use Rattle.answer.specs.declared.Refusal.TheVariants.{NoRoom}
use Rattle.answer.specs.Bytes.{bytes}
use Rattle.answer.specs.Output.{leaves, refusing, filled, deliver}
use Rattle.ledger.specs.declared.Page.{Page}
use Rattle.ledger.specs.Page.{State, text_in}
use Rattle.ledger.specs.Calls.{over}
use Rattle.answer.specs.declared.Refused.{Refused}
use Rattle.records.specs.Walking.{judge_of}
use Rattle.records.proofs.Found.{Fit, unfit}
use Rattle.parsing.specs.Digits.{groups}
use Rattle.page_file.specs.File.{Form, line, joined, name_of, mark_of, file_in, file_of}
use Rattle.page_file.specs.Calls.{content_of, keep_parted, keep_of}
use Rattle.page_file.specs.Inner.{belongs_by, form_if}
use Rattle.page_file.proofs.Belonging.{belongs-by}
use Rattle.page_file.proofs.Forms.{form-if}
use Rattle.page_keep.specs.Inner.{is_long, decimal, form_line, page_lines, head_of, lists_of}
use Rattle.page_keep.specs.Inner.{content_by}
use Rattle.page_keep.proofs.Puts.{length_digits, length-groups}

-- ten lines in two groups
regroup :
    (a b c d e f g h i j : List ℕ) →
    joined (a ∷ b ∷ c ∷ d ∷ e ∷ f ∷ g ∷ h ∷ i ∷ j ∷ [])
    ≡ (a ++ (b ++ (c ++ (d ++ (e ++ (f ++ g)))))) ++ (h ++ (i ++ j))
regroup a b c d e f g h i j = simp (append_assoc, append-nil)

form-line : (two : Bool) → line "form" (bytes (form_if two).name) ≡ form_line two
form-line true = refl
form-line false = refl

module _ (two : Bool) (page : Page) (cells words arrived : List ℕ) where
  file-by : file_in (form_if two) (content_by page cells words arrived) ≡ head_of two page ++ lists_of arrived cells words
  unfolding file_in
  file-by =
      regroup (line "form" (bytes (form_if two).name)) (line "kind" (name_of page.kind))
      (line "opening" (decimal two page.opening)) (line "length" (decimal two page.length))
      (line "used" (decimal two page.used)) (line "done" (decimal two page.done))
      (line "saved" (mark_of (form_if two) page.saved)) (line "arrived" (groups 2 arrived))
      (line "text" (groups 8 cells)) (line "history" (groups 8 words))
      ∙ ap (λ (first : List ℕ). (first ++ page_lines two page) ++ lists_of arrived cells words) (form-line two)

  pub file-is :
      two ≡ is_long page arrived →
      file_of (content_by page cells words arrived) ≡ head_of two page ++ lists_of arrived cells words
  file-is e =
      ap (λ (form : Form). file_in form (content_by page cells words arrived))
      (sym (form-if (is_long page arrived)) ∙ ap form_if (sym e))
      ∙ file-by

pub line-size : (key : String) (value : List ℕ) → length (line key value) ≡ length (bytes key) + length value + 2
line-size key value = simp length-append (omega arith)

pub number_size :
    (two : Bool) (key : String) (n : ℕ) →
    length (line key (decimal two n)) ≡ length (bytes key) + (form_if two).width + 2
number_size two key n = line-size key (decimal two n) ∙ omega (arith, length_digits 10 (form_if two).width n)

pub form-size : (two : Bool) → length (form_line two) ≡ 7
form-size true = refl
form-size false = refl

seven :
    (a b c d e f g : List ℕ) →
    length (a ++ (b ++ (c ++ (d ++ (e ++ (f ++ g))))))
    ≡ length a + length b + length c + length d + length e + length f + length g
seven a b c d e f g = simp length-append (omega arith)

pub head-size :
    (two : Bool) (page : Page) →
    length (head_of two page)
    ≡ 49 + (form_if two).width * 4 + (length (name_of page.kind) + length (mark_of (form_if two) page.saved))
head-size two page =
    seven (form_line two) (line "kind" (name_of page.kind)) (line "opening" (decimal two page.opening))
    (line "length" (decimal two page.length)) (line "used" (decimal two page.used))
    (line "done" (decimal two page.done)) (line "saved" (mark_of (form_if two) page.saved))
    ∙ omega (
      arith,
      form-size two,
      line-size "kind" (name_of page.kind),
      number_size two "opening" page.opening,
      number_size two "length" page.length,
      number_size two "used" page.used,
      number_size two "done" page.done,
      line-size "saved" (mark_of (form_if two) page.saved),
    )

-- the last of the first lines
pub saved-room :
    (two : Bool) (page : Page) {n at : ℕ} → length (head_of two page) ≤ n →
    at ≡ 42 + (form_if two).width * 4 + length (name_of page.kind) →
    at + length (line "saved" (mark_of (form_if two) page.saved)) ≤ n
saved-room two page h e =
    omega (arith, head-size two page, line-size "saved" (mark_of (form_if two) page.saved))

pub lists-size : (arrived cells words : List ℕ) → length (lists_of arrived cells words) ≡ 24 +
    (length arrived * 2 + length cells * 8 + length words * 8)
lists-size arrived cells words =
    length-append (line "arrived" (groups 2 arrived)) (line "text" (groups 8 cells) ++ line "history" (groups 8 words))
    ∙ omega (
      arith,
      length-append (line "text" (groups 8 cells)) (line "history" (groups 8 words)),
      line-size "arrived" (groups 2 arrived),
      line-size "text" (groups 8 cells),
      line-size "history" (groups 8 words),
      length-groups 2 arrived,
      length-groups 8 cells,
      length-groups 8 words,
    )

pub file-size :
    (two : Bool) (page : Page) (cells words arrived : List ℕ) → two ≡ is_long page arrived →
    length (file_of (content_by page cells words arrived))
    ≡ 73 + (form_if two).width * 4 + (length (name_of page.kind) + length (mark_of (form_if two) page.saved))
    + length arrived * 2 + length cells * 8 + length words * 8
file-size two page cells words arrived e =
    ap length (file-is two page cells words arrived e)
    ∙ length-append (head_of two page) (lists_of arrived cells words)
    ∙ omega (arith, head-size two page, lists-size arrived cells words)

-- put whole, from the front
pub put_whole : (out file : List ℕ) → length file ≤ length out → sets out 0 file ≡ filled file out
put_whole out file h = sets-eq file out 0 (omega arith) ∙ rw zero-add

-- the file in an output
module _ (file out : List ℕ) {n : ℕ} (e : n ≡ length file) where
  pub no_room : length out < n → leaves (refused_at NoRoom n) out ≡ deliver file out
  unfolding deliver
  no_room h = rw (lt-ltb (length out) (length file) (omega arith), e)

  pub has_room : n ≤ length out → {out' : List ℕ} → out' ≡ filled file out → leaves (Ok n) out' ≡ deliver file out
  unfolding deliver
  has_room h f = rw (le-ltb (length out) (length file) (omega arith), e, f)

-- what keeping answers
module _ (s : State) (arrived out : List ℕ) where
  pub keep-long : (a : Answer) → over arrived ≡ true → in_numbers a ≡ too_long → leaves a out ≡ keep_of s arrived out
  unfolding keep_of
  keep-long a q e = rw (q, e)

  module _ (few : over arrived ≡ false) where
    pub keep-unfit : {j : Answer} {a : Refused} → j ≡ judge_of s → j ≡ Err a → leaves (Err a) out ≡ keep_of s arrived out
    unfolding keep_of keep_parted
    keep-unfit {j} {a} d e = rw few (sym (unfit s a (λ v. refusing v out) (keep_parted (content_of s arrived) out) refl d
        e))

    pub keep-fit :
        {last : ℕ} → Fit s last →
        keep_of s arrived out
        ≡ cond (belongs_by s.page (text_in s) arrived)
        (deliver (file_of (content_by s.page (text_in s) (take s.page.used s.history) arrived)) out)
        (refusing (numbered 15 0) out)
    unfolding keep_of keep_parted
    keep-fit f =
        let n : length (text_in s) ≡ s.page.length = length-take-le s.page.length s.text f.frame.fits in
        rw (few, f.short, f.found)
        (ap (λ (t : Bool). cond t (deliver (file_of (content_of s arrived)) out) (refusing (numbered 15 0) out))
        (belongs-by (content_of s arrived) f.parted.standing f.sound.end f.sound.reach n))
