-- A file is read by the form that its first line names. Assumes nothing.
use Prim.Native.Nat.{ℕ, ◌+◌, ◌≤◌, max}
use mathlib.Core.Bool.{Bool, true, false, cond}
use mathlib.Core.Path.{◌≡◌, refl, sym, ap, ◌∙◌, subst}
use mathlib.Core.List.{List, ◌++◌}
use native.Mathlib.Omega.{arith}
use lib.ListN.{length, take, drop, length-append, take-append-drop}
use lib.Seq.{take-append-le}
use lib.Dec.{leb}
use borrow.Author.Tests.{leb-true, leb-false}
use Rattle.answer.specs.Bytes.{bytes}
use Rattle.parsing.specs.Parsing.{Parsed, found, failed, or_else, either, literal}
use Rattle.parsing.proofs.Laws.{Judged, Parses, Is, parses-literal}
use Rattle.page_file.specs.File.{Content, Form, form1, form2, file_in}
use Rattle.page_file.specs.Reading.{content_lines, lines_of}
use Rattle.page_file.specs.Inner.{form_if}
use Rattle.page_file.proofs.Laws.{Files, parses-form1, parses-form2}

pub form-if : (two : Bool) → form_if two ≡ cond two form2 form1
form-if true = refl
form-if false = refl

-- nothing fails within the bytes that every file begins with
file-starts : (form : Form) (c : Content) → file_in form c ≡ bytes "form=" ++ drop 5 (file_in form c)
unfolding file_in
file-starts form c = refl

starts-same : (n : ℕ) (u r w : List ℕ) → n ≤ length u → take n (u ++ r) ++ drop n (u ++ w) ≡ u ++ w
starts-same n u r w h =
    ap (λ (l : List ℕ). l ++ drop n (u ++ w)) (take-append-le n u r h ∙ sym (take-append-le n u w h))
    ∙ take-append-drop n (u ++ w)

module _ (form : Form) (p : Parses (lines_of form) (Files form)) (r : List ℕ) (place : ℕ) where
  judged-late : Judged (Files form) (bytes "form=" ++ r) 0 (failed place) → 5 ≤ place
  judged-late (n, i, f) = by_place (leb 5 n) refl
    where
      by_place : (t : Bool) → leb 5 n ≡ t → 5 ≤ place
      by_place true e = omega (arith, leb-true 5 n e)
      by_place false e =
          let small = leb-false 5 n e in
          let s = p.some in
          let c : Content = s.0 in
          absurd (f.there (omega (arith, length-append (bytes "form=") r)) (
            c,
            drop (n + 1) (bytes "form=" ++ drop 5 (file_in form c)),
            (
              s.2.0,
              s.2.1,
              starts-same (n + 1) (bytes "form=") r (drop 5 (file_in form c)) (omega arith)
                  ∙ sym (file-starts form c),
            ),
          ))

  late : lines_of form (bytes "form=" ++ r) 0 ≡ failed place → 5 ≤ place
  late e = judged-late (subst (Judged (Files form) (bytes "form=" ++ r) 0) e (p.judged (bytes "form=" ++ r) 0))

or-late : {A : Type 0} (x : Parsed A) → ((place : ℕ) → x ≡ failed place → 5 ≤ place) → or_else x (failed 5) ≡ x
or-late (found a rest at) h = refl
or-late (failed at) h = let e : max at 5 ≡ at = omega (arith, h at refl) in rw e

late-or : {A : Type 0} (x : Parsed A) → ((place : ℕ) → x ≡ failed place → 5 ≤ place) → or_else (failed 5) x ≡ x
late-or (found a rest at) h = refl
late-or (failed at) h = let e : max 5 at ≡ at = omega (arith, h at refl) in rw e

-- bytes that stand there
stands : (xs s rest : List ℕ) (at : ℕ) → literal xs s 0 ≡ found tt rest at → (s ≡ xs ++ rest) × (at ≡ length xs)
stands xs s rest at e =
    let (w, i, j, k) = subst (Judged (Is xs) s 0) e ((parses-literal xs).judged s 0) in
    (j ∙ rw i, omega (arith, ap length i))

first_by :
    (rest : List ℕ) →
    either (lines_of form1) (lines_of form2) (bytes "form=1␊" ++ rest) 0 ≡ content_lines form1 rest 7
unfolding literal
first_by rest =
    or-late (content_lines form1 rest 7) (λ place e. late form1 parses-form1 (bytes "1␊" ++ rest) place e)

second-by :
    (rest : List ℕ) →
    either (lines_of form1) (lines_of form2) (bytes "form=2␊" ++ rest) 0 ≡ content_lines form2 rest 7
unfolding literal
second-by rest =
    late-or (content_lines form2 rest 7) (λ place e. late form2 parses-form2 (bytes "2␊" ++ rest) place e)

module _ (s rest : List ℕ) (at : ℕ) where
  pub first-form :
      literal (bytes "form=1␊") s 0 ≡ found tt rest at →
      either (lines_of form1) (lines_of form2) s 0 ≡ content_lines form1 rest at
  first-form e =
      let (i, j) = stands (bytes "form=1␊") s rest at e in
      rw (i, j) (first_by rest)

  pub second-form :
      literal (bytes "form=2␊") s 0 ≡ found tt rest at →
      either (lines_of form1) (lines_of form2) s 0 ≡ content_lines form2 rest at
  second-form e =
      let (i, j) = stands (bytes "form=2␊") s rest at e in
      rw (i, j) (second-by rest)
