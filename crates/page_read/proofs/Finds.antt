-- What code found, line by line. Assumes nothing.
use Prim.Native.Nat.{ℕ, ◌+◌, ◌≤◌, ◌<◌, max}
use Prim.Native.String.{String}
use mathlib.Core.Path.{◌≡◌, refl, sym, ap, ◌∙◌}
use mathlib.Core.Bool.{Bool, true, false, cond, not, false≢true}
use mathlib.Core.List.{List, [], ◌∷◌, ◌++◌}
use native.Mathlib.Omega.{arith}
use lib.ListN.{length, drop, drop_of_length-le}
use lib.Seq.{drop-cons}
use lib.Dec.{eqb, leb}
use borrow.Author.Tests.{le-leb, lt-leb}
use Rattle.answer.proofs.Below.{cond-case}
use Rattle.answer.specs.Bytes.{bytes}
use Rattle.parsing.specs.Parsing.{Parsed, found, failed, Parser, on_parsed, done, either, literal, whole, broken}
use Rattle.parsing.specs.Parsing.{wholly}
use Rattle.parsing.specs.Digits.{list, LF}
use Rattle.scan.specs.declared.Found.{Found}
use Rattle.scan.specs.Found.{found_as}
use Rattle.ledger.specs.declared.Page.{Page}
use Rattle.page_file.specs.File.{Content, form1, form2, greatest}
use Rattle.page_file.specs.Reading.{keyed, line_of, list_of, least, lines_of, parse}
use Rattle.page_file.specs.Inner.{form_if}
use Rattle.page_read.specs.declared.lines.Head.{Head}
use Rattle.page_read.specs.declared.lines.Plan.{Plan}
use Rattle.page_read.specs.Inner.{key_line, key_list, list_lines, head_then, content_in, plan_in}

pub not_yes : (t : Bool) → not t ≡ true → t ≡ false
not_yes true e = sym e
not_yes false e = refl

pub not-no : (t : Bool) → not t ≡ false → t ≡ true
not-no true e = refl
not-no false e = sym e

-- what is found, and what is not
module _ {A : Type 0} (a : A) (s : List ℕ) (ok : Bool) (at : ℕ) {x : Parsed A}
    (e : cond ok (found a (drop at s) at) (failed at) ≡ x) where
  pub is_found : ok ≡ true → x ≡ found a (drop at s) at
  is_found h = sym e ∙ rw h

  pub is-failed : ok ≡ false → x ≡ failed at
  is-failed h = sym e ∙ rw h

-- as `if !r.ok` has it
module _ {A : Type 0} (a : A) (s : List ℕ) (r : Found) {x : Parsed A} (e : found_as a s r ≡ x) where
  pub found-if : not r.ok ≡ false → x ≡ found a (drop r.at s) r.at
  found-if h = is_found a s r.ok r.at e (not-no r.ok h)

  pub failed-if : not r.ok ≡ true → x ≡ failed r.at
  failed-if h = is-failed a s r.ok r.at e (not_yes r.ok h)

-- a refusal handed on
pub handed : {A : Type 0} (a : A) (s : List ℕ) (r : Found) {at : ℕ} → (r.ok ≡ false) × (r.at ≡ at) → found_as a s r ≡
    failed at
handed a s r (e, f) = rw (e, f)

same-on : {A B : Type 0} (x : Parsed A) (f g : A → Parser B) → ((a : A) (bs : List ℕ) (at : ℕ) → f a bs at ≡ g a bs at)
    → on_parsed x f ≡ on_parsed x g
same-on (found a rest at) f g h = h a rest at
same-on (failed at) f g h = refl

on-on : {A B C : Type 0} (x : Parsed A) (f : A → Parser B) (g : B → Parser C) → on_parsed (on_parsed x f) g ≡ on_parsed x
    (λ a bs at. on_parsed (f a bs at) g)
on-on (found a rest at) f g = refl
on-on (failed at) f g = refl

-- bytes that must stand there, in two parts
one_more :
    (t : Bool) (ys : List ℕ) (at : ℕ) (x y : Parsed Unit) → x ≡ on_parsed y (λ _. literal ys) →
    cond t x (failed at) ≡ on_parsed (cond t y (failed at)) (λ _. literal ys)
one_more true ys at x y e = e
one_more false ys at x y e = refl

literal-on : (xs ys bs : List ℕ) (at : ℕ) → literal (xs ++ ys) bs at ≡ on_parsed (literal xs bs at) (λ _. literal ys)
unfolding literal
literal-on [] ys bs at = refl
literal-on (x ∷ xs) ys [] at = refl
literal-on (x ∷ xs) ys (b ∷ bs) at = one_more (eqb b x) ys at (literal (xs ++ ys) bs (at + 1)) (literal xs bs (at + 1))
    (literal-on xs ys bs (at + 1))

pub keyed-is : (key : String) (bs : List ℕ) (at : ℕ) → keyed key bs at ≡ literal (bytes key ++ bytes "=") bs at
keyed-is key bs at = sym (literal-on (bytes key) (bytes "=") bs at)

pub line-is : {A : Type 0} (key : String) (value : Parser A) (bs : List ℕ) (at : ℕ) → line_of key value bs at ≡ key_line
    (bytes key ++ bytes "=") value bs at
line-is key value bs at = ap (λ (x : Parsed Unit). on_parsed x
    (λ _ bs at. on_parsed (value bs at) (λ v bs at. on_parsed (literal LF bs at) (λ _. done v)))) (keyed-is key bs at)

pub list-is : (key : String) (k least most : ℕ) (bs : List ℕ) (at : ℕ) → list_of key k least most bs at ≡ key_list
    (bytes key ++ bytes "=") k least most bs at
list-is key k least most bs at = ap (λ (x : Parsed Unit). on_parsed x (λ _. list k least most)) (keyed-is key bs at)

-- nothing more behind it
ends_so : (x : Parsed Unit) (v : Unit) → on_parsed x (λ _. done v) ≡ x
ends_so (found a rest at) v = refl
ends_so (failed at) v = refl

-- the first line
form-is :
    (name bs : List ℕ) (at : ℕ) →
    line_of "form" (literal name) bs at ≡ literal (bytes "form=" ++ (name ++ LF)) bs at
form-is name bs at =
    line-is "form" (literal name) bs at
    ∙ same-on (literal (bytes "form=") bs at) (λ _ bs at. on_parsed (literal name bs at)
    (λ v bs at. on_parsed (literal LF bs at) (λ _. done v)))
    (λ _. literal (name ++ LF))
    (λ _ bs at.
    same-on (literal name bs at) (λ v bs at. on_parsed (literal LF bs at) (λ _. done v)) (λ _. literal LF)
    (λ v bs at. ends_so (literal LF bs at) v)
    ∙ sym (literal-on name LF bs at))
    ∙ sym (literal-on (bytes "form=") (name ++ LF) bs at)

-- which names no form
pub no-form :
    (s : List ℕ) {p q : ℕ} → literal (bytes "form=1␊") s 0 ≡ failed p → literal (bytes "form=2␊") s 0 ≡ failed q →
    either (lines_of form1) (lines_of form2) s 0 ≡ failed (max p q)
no-form s e f = rw (form-is (bytes "1") s 0 ∙ e, form-is (bytes "2") s 0 ∙ f)

-- the fewest arrived bytes
module _ (two : Bool) (page : Page) where
  pub least-one : two ≡ false → 0 ≡ least (form_if two) page
  least-one e = rw e (cond-case (λ (n : ℕ). 0 ≡ n) (leb 0 (greatest page)) (λ _. refl) (λ _. refl))

  module _ (e : two ≡ true) {g : ℕ} (is : g ≡ greatest page) where
    pub least-great : 65537 ≤ g → 0 ≡ least (form_if two) page
    least-great h = rw (e, le-leb 65537 (greatest page) (omega arith))

    pub least-small : g < 65537 → 65537 ≡ least (form_if two) page
    least-small h = rw (e, lt-leb 65537 (greatest page) (omega arith))

-- a value, if LF stands behind it
passing : List ℕ → Bool → ℕ → Parsed (Unit {0})
passing s ok at = cond ok (found tt (drop at s) at) (failed at)

end_by : {A : Type 0} (a : A) (s : List ℕ) (ok : Bool) (at : ℕ) → cond ok (found a (drop at s) at) (failed at) ≡
    on_parsed (passing s ok at) (λ _. done a)
unfolding passing
end_by a s true at = refl
end_by a s false at = refl

pub end-as :
    {A : Type 0} (a : A) (s : List ℕ) (ok : Bool) (at : ℕ) {x : Parsed (Unit {0})} → cond ok (found tt (drop at s) at)
    (failed at) ≡ x →
    cond ok (found a (drop at s) at) (failed at) ≡ on_parsed x (λ _. done a)
unfolding passing
end-as a s ok at e = end_by a s ok at ∙ ap (λ (x : Parsed (Unit {0})). on_parsed x (λ _. done a)) e

pub never : {X : Type 0} (t : Bool) → t ≡ false → t ≡ true → X
never t e h = absurd (false≢true (sym e ∙ h))

-- the whole file, by its first lines
module _ (s : List ℕ) (h : Head) (e : head_then s h ≡ either (lines_of form1) (lines_of form2) s 0) where
  pub head-failed : h.ok ≡ false → parse s ≡ broken h.at
  unfolding parse
  head-failed q = sym (ap wholly e) ∙ rw q

  pub head-found : h.ok ≡ true → parse s ≡ wholly (list_lines h.two h.page (drop h.at s) h.at)
  unfolding parse
  head-found q = sym (ap wholly e) ∙ rw q

-- the end of the file, or more behind it
pub ends-here : (c : Content) (s : List ℕ) (at : ℕ) → at ≡ length s → wholly (found c (drop at s) at) ≡ whole c
ends-here c s at e = rw (drop_of_length-le s {i = at} (omega arith))

pub goes_on : (c : Content) (s : List ℕ) (at : ℕ) → at ≤ length s → (at ≡ length s → ⊥) → wholly
    (found c (drop at s) at) ≡ broken at
goes_on c s at h n = rw (drop-cons s at 0 (omega arith))

-- a plan tells what the file is
module _ (s : List ℕ) (p : Plan) (e : plan_in s p ≡ parse s) where
  pub plan-no : p.ok ≡ false → broken p.at ≡ parse s
  plan-no q = rw q at e

  pub plan-yes : p.ok ≡ true → whole (content_in s p) ≡ parse s
  plan-yes q = rw q at e
