-- The page file: what is kept reads back, a file is the one file of what it keeps, and 18's place is that of the first
-- byte no page file can have there. Assumes nothing.
use Prim.Native.Nat.{ℕ, zero, suc, ◌^◌, ◌/◌, ◌%◌, ◌<◌, ◌≤◌, max}
use Prim.Native.String.{String}
use mathlib.Core.Path.{◌≡◌, refl, sym, ap, ◌∙◌, subst}
use mathlib.Core.Bool.{Bool, true, false, cond}
use mathlib.Core.List.{List, [], ◌++◌, append_assoc, append-nil}
use mathlib.Core.Logic.{◌↔◌, inl, inr}
use native.Mathlib.Omega.{arith}
use native.Mathlib.Nat.{mod-lt}
use lib.ListN.{length, get_or, get_or-append}
use lib.Dec.{ltb, leb, lit<, lit≤}
use borrow.Author.Tests.{ltb-true, ltb-false, lt-ltb, le-ltb, leb-true, leb-false}
use Rattle.answer.specs.Answer.{limit}
use Rattle.std.specs.Prelude.{None, Some}
use Rattle.answer.specs.Lists.{Each}
use Rattle.answer.specs.Bytes.{bytes}
use Rattle.answer.proofs.Below.{all_below, below, cond-case}
use Rattle.codec.specs.declared.Kind.{Kind}
use Rattle.codec.specs.declared.Kind.TheVariants.{Utf7Header, Utf7Body, Jp2}
use Rattle.editor.specs.Marks.{Mark}
use Rattle.parsing.specs.Parsing.{Parser, either, literal, done, ◌>>=◌, Language, FirstFault, whole, broken}
use Rattle.parsing.specs.Parsing.{Right}
use Rattle.parsing.specs.Digits.{digit, digits, groups, LF}
use Rattle.parsing.proofs.Laws.{Parses, parses-as, Then, parses-then, Or, Apart, parses-either, parses-done, Is}
use Rattle.parsing.proofs.Laws.{parses-literal, first-once, whole-reads, whole-right}
use Rattle.parsing.proofs.Digits.{parses-number, parses-list}
use Rattle.page_file.specs.File.{Content, Form, form1, form2, name_of, line, mark_of, mark_within, file_in, InForm}
use Rattle.page_file.specs.File.{mark_number, greatest, greatest_in, form_for, file_of, IsFile}
use Rattle.page_file.specs.File as file
use Rattle.page_file.specs.Reading.{keyed, line_of, list_of, named, kind_name, page_by, decimal, mark}
use Rattle.page_file.specs.Reading.{least, lines_of, parse}

-- values that are in form, each spelled in one way
abbrev Spelled : {A : Type 0} → (A → Type 0) → (A → List ℕ) → Language A
Spelled Ok spell a w = Ok a × (w ≡ spell a)

-- any value of a type
abbrev Any : {A : Type 0} → A → Type 0
Any a = Unit

-- a key and '='
parses-keyed : (key : String) → Parses (keyed key) (Is (bytes key ++ bytes "="))
parses-keyed key =
    parses-as (parses-then (parses-literal (bytes key)) (λ _ _ _. parses-literal (bytes "=")))
    (λ a w (_, u, v, l, m, z). z ∙ rw (l, m)) (λ a w e. (tt, bytes key, bytes "=", refl, refl, e))

parses-line :
    {A : Type 0} {m : Parser A} {Ok : A → Type 0} {spell : A → List ℕ} (key : String) → Parses m (Spelled Ok spell) →
    Parses (line_of key m) (Spelled Ok (λ a. line key (spell a)))
parses-line {Ok = Ok} {spell = spell} key p =
    parses-as
    (parses-then (parses-keyed key)
    (λ _ _ _. parses-then p (λ v _ _. parses-then (parses-literal LF) (λ _ _ _. parses-done v))))
    (λ a w (_, k, t, i, (v, u, t', (l, l'), (_, e, t'', j, (x, y), z''), z'), z).
    (rw x l, z ∙ rw (i, z', z'', l', j, x, y, append_assoc)))
    (λ a w (l, e). (
      tt,
      bytes key ++ bytes "=",
      spell a ++ LF,
      refl,
      (a, spell a, LF, (l, refl), (tt, LF, [], refl, (refl, refl), refl), refl),
      e ∙ rw append_assoc,
    ))

-- lists of a length between two, of numbers of k hex digits
abbrev Within : (k least most : ℕ) → List ℕ → Type 0
Within k least most xs = (least ≤ length xs) × (length xs ≤ most) × Each (λ x. x < 16 ^ k) xs

parses-listed :
    (key : String) (k least most : ℕ) → 0 < k → least ≤ most →
    Parses (list_of key k least most) (Spelled (Within k least most) (λ xs. line key (groups k xs)))
parses-listed key k least most d h =
    parses-as (parses-then (parses-keyed key) (λ _ _ _. parses-list k d least most h))
    (λ xs w (_, u, v, i, (a, b, c, e), z). ((a, b, c), z ∙ rw (i, e, append_assoc)))
    (λ xs w ((a, b, c), e).
    (tt, bytes key ++ bytes "=", groups k xs ++ LF, refl, (a, b, c, refl), e ∙ rw append_assoc))

-- a name that stands for a value
abbrev Named : {A : Type 0} → String → A → Language A
Named name a b w = (b ≡ a) × (w ≡ bytes name)

parses-named : {A : Type 0} (name : String) (a : A) → Parses (named name a) (Named name a)
parses-named name a =
    parses-as (parses-then (parses-literal (bytes name)) (λ _ _ _. parses-done a))
    (λ b w (_, u, v, l, (e, j), z). (e, z ∙ rw (l, j, append-nil)))
    (λ b w (e, j). (tt, bytes name, [], refl, (e, refl), j ∙ sym (append-nil (bytes name))))

abbrev BodyOrJp2 : Language Kind
BodyOrJp2 = Or (Named "utf7b" Utf7Body) (Named "jp2" Jp2)

abbrev Kinds : Language Kind
Kinds = Or (Named "utf7h" Utf7Header) BodyOrJp2

kind-of : (kind : Kind) (w : List ℕ) → Spelled Any name_of kind w → Kinds kind w
kind-of Utf7Header w e = inl (refl, e.1)
kind-of Utf7Body w e = inr (inl (refl, e.1))
kind-of Jp2 w e = inr (inr (refl, e.1))

of-kind : (kind : Kind) (w : List ℕ) → Kinds kind w → Spelled Any name_of kind w
of-kind kind w (inl (e, j)) = (tt, rw e j)
of-kind kind w (inr (inl (e, j))) = (tt, rw e j)
of-kind kind w (inr (inr (e, j))) = (tt, rw e j)

-- two texts that differ at a place
differ :
    (i : ℕ) (u v x y : List ℕ) → i < length u → i < length v → (get_or u i 0 ≡ get_or v i 0 → ⊥) → u ++ x ≡ v ++ y → ⊥
differ i u v x y h k n e =
    n (sym (get_or-append u x 0 i h) ∙ ap (λ (l : List ℕ). get_or l i 0) e ∙ get_or-append v y 0 i k)

header-apart : Apart (Named "utf7h" Utf7Header) BodyOrJp2
header-apart _ _ u v x y (_, i) (inl (_, j)) e =
    differ 4 (bytes "utf7h") (bytes "utf7b") x y (lit< tt) (lit< tt) (λ q. omega arith) (rw (i, j) at e)
header-apart _ _ u v x y (_, i) (inr (_, j)) e =
    differ 0 (bytes "utf7h") (bytes "jp2") x y (lit< tt) (lit< tt) (λ q. omega arith) (rw (i, j) at e)

body-apart : Apart (Named "utf7b" Utf7Body) (Named "jp2" Jp2)
body-apart _ _ u v x y (_, i) (_, j) e =
    differ 0 (bytes "utf7b") (bytes "jp2") x y (lit< tt) (lit< tt) (λ q. omega arith) (rw (i, j) at e)

parses-kind : Parses kind_name (Spelled Any name_of)
parses-kind =
    parses-as
    (parses-either (parses-named "utf7h" Utf7Header)
    (parses-either (parses-named "utf7b" Utf7Body) (parses-named "jp2" Jp2) body-apart) header-apart)
    of-kind kind-of

-- a number does not begin with 'n'
digit_low : (d : ℕ) → d < 16 → digit d < 110
unfolding all_below
digit_low d h = ltb-true (digit d) 110 (below (λ k. ltb (digit k) 110) 16 refl d h)

not_none : (k n : ℕ) (x y : List ℕ) → 0 < k → bytes "none" ++ x ≡ digits 10 k n ++ y → ⊥
unfolding digits
not_none zero n x y h e = absurd (omega arith)
not_none (suc k) n x y h e =
    omega (
      arith,
      digit_low (n / 10 ^ k % 10) (omega (arith, mod-lt (n / 10 ^ k) {m = 10} (lit< tt))),
      ap (λ (l : List ℕ). get_or l 0 0) e,
    )

-- one more line in front: what it spells is a part of the content, and P says what the lines before it spell
module _
    {A : Type 0}
    {m : Parser A}
    {f : A → Parser Content}
    {Ok : A → Type 0}
    {spell : A → List ℕ}
    {P In : Content → Type 0}
    {rest : Content → List ℕ}
    (get : Content → A) where
  -- what is in form of it may be said in other words by what is known
  parses-known :
      {Fit : Content → Type 0} → ((c : Content) → P c → Ok (get c) → Fit c) →
      ((c : Content) → P c → Fit c → Ok (get c)) → Parses m (Spelled Ok spell) →
      ((a : A) → Ok a → Parses (f a) (λ c w. (P c × (get c ≡ a)) × In c × (w ≡ rest c))) →
      Parses (◌>>=◌ m f) (λ c w. P c × (Fit c × In c) × (w ≡ spell (get c) ++ rest c))
  parses-known to from p q =
      parses-as (parses-then p (λ a u (ok, _). q a ok))
      (λ c w (a, u, v, (ok, e), ((known, g), i, j), z). (known, (to c known (rw g ok), i), z ∙ rw (e, g, j)))
      (λ c w (known, (fit, i), e).
      (get c, spell (get c), rest c, (from c known fit, refl), ((known, refl), i, refl), e))

  parses-part :
      Parses m (Spelled Ok spell) →
      ((a : A) → Ok a → Parses (f a) (λ c w. (P c × (get c ≡ a)) × In c × (w ≡ rest c))) →
      Parses (◌>>=◌ m f) (λ c w. P c × (Ok (get c) × In c) × (w ≡ spell (get c) ++ rest c))
  parses-part = parses-known (λ _ _ ok. ok) (λ _ _ ok. ok)

-- the fewest arrived bytes, where the greatest number is n, are what the form asks for
least-due :
    (floor n m : ℕ) (t : Bool) → leb floor n ≡ t → (cond t 0 floor ≤ m) ↔ (floor ≤ max n m)
least-due floor n m true e = ((λ _. omega (arith, leb-true floor n e)), (λ _. omega arith))
least-due floor n m false e = ((λ h. omega arith), (λ h. omega (arith, leb-false floor n e)))

-- what a form asks for, of the numbers or the arrived length
abbrev pub Due : Form → Content → Type 0
Due form c = form.floor ≤ greatest_in c

-- the files of a form
abbrev pub Files : Form → Language Content
Files form c w = Due form c × InForm form c × (w ≡ file_in form c)

module _
    (form : Form)
    (some-digits : 0 < form.width)
    (enough : form.bound < 10 ^ form.width)
    (sensible : form.floor ≤ form.bound) where
  abbrev Small : ℕ → Type 0
  Small n = n ≤ form.bound

  parses-decimal : Parses (decimal form) (Spelled Small (file.decimal form))
  parses-decimal = parses-number 10 form.bound (lit< tt) (lit≤ tt) form.width enough

  abbrev Marks : Language Mark
  Marks = Or (Named "none" None) (Then (Spelled Small (file.decimal form)) (λ n m w. (m ≡ Some n) × (w ≡ [])))

  of-mark : (m : Mark) (w : List ℕ) → Marks m w → Spelled (mark_within form) (mark_of form) m w
  of-mark m w (inl (e, j)) = rw e (tt, j)
  of-mark m w (inr (n, u, v, (h, i), (e, j), z)) = rw e (h, z ∙ rw (i, j, append-nil))

  mark-of : (m : Mark) (w : List ℕ) → Spelled (mark_within form) (mark_of form) m w → Marks m w
  mark-of None w (h, e) = inl (refl, e)
  mark-of (Some n) w (h, e) =
      inr (n, file.decimal form n, [], (h, refl), (refl, refl), e ∙ sym (append-nil (file.decimal form n)))

  parses-mark : Parses (mark form) (Spelled (mark_within form) (mark_of form))
  parses-mark =
      parses-as
      (parses-either (parses-named "none" None) (parses-then parses-decimal (λ n _ _. parses-done (Some n)))
      (λ _ _ u v x y (_, i) (n, u', v', (_, j), (_, t), z) e.
      not_none form.width n x (v' ++ y) some-digits (rw (i, z, j, append_assoc) at e)))
      of-mark mark-of

  -- a list as long as a number says, of cells or words
  abbrev Sized : ℕ → List ℕ → Type 0
  Sized n xs = (length xs ≡ n) × Each (λ x. x < 16 ^ 8) xs

  sized : (n m : ℕ) (xs : List ℕ) → m ≡ n → Within 8 n n xs → Sized m xs
  sized n m xs e (a, b, c) = (omega arith, c)

  within : (n m : ℕ) (xs : List ℕ) → m ≡ n → Sized m xs → Within 8 n n xs
  within n m xs e (a, c) = (omega arith, omega arith, c)

  -- so many arrived bytes as the form asks for
  least-few : (n : ℕ) → cond (leb form.floor n) 0 form.floor ≤ form.bound
  least-few n = cond-case (λ (m : ℕ). m ≤ form.bound) (leb form.floor n) (λ _. omega arith) (λ _. sensible)

  abbrev Arrives : Content → Type 0
  Arrives c = Due form c × Within 2 0 form.bound c.arrived

  module _ (c : Content) (n : ℕ) (e : greatest c.page ≡ n) where
    arrives : Within 2 (cond (leb form.floor n) 0 form.floor) form.bound c.arrived → Arrives c
    arrives (a, b, d) =
        let due = (least-due form.floor n (length c.arrived) (leb form.floor n) refl).0 a in
        (rw e due, (omega arith, b, d))

    arrived-so : Arrives c → Within 2 (cond (leb form.floor n) 0 form.floor) form.bound c.arrived
    arrived-so (due, (_, b, d)) =
        ((least-due form.floor n (length c.arrived) (leb form.floor n) refl).1 (rw e at due), b, d)

  parses-form :
      Parses (line_of "form" (literal (bytes form.name))) (Spelled Any (λ _. line "form" (bytes form.name)))
  parses-form =
      parses-line "form" (parses-as (parses-literal (bytes form.name)) (λ _ _ e. (tt, e)) (λ _ _ e. e.1))

  -- what is in form, line by line
  abbrev Lines : Content → Type 0
  Lines c =
      Unit {0} × (Unit {0} × (Small c.page.opening × (Small c.page.length × (Small c.page.used
      × (Small c.page.done × (mark_within form c.page.saved × (Arrives c
      × (Sized c.page.length c.text × (Sized c.page.used c.history × Unit {0})))))))))

  -- the content of which each part is known
  parses-all :
      (kind : Kind) (opening size used past : ℕ) (saved : Mark) (arrived text history : List ℕ) →
      Parses {A = Content}
      (done (record {
        page = page_by kind opening size used past saved;
        arrived = arrived;
        text = text;
        history = history;
      }))
      (λ c w.
      ((((((((((Unit {0} × (tt {0} ≡ tt {0})) × (c.page.kind ≡ kind)) × (c.page.opening ≡ opening))
      × (c.page.length ≡ size))
      × (c.page.used ≡ used)) × (c.page.done ≡ past)) × (c.page.saved ≡ saved)) × (c.arrived ≡ arrived))
      × (c.text ≡ text)) × (c.history ≡ history)) × Unit {0} × (w ≡ []))
  parses-all kind opening size used past saved arrived text history =
      parses-as (parses-done _)
      (λ c w (e, j). (rw e ((((((((((tt, refl), refl), refl), refl), refl), refl), refl), refl), refl), refl), tt, j))
      (λ c w (((((((((((_, _), k), o), l), u), d), m), a), t), h), _, j). (
        (λ i. record {
          page = page_by (k i) (o i) (l i) (u i) (d i) (m i);
          arrived = a i;
          text = t i;
          history = h i;
        }),
        j,
      ))

  -- the greatest number is that of the lines before
  greatest-is :
      (c : Content) (kind : Kind) {opening size used past : ℕ} {saved : Mark} → c.page.opening ≡ opening →
      c.page.length ≡ size → c.page.used ≡ used → c.page.done ≡ past → c.page.saved ≡ saved →
      greatest c.page ≡ greatest (page_by kind opening size used past saved)
  greatest-is c kind o l u d m = λ i. greatest (page_by kind (o i) (l i) (u i) (d i) (m i))

  lines : Parses (lines_of form) (λ c w. Unit {0} × Lines c × (w ≡ file_in form c))
  unfolding file_in
  lines =
      parses-part (λ _. tt) parses-form (λ _ _.
      parses-part (λ c. c.page.kind) (parses-line "kind" parses-kind) (λ kind _.
      parses-part (λ c. c.page.opening) (parses-line "opening" parses-decimal) (λ opening _.
      parses-part (λ c. c.page.length) (parses-line "length" parses-decimal) (λ size _.
      parses-part (λ c. c.page.used) (parses-line "used" parses-decimal) (λ used _.
      parses-part (λ c. c.page.done) (parses-line "done" parses-decimal) (λ past _.
      parses-part (λ c. c.page.saved) (parses-line "saved" parses-mark) (λ saved _.
      parses-known (λ c. c.arrived)
      (λ c known. arrives c (greatest (page_by kind opening size used past saved))
      (greatest-is c kind known.0.0.0.0.1 known.0.0.0.1 known.0.0.1 known.0.1 known.1))
      (λ c known. arrived-so c (greatest (page_by kind opening size used past saved))
      (greatest-is c kind known.0.0.0.0.1 known.0.0.0.1 known.0.0.1 known.0.1 known.1))
      (parses-listed "arrived" 2 (least form (page_by kind opening size used past saved)) form.bound (lit< tt)
      (least-few (greatest (page_by kind opening size used past saved)))) (λ arrived _.
      parses-known (λ c. c.text) (λ c known. sized size c.page.length c.text known.0.0.0.0.1)
      (λ c known. within size c.page.length c.text known.0.0.0.0.1)
      (parses-listed "text" 8 size size (lit< tt) (omega arith)) (λ text _.
      parses-known (λ c. c.history) (λ c known. sized used c.page.used c.history known.0.0.0.0.1)
      (λ c known. within used c.page.used c.history known.0.0.0.0.1)
      (parses-listed "history" 8 used used (lit< tt) (omega arith)) (λ history _.
      parses-all kind opening size used past saved arrived text history))))))))))

  parses-lines : Parses (lines_of form) (Files form)
  parses-lines =
      parses-as lines
      (λ c w (_, (_, (_, (o, (l, (u, (d, (m, ((due, (_, n, b)), ((t, tc), ((h, hc), _)))))))))), e). (
        due,
        record {
          opening = o;
          size = l;
          used = u;
          done = d;
          saved = m;
          few = n;
          text = omega arith;
          history = omega arith;
          bytes = b;
          cells = tc;
          words = hc;
        },
        e,
      ))
      (λ c w (due, f, e). (
        tt,
        (
          tt,
          (
            tt,
            (
              f.opening,
              (
                f.size,
                (
                  f.used,
                  (
                    f.done,
                    (
                      f.saved,
                      (
                        (due, (omega arith, f.few, f.bytes)),
                        ((omega (arith, f.text), f.cells), ((omega (arith, f.history), f.words), tt)),
                      ),
                    ),
                  ),
                ),
              ),
            ),
          ),
        ),
        e,
      ))

-- what is in a form is as small as the form is wide, and in every other that is as wide
module _ (form : Form) where
  mark-small : (m : Mark) → mark_within form m → mark_number m ≤ form.bound
  mark-small None h = omega arith
  mark-small (Some n) h = h

  small-mark : (m : Mark) → mark_number m ≤ form.bound → mark_within form m
  small-mark None h = tt
  small-mark (Some n) h = h

  all_small : (c : Content) → InForm form c → greatest_in c ≤ form.bound
  all_small c f = omega (arith, f.opening, f.size, f.used, f.done, mark-small c.page.saved f.saved, f.few)

  small_all : {other : Form} (c : Content) → InForm other c → greatest_in c ≤ form.bound → InForm form c
  small_all c f h =
      record {
        opening = omega arith;
        size = omega arith;
        used = omega arith;
        done = omega arith;
        saved = small-mark c.page.saved (omega arith);
        few = omega arith;
        text = f.text;
        history = f.history;
        bytes = f.bytes;
        cells = f.cells;
        words = f.words;
      }

-- as wide as the limit
abbrev pub wide : Form
wide = record { name = "1"; width = 5; bound = limit; floor = 0 }

-- what is within the limit is in the form that is due
pub due-form : (c : Content) → InForm wide c → InForm (form_for c) c
unfolding limit
due-form c f =
    cond-case (λ (form : Form). InForm form c) (ltb 65536 (greatest_in c))
    (λ _. small_all form2 c f (omega (arith, all_small wide c f)))
    (λ t. small_all form1 c f (ltb-false 65536 (greatest_in c) t))

-- a file is of the form that is due

to-file : (c : Content) (w : List ℕ) → Or (Files form1) (Files form2) c w → IsFile c w
to-file c w (inl (_, f, e)) = rw (le-ltb 65536 (greatest_in c) (all_small form1 c f)) (f, e)
to-file c w (inr (due, f, e)) = rw (lt-ltb 65536 (greatest_in c) due) (f, e)

from-file : (c : Content) (w : List ℕ) → IsFile c w → Or (Files form1) (Files form2) c w
from-file c w =
    cond-case (λ (form : Form). InForm form c × (w ≡ file_in form c) → Or (Files form1) (Files form2) c w)
    (ltb 65536 (greatest_in c)) (λ t (f, e). inr (ltb-true 65536 (greatest_in c) t, f, e))
    (λ _ (f, e). inl (omega arith, f, e))

forms-apart : Apart (Files form1) (Files form2)
unfolding file_in
forms-apart a b u v x y (_, _, i) (_, _, j) e =
    let z : file_in form1 a ++ x ≡ file_in form2 b ++ y =
    ap (λ (l : List ℕ). l ++ x) (sym i) ∙ e ∙ ap (λ (l : List ℕ). l ++ y) j in
    omega (arith, ap (λ (l : List ℕ). get_or l 5 0) z)

pub parses-form1 : Parses (lines_of form1) (Files form1)
parses-form1 = parses-lines form1 (lit< tt) (lit< tt) (lit≤ tt)

pub parses-form2 : Parses (lines_of form2) (Files form2)
parses-form2 = parses-lines form2 (lit< tt) (lit< tt) (lit≤ tt)

parses-file : Parses (either (lines_of form1) (lines_of form2)) IsFile
parses-file = parses-as (parses-either parses-form1 parses-form2 forms-apart) to-file from-file

-- "Reading gives page, buffers and arrived bytes back": what is kept, in form, is found again
pub file-reads : (c : Content) → InForm (form_for c) c → parse (file_of c) ≡ whole c
unfolding parse
file-reads c f = whole-reads parses-file c (file_of c) (f, refl)

-- any bytes are the file of what is found in them, in form; or no page file, and the place is 18's
pub parse-right : (file : List ℕ) → Right IsFile file (parse file)
unfolding parse
parse-right file = whole-right parses-file file

pub spelled : (file : List ℕ) (c : Content) → parse file ≡ whole c → IsFile c file
spelled file c e = subst (Right IsFile file) e (parse-right file)

-- 18 stands at the first byte no page file can have there, and there is only one such place
pub faulty : (file : List ℕ) (place : ℕ) → parse file ≡ broken place → FirstFault IsFile file place
faulty file place e = (subst (Right IsFile file) e (parse-right file)).0

pub only-there :
    (file : List ℕ) (place other : ℕ) → parse file ≡ broken place → FirstFault IsFile file other → other ≡ place
only-there file place other e f = first-once IsFile file other place f (faulty file place e)

-- "One page with its arrived bytes has one file."
pub one-spelling : (c : Content) (f g : List ℕ) → parse f ≡ whole c → parse g ≡ whole c → f ≡ g
one-spelling c f g e d = (spelled f c e).1 ∙ sym (spelled g c d).1
