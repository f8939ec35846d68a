-- Steps on a text and their records, in order and with the latest first. Assumes nothing.
use Prim.Native.Nat.{ℕ, suc, ◌+◌, ◌≤◌}
use mathlib.Core.Path.{◌≡◌, refl, sym, ap, ◌∙◌, subst}
use mathlib.Core.Bool.{Bool, true, false, ◌&&◌, ◌||◌, false≢true}
use mathlib.Core.List.{List, [], ◌∷◌, ◌++◌, reverse_aux, reverse, map}
use native.Mathlib.Omega.{arith}
use lib.ListN.{length, take, drop, length-append, length-take, length-drop}
use borrow.Author.Tests.{le-leb}
use Rattle.editor.specs.Ledger.{Step, text_after}
use Rattle.editor.specs.Records.{Entry, step_of, applied, entry_at, length_after, lengths_fit, reached}

pub and-true : (a b : Bool) → a ≡ true → b ≡ true → (a && b) ≡ true
and-true true b p q = q
and-true false b p q = p

pub or_parts : (a b : Bool) → (a || b) ≡ false → (a ≡ false) × (b ≡ false)
or_parts true b p = absurd (false≢true (sym p))
or_parts false b p = (refl, p)

-- a step, and its record, on a text
abbrev pub stepped : Step → List ℕ → List ℕ
stepped x text = take x.place text ++ (x.added ++ drop (x.place + x.count) text)

abbrev pub record_of : List ℕ → Step → Entry
record_of text x = entry_at text x.place x.count x.added

-- the records of steps in order, from a text on
abbrev pub records_of : List ℕ → List Step → List Entry
records_of text [] = []
records_of text (x ∷ rest) = record_of text x ∷ records_of (stepped x text) rest

-- the text after standing steps, and their records; here the latest step is first, as in `Editor`
abbrev pub text_back : List ℕ → List Step → List ℕ
text_back text [] = text
text_back text (x ∷ back) = stepped x (text_back text back)

abbrev pub records_back : List ℕ → List Step → List Entry
records_back text [] = []
records_back text (x ∷ back) = record_of (text_back text back) x ∷ records_back text back

pub text_in-order :
    (text : List ℕ) (back rest : List Step) →
    text_after text (reverse_aux back rest) ≡ text_after (text_back text back) rest
unfolding text_after
text_in-order text [] rest = refl
text_in-order text (x ∷ back) rest = text_in-order text back (x ∷ rest)

pub text-standing : (text : List ℕ) (back : List Step) → text_after text (reverse back) ≡ text_back text back
unfolding text_after
text-standing text back = text_in-order text back []

pub records-in-order :
    (text : List ℕ) (back rest : List Step) →
    records_of text (reverse_aux back rest) ≡ reverse_aux (records_back text back) (records_of (text_back text back) rest)
records-in-order text [] rest = refl
records-in-order text (x ∷ back) rest = records-in-order text back (x ∷ rest)

-- of earlier and later steps
pub text-later :
    (text : List ℕ) (new old : List Step) → text_back text (new ++ old) ≡ text_back (text_back text old) new
text-later text [] old = refl
text-later text (x ∷ new) old = ap (stepped x) (text-later text new old)

pub records-later :
    (text : List ℕ) (new old : List Step) →
    records_back text (new ++ old) ≡ records_back (text_back text old) new ++ records_back text old
records-later text [] old = refl
records-later text (x ∷ new) old = λ i. record_of (text-later text new old i) x ∷ records-later text new old i

pub length-records : (text : List ℕ) (back : List Step) → length (records_back text back) ≡ length back
length-records text [] = refl
length-records text (x ∷ back) = ap suc (length-records text back)

-- every step in order is within its text, and no text exceeds the room
abbrev pub Fits : ℕ → List ℕ → List Step → Type 0
Fits room text [] = length text ≤ room
Fits room text (x ∷ rest) = (length text ≤ room) × (x.place + x.count ≤ length text) × Fits room (stepped x text) rest

module _ (room : ℕ) where
  pub fits-first : (text : List ℕ) (steps : List Step) → Fits room text steps → length text ≤ room
  fits-first text [] f = f
  fits-first text (x ∷ rest) f = f.0

  pub fits-rest :
      (text : List ℕ) (back rest : List Step) → Fits room text (reverse_aux back rest) →
      Fits room (text_back text back) rest
  fits-rest text [] rest f = f
  fits-rest text (x ∷ back) rest f = (fits-rest text back (x ∷ rest) f).2

  pub fits-new :
      (text : List ℕ) (back rest new : List Step) → Fits room text (reverse_aux back rest) →
      Fits room (text_back text back) new →
      Fits room text (reverse_aux back new)
  fits-new text [] rest new f g = g
  fits-new text (x ∷ back) rest new f g =
      let h = fits-rest text back (x ∷ rest) f in
      fits-new text back (x ∷ rest) (x ∷ new) f (h.0, h.1, g)

module _ (text : List ℕ) (x : Step) (within : x.place + x.count ≤ length text) where
  pub length_removed : length (record_of text x).removed ≡ x.count
  length_removed = simp (length-take, length-drop) (omega arith)

  length-stepped : length (stepped x text) ≡ length_after (length text) (record_of text x)
  length-stepped = simp (length-append, length-take, length-drop) (omega arith)

  pub applied-stepped : applied (record_of text x) text ≡ stepped x text
  applied-stepped = rw length_removed

pub lengths-fit :
    (room : ℕ) (text : List ℕ) (steps : List Step) → Fits room text steps →
    lengths_fit room (length text) (records_of text steps) ≡ true
unfolding lengths_fit
lengths-fit room text [] f = refl
lengths-fit room text (x ∷ rest) f =
    let cut = length_removed text x f.1 in
    let long = length-stepped text x f.1 in
    let within : x.place + length (record_of text x).removed ≤ length text = omega (arith, f.1) in
    let below : length_after (length text) (record_of text x) ≤ room =
    omega (arith, fits-first room (stepped x text) rest f.2) in
    and-true _ _ (and-true _ _ (le-leb _ _ within) (le-leb _ _ below))
    (subst (λ (n : ℕ). lengths_fit room n (records_of (stepped x text) rest) ≡ true) long
    (lengths-fit room (stepped x text) rest f.2))

pub length-reached :
    (room : ℕ) (text : List ℕ) (steps : List Step) → Fits room text steps →
    reached (length text) (records_of text steps) ≡ length (text_after text steps)
unfolding reached text_after
length-reached room text [] f = refl
length-reached room text (x ∷ rest) f =
    ap (λ (n : ℕ). reached n (records_of (stepped x text) rest)) (sym (length-stepped text x f.1))
    ∙ length-reached room (stepped x text) rest f.2

-- the records of steps are of those steps
pub steps_of :
    (room : ℕ) (text : List ℕ) (steps : List Step) → Fits room text steps → map step_of (records_of text steps) ≡ steps
steps_of room text [] f = refl
steps_of room text (x ∷ rest) f =
    λ i. record { place = x.place; count = length_removed text x f.1 i; added = x.added }
    ∷ steps_of room (stepped x text) rest f.2 i

pub steps_back :
    (room : ℕ) (text : List ℕ) (back rest : List Step) → Fits room text (reverse_aux back rest) →
    map step_of (records_back text back) ≡ back
steps_back room text [] rest f = refl
steps_back room text (x ∷ back) rest f =
    let within = (fits-rest room text back (x ∷ rest) f).1 in
    λ i. record { place = x.place; count = length_removed (text_back text back) x within i; added = x.added }
    ∷ steps_back room text back (x ∷ rest) f i
