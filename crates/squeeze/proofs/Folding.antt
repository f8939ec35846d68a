-- The oldest records of a sound page, as its words have them, and what a squeeze comes to there. Assumes nothing.
use Prim.Native.Nat.{ℕ, ◌+◌, ◌-◌, ◌≤◌, ◌<◌}
use mathlib.Core.Path.{◌≡◌, refl, sym, ap, ◌∙◌}
use mathlib.Core.Bool.{Bool, true, false, cond, ◌||◌}
use mathlib.Core.List.{List, [], ◌∷◌, ◌++◌, reverse_aux, reverse, reverse_aux-eq, reverse-append, append-nil}
use Rattle.std.specs.Prelude.{Some, Err}
use native.Mathlib.Omega.{arith}
use native.Mathlib.Nat.{zero-add}
use lib.ListN.{length, take, drop, length-reverse, length-drop, length-take, take-append-drop}
use lib.Seq.{slice, take_at, drop_at, take-take, length-take-le}
use lib.Dec.{ltb, leb}
use borrow.Author.Tests.{le-ltb, lt-ltb, le-leb, lt-leb}
use Rattle.answer.specs.Answer.{limit, numbered, in_numbers, Answer}
use Rattle.answer.specs.Output.{filled}
use Rattle.editor.specs.Marks.{folded_mark}
use Rattle.editor.specs.Ledger.{squeeze}
use Rattle.editor.specs.Records.{Entry, text_before}
use Rattle.editor.specs.Editor as editor
use Rattle.editor.specs.Editor.{Editor, Turn, oldest, later, squeeze_to, squeeze_oldest}
use Rattle.editor.specs.Layout.{refusing, laid, call_on, outcome_of}
use Rattle.editor.proofs.Lengths.{text_from, before-from, length_from, reached-fits}
use Rattle.editor.proofs.Folded.{fits-old, fits-new, reach-new}
use Rattle.editor.proofs.Held.{Legal}
use Rattle.ledger.specs.Words.{Parted, in_words, words_of, size_of, sizes, records_in, lengths_fit, reached}
use Rattle.ledger.specs.Page.{State, text_in, records, keeps}
use Rattle.ledger.specs.Layout.{editor_of, editor_for, folded_in, space_in, page}
use Rattle.ledger.specs.Calls.{over, squeeze_of}
use Rattle.ledger.proofs.Words.{words, length-record, length-words, words_append, sizes-append, sizes-reverse}
use Rattle.ledger.proofs.Words.{records-words}
use Rattle.ledger.proofs.Marks.{weight-sizes}
use Rattle.ledger.proofs.Sound.{Sound, framed-parts}
use Rattle.ledger.proofs.Lying.{words-in}
use Rattle.ledger.proofs.Squeezed.{sound-legal}
use Rattle.answer.specs.declared.Refused.{Refused}
use Rattle.records.specs.Walking.{judge_of}
use Rattle.records.proofs.Found.{Fit, unfit}
use Rattle.splice.specs.Splice.{Filled, spliced_in}
use Rattle.splice.proofs.Splices.{filled-after}
use Rattle.squeeze.specs.declared.Fold.{Fold}
use Rattle.squeeze.specs.Tracing.{held_by, entries_in, text_since, Leads}
use Rattle.squeeze.specs.Folding.{fold_from, fold_of, Foldable, folded_to, squeezed_page}
use Rattle.squeeze.proofs.Tracing.{since-from}

or-true : (a : Bool) → (a || true) ≡ true
or-true true = refl
or-true false = refl

-- records whose words these are lead from a length to a text
module _
    (from to room n : ℕ)
    (history text : List ℕ)
    (es : List Entry)
    (tiles : words es ≡ slice from to history)
    (order : from ≤ to)
    (within : to ≤ length history)
    (small : room ≤ limit)
    (fits : lengths_fit room n es ≡ true)
    (reach : length text ≡ reached n es) where
  found : records_in (length (slice from to history)) (slice from to history) ≡ Some es
  found = rw (← tiles) (records-words (length (words es)) es (omega arith))

  pub entries-are : entries_in from to history ≡ es
  entries-are = ap held_by found

  pub since-is : text_since from to history text ≡ text_from es text
  since-is = since-from from to history text ∙ ap (λ (l : List Entry). text_from l text) entries-are

  pub since-long : length (text_since from to history text) ≡ n
  since-long = ap length since-is ∙ length_from room n es text fits reach

  pub leads-so : Leads from to history text
  leads-so =
      record {
        room = room;
        small = small;
        order = order;
        within = within;
        found = rw entries-are found;
        fits = rw (since-long, entries-are) fits;
        reach = rw (since-long, entries-are) (sym reach);
      }

-- a sound page whose standing records are these
module _ (s : State) (v : Parted) (h : Sound s v) (small : length s.text ≤ limit) where
  abbrev e : Editor
  e = editor_of s v

  abbrev history : List ℕ
  history = s.history

  abbrev done : ℕ
  done = s.page.done

  abbrev used : ℕ
  used = s.page.used

  abbrev opening : ℕ
  opening = s.page.opening

  abbrev room : ℕ
  room = length s.text

  ok : Legal in_words opening e
  ok = sound-legal s v h

  uses : used ≤ length history
  uses = (framed-parts s h.frame).uses

  pub used-is : sizes v.standing + sizes v.undone ≡ used
  used-is =
      omega (
        arith,
        sizes-reverse v.standing v.undone,
        length-words (reverse_aux v.standing v.undone),
        ap length h.tiles,
        length-take-le used history uses,
      )

  pub done-used : done ≤ used
  done-used = omega (arith, used-is, h.end)

  standing-long : length (words (reverse v.standing)) ≡ done
  standing-long = omega (arith, length-words (reverse v.standing), sizes-reverse v.standing [], h.end)

  standing-words : words (reverse v.standing) ≡ take done history
  standing-words =
      sym (take_at (words (reverse v.standing)) (words v.undone) done standing-long)
      ∙ ap (take done)
      (sym (words_append (reverse v.standing) v.undone)
      ∙ ap words (sym (reverse_aux-eq v.standing v.undone))
      ∙ h.tiles)
      ∙ take-take done used history done-used

  module _ (new old : List Entry) (is : v.standing ≡ new ++ old) where
    abbrev at : ℕ
    at = sizes old

    abbrev between : ℕ
    between = reached opening (reverse old)

    in_order : reverse v.standing ≡ reverse old ++ reverse new
    in_order = ap reverse is ∙ reverse-append new old

    at_done : at ≤ done
    at_done = omega (arith, h.end, ap sizes is, sizes-append new old)

    old-long : length (words (reverse old)) ≡ at
    old-long = omega (arith, length-words (reverse old), sizes-reverse old [])

    new-words : words (reverse new) ≡ slice at done history
    new-words =
        sym (drop_at (words (reverse old)) (words (reverse new)) at old-long)
        ∙ ap (drop at)
        (sym (words_append (reverse old) (reverse new)) ∙ ap words (sym in_order) ∙ standing-words)

    fits_all : lengths_fit room opening (reverse v.standing) ≡ true
    unfolding reached
    fits_all = fits-new in_words opening e ok v.standing [] (sym (append-nil v.standing))

    reach-all : length (text_in s) ≡ reached opening (reverse v.standing)
    reach-all = sym ok.reach

    within : done ≤ length history
    within = omega (arith, done-used, uses)

    pub entries-standing : entries_in 0 done history ≡ reverse v.standing
    entries-standing =
        entries-are 0 done room opening history (text_in s) (reverse v.standing) standing-words (omega arith) within
        small fits_all reach-all

    abbrev fold : Fold
    fold = record { at = at; len = between; count = length old }

    abbrev one : Entry
    one = record { place = 0; removed = text_before v.standing (text_in s); added = text_before new (text_in s) }

    fits-later : lengths_fit room between (reverse new) ≡ true
    fits-later = fits-new in_words opening e ok new old is

    reach-later : length (text_in s) ≡ reached between (reverse new)
    reach-later = reach-new in_words opening e ok new old is

    pub foldable : Foldable opening fold done history (text_in s)
    foldable =
        let low : between ≤ room =
        reached-fits room opening (reverse old) ok.opens (fits-old in_words opening e ok new old is) in
        record {
          all =
              leads-so 0 done room opening history (text_in s) (reverse v.standing) standing-words (omega arith)
              within small fits_all reach-all;
          opens =
              sym
              (since-long 0 done room opening history (text_in s) (reverse v.standing) standing-words (omega arith)
              within small fits_all reach-all);
          later =
              leads-so at done room between history (text_in s) (reverse new) new-words at_done within small fits-later
              reach-later;
          long =
              sym
              (since-long at done room between history (text_in s) (reverse new) new-words at_done within small
              fits-later reach-later);
          small = (omega (arith, ok.opens), omega arith);
        }

    pub fold_is : fold_of at done history (text_in s) ≡ one
    fold_is =
        let removed : text_since 0 done history (text_in s) ≡ text_before v.standing (text_in s) =
        since-is 0 done room opening history (text_in s) (reverse v.standing) standing-words (omega arith) within
        small fits_all reach-all
        ∙ sym (before-from v.standing (text_in s)) in
        let added : text_since at done history (text_in s) ≡ text_before new (text_in s) =
        since-is at done room between history (text_in s) (reverse new) new-words at_done within small fits-later
        reach-later
        ∙ sym (before-from new (text_in s)) in
        λ i. record { place = 0; removed = removed i; added = added i }

    -- what the walk over the first of them finds
    pub oldest-found : fold_from 0 opening 0 (take (length old) (entries_in 0 done history)) ≡ fold
    oldest-found =
        let first : take (length old) (entries_in 0 done history) ≡ reverse old =
        rw (entries-standing, in_order) (take_at (reverse old) (reverse new) (length old) (length-reverse old)) in
        let words : 0 + sizes (reverse old) ≡ at = omega (arith, sizes-reverse old []) in
        let many : 0 + length (reverse old) ≡ length old = omega (arith, length-reverse old) in
        ap (fold_from 0 opening 0) first ∙ (λ i. record { at = words i; len = between; count = many i })

    -- the editor's turn, laid out
    module _ (work : List ℕ) where
      laid-two :
          (t u : Bool) (a b c : Turn) →
          laid page s (cond t a (cond u b c)) ≡ cond t (laid page s a) (cond u (laid page s b) (laid page s c))
      laid-two true u a b c = refl
      laid-two false true a b c = refl
      laid-two false false a b c = refl

      turn_is : laid page s (squeeze_to in_words (space_in s) e work new old one) ≡ folded_to s work at one
      unfolding squeeze_to
      turn_is =
          let size : length (words_of one) ≡ size_of one = length-record one in
          let left : sizes new + size_of one + sizes v.undone ≡ used - at + size_of one =
          omega (arith, used-is, ap sizes is, sizes-append new old) in
          let all : sizes (new ++ one ∷ []) ≡ sizes new + size_of one = omega (arith, sizes-append new (one ∷ [])) in
          laid-two (leb (editor.words_in (space_in s) old) (length (words_of one)))
          (ltb (length work) (length (words_of one))) (editor.refused e work (numbered 19 0))
          (editor.refused e work (numbered 9 (length (words_of one))))
          (editor.folding in_words (space_in s) e work new old one)
          ∙ rw (
            words-in s old,
            words-in s (new ++ one ∷ []),
            words-in s v.undone,
            size,
            all,
            left,
            weight-sizes old,
          )

-- what the code finds of a fold, and what the squeeze then comes to
pub record Squeezes (s : State) (k : ℕ) (work : List ℕ) (fold : Fold) : Type 0 where
  pub folds : Foldable s.page.opening fold s.page.done s.history (text_in s)
  pub part : fold.at ≤ s.page.done
  pub outcome :
      squeeze_of s k work ≡ folded_to s work fold.at (fold_of fold.at s.page.done s.history (text_in s))

module _
    (s : State)
    (v : Parted)
    (h : Sound s v)
    (short : (over s.text || over s.history) ≡ false)
    (found : records s ≡ Some v)
    (small : length s.text ≤ limit)
    (k : ℕ)
    (work : List ℕ) where
  abbrev standing : List Entry
  standing = v.standing

  sound-outcome : squeeze_of s k work ≡ laid page s (squeeze_oldest in_words (space_in s) (editor_of s v) k work)
  unfolding outcome_of call_on
  sound-outcome = rw (short, found)

  -- 11
  pub too_few : (ltb k 2 || ltb (length standing) k) ≡ true → squeeze_of s k work ≡ refusing s work (numbered 11 0)
  unfolding squeeze_oldest
  too_few t = sound-outcome ∙ rw t

  pub leads-standing : Leads 0 s.page.done s.history (text_in s)
  leads-standing = (foldable s v h small standing [] (sym (append-nil standing))).all

  pub opens-standing : s.page.opening ≡ length (text_since 0 s.page.done s.history (text_in s))
  opens-standing = (foldable s v h small standing [] (sym (append-nil standing))).opens

  module _
      (fold : Fold)
      (r : fold ≡ fold_from 0 s.page.opening 0 (take k (entries_in 0 s.page.done s.history))) where
    count-is : fold.count ≡ length (take k (reverse standing))
    count-is =
        ap (λ (f : Fold). f.count) r
        ∙ zero-add _
        ∙ ap (λ (es : List Entry). length (take k es))
        (entries-standing s v h small standing [] (sym (append-nil standing)))

    pub over-standing : fold.count < k → (ltb k 2 || ltb (length standing) k) ≡ true
    over-standing few =
        let less : length standing < k =
        omega (arith, count-is, length-take k (reverse standing), length-reverse standing) in
        rw (lt-ltb (length standing) k less) (or-true (ltb k 2))

    pub squeezes : 2 ≤ k → k ≤ fold.count → Squeezes s k work fold
    unfolding squeeze_oldest
    squeezes two enough =
        let within : k ≤ length standing =
        omega (arith, count-is, length-take k (reverse standing), length-reverse standing) in
        let new : List Entry = later k standing in
        let old : List Entry = oldest k standing in
        let is : standing ≡ new ++ old = sym (take-append-drop (length standing - k) standing) in
        let many : k ≡ length old = simp length-drop (omega arith) in
        let len : ℕ = reached s.page.opening (reverse old) in
        let here : fold ≡ record { at = sizes old; len = len; count = length old } =
        r
        ∙ ap (λ (n : ℕ). fold_from 0 s.page.opening 0 (take n (entries_in 0 s.page.done s.history))) many
        ∙ oldest-found s v h small new old is in
        rw here
        (record {
          folds = foldable s v h small new old is;
          part = at_done s v h small new old is;
          outcome =
              sound-outcome
              ∙ rw (le-ltb k 2 two, le-ltb (length standing) k within) (turn_is s v h small new old is work)
              ∙ ap (folded_to s work (sizes old)) (sym (fold_is s v h small new old is));
        })

-- 19, 9, and what an accepted squeeze leaves
module _
    (s : State)
    (work : List ℕ)
    (fold : Fold)
    (f : Foldable s.page.opening fold s.page.done s.history (text_in s)) where
  abbrev x : Entry
  x = fold_of fold.at s.page.done s.history (text_in s)

  abbrev size : ℕ
  size = 3 + s.page.opening + fold.len

  size_is : size_of x ≡ size
  size_is = omega (arith, f.opens, f.long)

  pub no-gain : fold.at ≤ size → folded_to s work fold.at x ≡ refusing s work (numbered 19 0)
  no-gain h = rw (size_is, le-leb fold.at size h)

  module _ (gain : size < fold.at) where
    pub no_room : length work < size → folded_to s work fold.at x ≡ refusing s work (numbered 9 size)
    no_room h = rw (size_is, lt-leb fold.at size gain, lt-ltb (length work) size h)

    module _
        (room : size ≤ length work)
        (part : fold.at ≤ s.page.done)
        (stands : s.page.done ≤ s.page.used)
        (blank : Filled s.page.used s.history)
        (w h : List ℕ)
        (w-is : w ≡ filled (words_of x) work)
        (h-is : h ≡ spliced_in s.page.used 0 fold.at (take size w) s.history) where
      put_first : take size w ≡ words_of x
      put_first =
          ap (take size) w-is ∙ take_at (words_of x) (drop (length (words_of x)) work) size (length-record x ∙ size_is)

      history-is : h ≡ (folded_in s (folded_mark fold.at size s.page.saved) fold.at x).history
      history-is =
          let long : length (words_of x) ≡ size = length-record x ∙ size_is in
          h-is
          ∙ ap (λ (cells : List ℕ). spliced_in s.page.used 0 fold.at cells s.history) put_first
          ∙ filled-after s.history (words_of x) s.page.used 0 fold.at (omega arith) blank.fits
          (omega (arith, long, blank.fits)) blank
          ∙ rw (zero-add fold.at)

      pub squeezed-so : keeps (squeezed_page s.page fold.at size) s.text h w ≡ folded_to s work fold.at x
      squeezed-so =
          rw (size_is, lt-leb fold.at size gain, le-ltb (length work) size room, w-is, history-is)

-- 16 and 14
pub squeeze-unfit :
    (s : State) (k : ℕ) (work : List ℕ) {j : Answer} {a : Refused} → j ≡ judge_of s → j ≡ Err a →
    squeeze_of s k work ≡ refusing s work (in_numbers (Err a))
unfolding outcome_of call_on
squeeze-unfit s k work {j} {a} d e =
    unfit s a (refusing s work) (λ x. call_on page s (squeeze k work) (editor_for s x)) refl d e

pub history-filled : {s : State} {last : ℕ} → Fit s last → Filled s.page.used s.history
history-filled {s} f = record { fits = f.frame.uses; blank = (framed-parts s f.sound.frame).unused }
