-- Soundness in two parts is the documents': the code may compute either. Assumes nothing.
use Prim.Native.Nat.{ℕ, ◌+◌, ◌-◌, ◌≤◌}
use mathlib.Core.Path.{◌≡◌, refl, sym, ap, ◌∙◌}
use mathlib.Core.Bool.{Bool, true, ◌&&◌}
use mathlib.Core.List.{List, [], ◌++◌, reverse_aux, reverse, reverse_aux-eq, reverse-reverse}
use Rattle.std.specs.Prelude.{Option, None, Some}
use native.Mathlib.Omega.{arith}
use lib.ListN.{length, take, drop, length-append, length-take}
use lib.Seq.{take_at, drop_at, take-add, length-take-le}
use lib.Dec.{leb, eqb}
use borrow.Author.Tests.{le-leb, leb-true, eq-eqb, eqb-true}
use Rattle.answer.proofs.Below.{both, cond-case}
use Rattle.ledger.specs.Words.{Entry, Parted, sizes, records_in, lengths_fit, reached, zeros}
use Rattle.ledger.specs.Page.{State, framed, records}
use Rattle.ledger.specs.Parts.{joined, mark_within, cut_in, ends, ending_at, bounded, standing_in, undone_in, records_twice}
use Rattle.ledger.proofs.Words.{Whole, words, length-words, words_append, sizes-reverse, records-words, exact, lengths-append}
use Rattle.ledger.proofs.Marks.{mark-parts}
use Rattle.ledger.proofs.Sound.{Sound, sound-records, records-sound}

-- two options that hold exactly what has a property are one
pub same-options :
    {A : Type 0} (P : A → Type 0) (x y : Option A) → Whole P x → Whole P y → ((v : A) → P v → x ≡ Some v) → ((v : A) → P v → y ≡ Some v) → x ≡ y
same-options P None None p q f g = refl
same-options P None (Some v) p q f g = f v q
same-options P (Some v) y p q f g = sym (g v p)

-- a list cut in two ways at one length
cut : (p q r t : List ℕ) → p ++ q ≡ r ++ t → length p ≡ length r → (p ≡ r) × (q ≡ t)
cut p q r t e h = (
  sym (take_at p q (length r) h) ∙ ap (take (length r)) e ∙ take_at r t (length r) refl,
  sym (drop_at p q (length r) h) ∙ ap (drop (length r)) e ∙ drop_at r t (length r) refl,
)

third : (a b c d e : Bool) → (a && b && c && d && e) ≡ true → c ≡ true
third a b c d e t = (both (a && b) c (both (a && b && c) d (both (a && b && c && d) e t).0).0).1

module _ (s : State) where
  abbrev used : ℕ
  used = s.page.used

  abbrev done : ℕ
  done = s.page.done

  -- the words before done, and those from done to used
  abbrev front : List ℕ
  front = take done s.history

  abbrev rest : List ℕ
  rest = take (used - done) (drop done s.history)

  abbrev fit : ℕ → List Entry → Bool
  fit n es = lengths_fit (length s.text) n es

  abbrev end : List Entry → ℕ
  end es = reached s.page.opening es

  -- where the mark cuts each of them
  abbrev cut₁ : ℕ
  cut₁ = cut_in s.page.saved 0 done

  abbrev cut₂ : ℕ
  cut₂ = cut_in s.page.saved done used - done

  used-words : done ≤ used → take used s.history ≡ front ++ rest
  used-words h =
      let n : done + (used - done) ≡ used = omega arith in
      rw n at (take-add done (used - done) s.history)

  used-fits : framed s ≡ true → used ≤ length s.history
  unfolding framed
  used-fits f =
      leb-true used (length s.history)
      (third (leb s.page.opening (length s.text)) (leb s.page.length (length s.text)) (leb used (length s.history))
      (zeros (drop s.page.length s.text)) (zeros (drop used s.history)) f)

  sound-twice : (v : Parted) → Sound s v → records_twice s ≡ Some v
  unfolding records_twice joined
  sound-twice v h =
      let es : List Entry = reverse v.standing in
      let fs : List Entry = v.undone in
      let all : reverse_aux v.standing fs ≡ es ++ fs = reverse_aux-eq v.standing fs in
      let tiles : words es ++ words fs ≡ take used s.history = sym (words_append es fs) ∙ rw all at h.tiles in
      let first : length (words es) ≡ done = omega (arith, length-words es, sizes-reverse v.standing [], h.end) in
      let both_long : done + length (words fs) ≡ length (take used s.history) = omega (arith, simp length-append at (ap length tiles)) in
      let few = length-take used s.history in
      let below : done ≤ used = omega arith in
      let second : length (words fs) ≤ used - done = omega arith in
      let parts = cut (words es) (words fs) front rest (tiles ∙ used-words below) (omega (arith, length-take-le done s.history (omega arith))) in
      let fits = both (fit s.page.opening es) (fit (end es) fs) (rw (all, lengths-append) at h.fits) in
      let long : length (take used s.history) ≡ used = length-take-le used s.history (used-fits h.frame) in
      let marks =
      mark-parts es fs done used (omega (arith, length-words es)) (omega (arith, length-words fs)) s.page.saved in
      let tests = both (mark_within used s.page.saved && ends es cut₁) (ends fs cut₂) (sym marks ∙ rw all at h.mark) in
      let firsts = both (mark_within used s.page.saved) (ends es cut₁) tests.0 in
      rw (
        h.frame,
        le-leb done used below,
        firsts.0,
        ← parts.0,
        ← parts.1,
        records-words done es (omega arith),
        records-words (used - done) fs second,
        firsts.1,
        tests.1,
        fits.0,
        eq-eqb (end es) s.page.length h.reach,
        ← h.reach,
        fits.1,
        reverse-reverse v.standing,
      )

  -- records that tile some words, with an end at a word of them
  abbrev Ending : List ℕ → ℕ → List Entry → Type 0
  Ending ws n es = (words es ≡ ws) × (ends es n ≡ true)

  ending : (ws : List ℕ) (n : ℕ) (x : Option (List Entry)) → Whole (λ es. words es ≡ ws) x → Whole (Ending ws n) (ending_at n x)
  ending ws n None p = tt
  ending ws n (Some es) p = cond-case (Whole (Ending ws n)) (ends es n) (λ t. (p, t)) (λ _. tt)

  module _ (f : framed s ≡ true) (d : done ≤ used) (m : mark_within used s.page.saved ≡ true) where
    joined-sound :
        (x y : Option (List Entry)) → Whole (Ending front cut₁) x → Whole (Ending rest cut₂) y →
        Whole (Sound s) (joined s x y)
    unfolding joined
    joined-sound None y p q = tt
    joined-sound (Some es) None p q = tt
    joined-sound (Some es) (Some fs) p q =
        let all : reverse_aux (reverse es) fs ≡ es ++ fs = reverse_aux-eq (reverse es) fs ∙ rw reverse-reverse in
        let tiles : words (es ++ fs) ≡ take used s.history = words_append es fs ∙ rw (p.0, q.0) (sym (used-words d)) in
        let first : length front ≡ done = length-take-le done s.history (omega (arith, used-fits f)) in
        let long : length (take used s.history) ≡ used = length-take-le used s.history (used-fits f) in
        let size : sizes es ≡ done = omega (arith, length-words es, ap length p.0) in
        let size₂ : done + sizes fs ≡ used =
        omega (arith, length-words fs, ap length (sym (words_append es fs) ∙ tiles), length-append (words es) (words fs), length-words es) in
        cond-case (Whole (Sound s)) (fit s.page.opening es && eqb (end es) s.page.length && fit s.page.length fs)
        (λ t.
        let a = both (fit s.page.opening es && eqb (end es) s.page.length) (fit s.page.length fs) t in
        let b = both (fit s.page.opening es) (eqb (end es) s.page.length) a.0 in
        let reach : end es ≡ s.page.length = eqb-true (end es) s.page.length b.1 in
        record {
          frame = f;
          tiles = rw all tiles;
          end = omega (arith, sizes-reverse es []);
          fits = rw (all, lengths-append, b.0, reach) a.1;
          reach = rw reverse-reverse reach;
          mark = rw (all, mark-parts es fs done used size size₂ s.page.saved, m, p.1, q.1);
        })
        (λ _. tt)

  twice-sound : Whole (Sound s) (records_twice s)
  unfolding records_twice
  twice-sound =
      cond-case (Whole (Sound s)) (bounded s)
      (λ t.
      let a = both (framed s && leb done used) (mark_within used s.page.saved) t in
      let b = both (framed s) (leb done used) a.0 in
      joined-sound b.0 (leb-true done used b.1) a.1 (standing_in s) (undone_in s)
      (ending front cut₁ (records_in done front) (exact done front))
      (ending rest cut₂ (records_in (used - done) rest) (exact (used - done) rest)))
      (λ _. tt)

  pub two-parts : records s ≡ records_twice s
  two-parts = same-options (Sound s) (records s) (records_twice s) (records-sound s) twice-sound (sound-records s) sound-twice
