-- A page's records are found exactly when they meet the parts of soundness that document 01 lists. Assumes nothing.
use Prim.Native.Nat.{◌≤◌}
use mathlib.Core.Path.{◌≡◌, ◌∙◌}
use mathlib.Core.Bool.{Bool, true, ◌&&◌}
use mathlib.Core.List.{List, [], map, reverse_aux, reverse}
use Rattle.std.specs.Prelude.{Option, None, Some}
use native.Mathlib.Nat.{add-zero}
use native.Mathlib.Omega.{arith}
use lib.ListN.{length, take, drop, length-take}
use lib.Dec.{leb, eqb}
use borrow.Author.Tests.{leb-true, eq-eqb, eqb-true}
use Rattle.answer.proofs.Below.{both, cond-case}
use Rattle.editor.specs.Records.{step_of, mark_fits}
use Rattle.ledger.specs.Words.{Entry, Parted, in_words, records_in, lengths_fit, reached, part_at, zeros}
use Rattle.ledger.specs.Page.{State, framed, reached_at_done, fitting, records}
use Rattle.ledger.proofs.Words.{Whole, words, sizes, records-words, exact, PartedAs, parted-at, parted-here, parted-whole}

-- the tests of the frame: lengths that fit their buffers, and 0 past the ends
pub record Framed (s : State) : Type 0 where
  pub opens : s.page.opening ≤ length s.text
  pub fits : s.page.length ≤ length s.text
  pub uses : s.page.used ≤ length s.history
  pub blank : zeros (drop s.page.length s.text) ≡ true
  pub unused : zeros (drop s.page.used s.history) ≡ true

pub framed-parts : (s : State) → framed s ≡ true → Framed s
unfolding framed
framed-parts s f =
    let a : Bool = leb s.page.opening (length s.text) in
    let b : Bool = leb s.page.length (length s.text) in
    let c : Bool = leb s.page.used (length s.history) in
    let d : Bool = zeros (drop s.page.length s.text) in
    let p = both (a && b && c && d) (zeros (drop s.page.used s.history)) f in
    let q = both (a && b && c) d p.0 in
    let r = both (a && b) c q.0 in
    let t = both a b r.0 in
    record {
      opens = leb-true s.page.opening (length s.text) t.0;
      fits = leb-true s.page.length (length s.text) t.1;
      uses = leb-true s.page.used (length s.history) r.1;
      blank = q.1;
      unused = p.1;
    }

pub record Sound (s : State) (v : Parted) : Type 0 where
  pub frame : framed s ≡ true
  pub tiles : words (reverse_aux v.standing v.undone) ≡ take s.page.used s.history
  pub end : sizes v.standing ≡ s.page.done
  pub fits : lengths_fit (length s.text) s.page.opening (reverse_aux v.standing v.undone) ≡ true
  pub reach : reached s.page.opening (reverse v.standing) ≡ s.page.length
  pub mark : mark_fits in_words s.page.saved (map step_of (reverse_aux v.standing v.undone)) ≡ true

module _ (s : State) where
  pub sound-records : (v : Parted) → Sound s v → records s ≡ Some v
  unfolding records fitting reached_at_done
  sound-records v h =
      let all : List Entry = reverse_aux v.standing v.undone in
      let few : length (words all) ≤ s.page.used = rw h.tiles (simp length-take (omega arith)) in
      let parted : part_at all s.page.done [] ≡ Some v =
      rw (← h.end, ← add-zero (sizes v.standing)) (parted-at v.standing v.undone 0 ∙ parted-here v.standing v.undone) in
      rw (
        h.frame,
        ← h.tiles,
        records-words s.page.used all few,
        h.fits,
        h.mark,
        parted,
        eq-eqb (reached s.page.opening (reverse v.standing)) s.page.length h.reach,
      )

  module _ (f : framed s ≡ true) where
    module _ (es : List Entry) (w : words es ≡ take s.page.used s.history) (l : lengths_fit (length s.text) s.page.opening es ≡ true) (m : mark_fits in_words s.page.saved (map step_of es) ≡ true) where
      reached-sound : (x : Option Parted) → Whole (PartedAs es s.page.done) x → Whole (Sound s) (reached_at_done s.page x)
      unfolding reached_at_done
      reached-sound None p = tt
      reached-sound (Some v) p =
          cond-case (Whole (Sound s)) (eqb (reached s.page.opening (reverse v.standing)) s.page.length)
          (λ t.
          record { frame = f; tiles = rw p.0 w; end = p.1; fits = rw p.0 l; reach = eqb-true _ _ t; mark = rw p.0 m })
          (λ _. tt)

    fitting-sound : (x : Option (List Entry)) → Whole (λ es. words es ≡ take s.page.used s.history) x → Whole (Sound s) (fitting s x)
    unfolding fitting
    fitting-sound None w = tt
    fitting-sound (Some es) w =
        let fits : Bool = lengths_fit (length s.text) s.page.opening es in
        let marked : Bool = mark_fits in_words s.page.saved (map step_of es) in
        cond-case (Whole (Sound s)) (fits && marked)
        (λ t.
        let b = both fits marked t in
        reached-sound es w b.0 b.1 (part_at es s.page.done []) (parted-whole es s.page.done [] s.page.done (omega arith)))
        (λ _. tt)

  pub records-sound : Whole (Sound s) (records s)
  unfolding records
  records-sound =
      cond-case (Whole (Sound s)) (framed s)
      (λ t. fitting-sound t (records_in s.page.used (take s.page.used s.history)) (exact s.page.used (take s.page.used s.history))) (λ _. tt)
