-- An accepted open of both leaves, at each bench, the editor of the ledger at first; a refused one changes nothing.
-- Assumes nothing.
use Prim.Native.Nat.{ℕ}
use mathlib.Core.Path.{◌≡◌, refl, sym, ap, ◌∙◌}
use mathlib.Core.Bool.{true, false, false≢true}
use mathlib.Core.List.{List, []}
use native.Mathlib.Omega.{arith}
use native.Mathlib.Nat.{sub-zero}
use lib.ListN.{length}
use Rattle.answer.proofs.Below.{cond-case}
use Rattle.codec.specs.declared.Kind.{Kind}
use Rattle.codec.specs.Kinds.{reading_in}
use Rattle.editor.specs.Ledger.{opened}
use Rattle.editor.specs.Editor.{Editor}
use Rattle.editor.specs.Layout.{taken}
use Rattle.editor.specs.Demand.{Unchanged}
use Rattle.editor.proofs.Held.{editor_of, Held, legal}
use Rattle.ledger.specs.Page as page
use Rattle.ledger.specs.Calls as pages
use Rattle.ledger.proofs.Opens as opening
use Rattle.benches.specs.Words.{Side, first, second, Both, at, own, in_steps}
use Rattle.benches.specs.Benches.{Outcome}
use Rattle.benches.specs.Calls.{bench_opened, not_opened, opened_both, open_of}
use Rattle.benches.specs.Demand.{OpenRefused}
use Rattle.benches.proofs.Words.{other}
use Rattle.benches.proofs.Lying.{LiesAt, Lying}

module _ (kinds : Both Kind) (arrived texts : Both (List ℕ)) (history : List ℕ) where
  abbrev page_at : Side → page.Outcome
  page_at s = pages.open_of (at kinds s) (at arrived s) (at texts s) history

  abbrev OpenedAt : Side → Type 0
  OpenedAt s = opening.Opened (at kinds s) (at arrived s) (at texts s) history (page_at s)

  -- both texts are opened
  pub record BothOpened (r : Outcome) : Type 0 where
    pub is : r ≡ opened_both (page_at first) (page_at second)
    pub each : (s : Side) → OpenedAt s

  each-opened : taken (page_at first) ≡ true → taken (page_at second) ≡ true → (s : Side) → OpenedAt s
  each-opened p q first = opening.open-opened (at kinds first) (at arrived first) (at texts first) history p
  each-opened p q second = opening.open-opened (at kinds second) (at arrived second) (at texts second) history q

  abbrev Opens : Outcome → Type 0
  Opens r = taken r ≡ true → BothOpened r

  pub both-opened : Opens (open_of kinds arrived texts history)
  unfolding open_of
  both-opened =
      cond-case Opens (taken (page_at first))
      (λ p. cond-case Opens (taken (page_at second)) (λ q _. record { is = refl; each = each-opened p q })
      (λ q ok. absurd (false≢true (sym q ∙ ok)))) (λ q ok. absurd (false≢true (sym q ∙ ok)))

  -- the editor of a bench at first
  abbrev pub editor_at : Side → Editor
  editor_at s = editor_of (opening.frame_at (at kinds s) (at arrived s) (at texts s) history) [] []

  module _ (b : BothOpened (open_of kinds arrived texts history)) where
    pub held_at : (s : Side) → Held in_steps (at arrived s) (editor_at s) (opened (at kinds s) (at arrived s))
    held_at s = opening.held-opened (at kinds s) (at arrived s) (at texts s) history (b.each s) in_steps

    abbrev reading_at : Side → ℕ
    reading_at s = length (reading_in (at kinds s) (at arrived s)).cells

    lies-opened :
        (s : Side) →
        LiesAt (reading_at s) (bench_opened (page_at s).state) (page_at s).state.text (own s []) (editor_at s)
    unfolding own
    lies-opened s =
        rw (b.each s).is
        (record {
          is = refl;
          laid = refl;
          mine = refl;
          small = (b.each s).small-text;
          legal = legal in_steps (held_at s);
        })

    lies_at :
        (s : Side) →
        LiesAt (reading_at s) (at (opened_both (page_at first) (page_at second)).state.benches s)
        (at (opened_both (page_at first) (page_at second)).state.texts s) (own s []) (editor_at s)
    lies_at first = lies-opened first
    lies_at second = lies-opened second

    pub lying-opened :
        (s : Side) →
        Lying s (reading_at (other s)) (editor_at (other s)) (reading_at s) (open_of kinds arrived texts history).state
        (editor_at s)
    lying-opened s =
        rw b.is
        (record {
          rs = [];
          space = length history;
          used = refl;
          history = ap (λ (o : page.Outcome). o.state.history) (b.each first).is ∙ rw sub-zero;
          few = omega arith;
          small = (b.each first).small-history;
          here = lies_at s;
          there = lies_at (other s);
        })

pub open-refused : OpenRefused
unfolding open_of
open-refused kinds arrived texts history =
    let Stays : Outcome → Type 0 = λ r. taken r ≡ false → Unchanged (not_opened kinds texts history) [] r in
    cond-case Stays (taken (page_at kinds arrived texts history first))
    (λ _. cond-case Stays (taken (page_at kinds arrived texts history second)) (λ _ q. absurd (false≢true (sym q)))
    (λ _ _. record { state = refl; output = refl }))
    (λ _ _. record { state = refl; output = refl })
