-- What an accepted open finds and leaves, and that a refused one changes nothing. Assumes nothing.
use Prim.Native.Nat.{ℕ, ◌≤◌}
use mathlib.Core.Path.{◌≡◌, refl, sym}
use mathlib.Core.Bool.{true, false, ◌||◌, false≢true}
use mathlib.Core.List.{List, []}
use native.Mathlib.Omega.{arith}
use native.Mathlib.Nat.{sub-zero}
use lib.ListN.{length}
use lib.Dec.{ltb}
use borrow.Author.Tests.{ltb-false, eqb-true}
use Rattle.answer.specs.Answer.{Verdict, limit, too_long}
use Rattle.std.specs.Prelude.{Some}
use Rattle.answer.proofs.Below.{cond-case}
use Rattle.reading.specs.Reading.{Ending, accepted, fault}
use Rattle.reading.proofs.Laws.{SoundEnd}
use Rattle.codec.specs.declared.Kind.{Kind}
use Rattle.codec.specs.Kinds.{reading_in, reads_as}
use Rattle.codec.proofs.ByKind.{fault-numbered, reads-itself}
use Rattle.editor.specs.Ledger.{Step, opened}
use Rattle.editor.specs.Layout.{refusing, taken}
use Rattle.editor.specs.Demand.{Unchanged}
use Rattle.editor.proofs.Steps.{or_parts}
use Rattle.editor.proofs.Marks.{ends-zero}
use Rattle.editor.proofs.Held.{Frame, editor_of, Held, same, legal}
use Rattle.editor.proofs.Promises.{Kept, kept}
use Rattle.ledger.specs.Words.{in_words}
use Rattle.ledger.specs.Page.{state_of, Outcome}
use Rattle.ledger.specs.Calls.{over, no_page, opened_on, open_read, open_of}
use Rattle.ledger.specs.Demand.{OpenRefused}
use Rattle.ledger.proofs.Lying.{page-lays}

module _ (kind : Kind) (arrived text history : List ℕ) where
  -- what an accepted open has found, and leaves
  pub record Opened (r : Outcome) : Type 0 where
    pub is : r ≡ opened_on kind (reading_in kind arrived).cells text history
    pub few : length arrived ≤ limit
    pub small-text : length text ≤ limit
    pub small-history : length history ≤ limit
    pub fits : length (reading_in kind arrived).cells ≤ length text
    pub reads : reads_as kind arrived (reading_in kind arrived).cells ≡ true

  abbrev Opens : Outcome → Type 0
  Opens r = taken r ≡ true → Opened r

  open-read :
      length arrived ≤ limit → length text ≤ limit → length history ≤ limit → (e : Ending) →
      (reading_in kind arrived).ending ≡ e → SoundEnd e →
      Opens (open_read kind text history e (reading_in kind arrived).cells)
  unfolding open_read
  open-read a t h accepted e n =
      cond-case Opens (ltb (length text) (length (reading_in kind arrived).cells)) (λ _ ok. absurd (false≢true ok))
      (λ q _.
      record {
        is = refl;
        few = a;
        small-text = t;
        small-history = h;
        fits = ltb-false _ _ q;
        reads = reads-itself kind arrived e;
      })
  open-read a t h (fault k place) e n = λ ok. absurd (omega (arith, n, eqb-true k 0 ok))

  pub open-opened : Opens (open_of kind arrived text history)
  unfolding open_of
  open-opened =
      cond-case Opens (over arrived || (over text || over history)) (λ _ ok. absurd (false≢true ok))
      (λ q.
      let p = or_parts (over arrived) (over text || over history) q in
      let r = or_parts (over text) (over history) p.1 in
      open-read (ltb-false limit (length arrived) p.0) (ltb-false limit (length text) r.0)
      (ltb-false limit (length history) r.1)
      (reading_in kind arrived).ending refl (fault-numbered kind arrived))

  -- the editor that it leaves is the one of the ledger at first, whatever its steps will count for
  abbrev pub frame_at : Frame arrived
  frame_at = record { kind = kind; reading = (reading_in kind arrived).cells; room = length text; mark = Some 0 }

  pub held-opened :
      {r : Outcome} → Opened r → (weigh : Step → ℕ) → Held weigh arrived (editor_of frame_at [] []) (opened kind arrived)
  held-opened o weigh =
      same weigh frame_at [] []
      (record { fits = o.fits; few = o.few; reads = o.reads; marked = ends-zero weigh [] })

  begun_opened : {r : Outcome} → Opened r → Kept page-lays arrived r.state (opened kind arrived)
  begun_opened o =
      rw o.is
      (kept page-lays
      (record {
        space = length history;
        state = rw sub-zero;
        few = omega arith;
        small-text = o.small-text;
        small-history = o.small-history;
        legal = legal in_words (held-opened o in_words);
      })
      (held-opened o in_words))

  -- an accepted open leaves the page of the ledger at first
  pub begun :
      taken (open_of kind arrived text history) ≡ true →
      Kept page-lays arrived (open_of kind arrived text history).state (opened kind arrived)
  begun ok = begun_opened (open-opened ok)

  -- "16 comes first"
  pub open-long :
      (over arrived || (over text || over history)) ≡ true →
      open_of kind arrived text history ≡ refusing (state_of (no_page kind) text history) [] too_long
  unfolding open_of
  open-long long = rw long

  abbrev Stays : Outcome → Type 0
  Stays r = taken r ≡ false → Unchanged (state_of (no_page kind) text history) [] r

  stays : (v : Verdict) → Stays (refusing (state_of (no_page kind) text history) [] v)
  stays v _ = record { state = refl; output = refl }

  read_stays : (e : Ending) (cells : List ℕ) → Stays (open_read kind text history e cells)
  unfolding open_read
  read_stays accepted cells =
      cond-case Stays (ltb (length text) (length cells)) (λ _. stays _) (λ _ q. absurd (false≢true (sym q)))
  read_stays (fault k place) cells = stays _

pub open-refused : OpenRefused
unfolding open_of
open-refused kind arrived text history =
    cond-case (Stays kind arrived text history) (over arrived || (over text || over history))
    (λ _. stays kind arrived text history _)
    (λ _. read_stays kind arrived text history (reading_in kind arrived).ending (reading_in kind arrived).cells)
