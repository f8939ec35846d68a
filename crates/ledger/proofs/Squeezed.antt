-- A sound page, made by hand or not, is sound after a squeeze. Assumes nothing.
use Prim.Native.Nat.{ℕ, ◌-◌, ◌≤◌}
use mathlib.Core.Path.{◌≡◌, refl, sym, ap, ◌∙◌}
use mathlib.Core.Bool.{true, false, ◌||◌, false≢true}
use mathlib.Core.List.{List, ◌++◌}
use Rattle.std.specs.Prelude.{Option, None, Some}
use native.Mathlib.Omega.{arith}
use lib.ListN.{length, take, drop, replicate, length-drop, take-append-drop}
use lib.Seq.{length-take-le}
use borrow.Author.Tests.{ltb-false}
use Rattle.answer.specs.Answer.{limit}
use Rattle.editor.specs.Ledger.{squeeze}
use Rattle.editor.specs.Editor.{Editor, over}
use Rattle.editor.proofs.Steps.{or_parts}
use Rattle.editor.proofs.Ends as editor
use Rattle.editor.proofs.Held.{Legal}
use Rattle.editor.proofs.Promises.{squeezed-lies}
use Rattle.ledger.specs.Words.{Parted, in_words, zeros, pad}
use Rattle.ledger.specs.Page.{State, state_of, text_in, records, found, sound}
use Rattle.ledger.specs.Layout.{editor_of, editor_for, page}
use Rattle.ledger.specs.Calls.{squeeze_of}
use Rattle.ledger.specs.Demand.{SqueezeSound}
use Rattle.ledger.proofs.Words.{Whole, words, zeros-are}
use Rattle.ledger.proofs.Marks.{by-test}
use Rattle.ledger.proofs.Sound.{Framed, framed-parts, Sound, records-sound}
use Rattle.ledger.proofs.Lying.{Lies, page_of, page-lays}

-- a buffer that is all 0 past some elements
padded : (n : ℕ) (l : List ℕ) → n ≤ length l → zeros (drop n l) ≡ true → l ≡ pad (length l) (take n l)
padded n l h z =
    let rest : length (drop n l) ≡ length l - length (take n l) =
    simp length-drop (omega (arith, length-take-le n l h)) in
    sym (take-append-drop n l)
    ∙ ap (◌++◌ (take n l)) (zeros-are (drop n l) z ∙ ap (λ (k : ℕ). replicate k 0) rest)

module _ (s : State) where
  module _ (v : Parted) (h : Sound s v) where
    frame : Framed s
    frame = framed-parts s h.frame

    length-text : length (text_in s) ≡ s.page.length
    length-text = length-take-le s.page.length s.text frame.fits

    pub sound-legal : Legal in_words s.page.opening (editor_of s v)
    sound-legal =
        record {
          opens = frame.opens;
          room = omega (arith, length-text, frame.fits);
          fits = h.fits;
          reach = h.reach ∙ sym length-text;
          marked = h.mark;
        }

    length-used : length (take s.page.used s.history) ≡ s.page.used
    length-used = length-take-le s.page.used s.history frame.uses

    sound-state : s ≡ page_of s.page.opening (length s.history) (editor_of s v)
    sound-state =
        let text : s.text ≡ pad (length s.text) (text_in s) =
        padded s.page.length s.text frame.fits frame.blank in
        let history : s.history ≡ pad (length s.history) (words (editor.entries (editor_of s v))) =
        rw h.tiles (padded s.page.used s.history frame.uses frame.unused) in
        let used : s.page.used ≡ length (words (editor.entries (editor_of s v))) =
        sym length-used ∙ ap length (sym h.tiles) in
        λ i.
        state_of
        (record {
          kind = s.page.kind;
          opening = s.page.opening;
          length = sym length-text i;
          used = used i;
          done = sym h.end i;
          saved = s.page.saved;
        })
        (text i) (history i)

    pub sound-lies : (over s.text || over s.history) ≡ false → Lies s.page.opening s (editor_of s v)
    sound-lies short =
        let p = or_parts (over s.text) (over s.history) short in
        record {
          space = length s.history;
          state = sound-state;
          few = rw h.tiles (omega (arith, length-used, frame.uses));
          small-text = ltb-false limit (length s.text) p.0;
          small-history = ltb-false limit (length s.history) p.1;
          legal = sound-legal;
        }

  -- what is found of a page, and what is left of it
  abbrev Left : ℕ → List ℕ → Option Parted → Type 0
  Left k work x = found x ≡ true → sound (squeeze_of s k work).state ≡ true

  -- an editor is found exactly where records are
  editor-found : (s : State) (e : Editor) (x : Option Parted) → editor_for s x ≡ Some e → found x ≡ true
  editor-found s e None p = let z : ◌≡◌ {A = ℕ} 0 1 = cc in absurd (omega arith)
  editor-found s e (Some v) p = refl

  found_left :
      (k : ℕ) (work : List ℕ) → (over s.text || over s.history) ≡ false → (x : Option Parted) →
      Whole (Sound s) x → Left k work x
  found_left k work short None w f = absurd (false≢true f)
  found_left k work short (Some v) w f =
      editor-found (squeeze_of s k work).state _ (records (squeeze_of s k work).state)
      (page-lays.sees (squeezed-lies page-lays (sound-lies v w short) (sound-legal v w) k work))

pub squeeze-sound : SqueezeSound
squeeze-sound s k work =
    by-test (over s.text || over s.history)
    (λ long. rw (editor.buffer-long page s (squeeze k work) long) (λ f. f))
    (λ short. found_left s k work short (records s) (records-sound s))
