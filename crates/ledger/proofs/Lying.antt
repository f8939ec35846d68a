-- The page is a layout: an editor that lies in a page is found there, and what a call makes of it lies in the page that
-- the call leaves. Assumes nothing.
use Prim.Native.Nat.{ℕ, ◌+◌, ◌-◌, ◌≤◌, ◌<◌}
use mathlib.Core.Path.{◌≡◌, refl, sym, ap, ◌∙◌, subst}
use mathlib.Core.Bool.{true, false}
use mathlib.Core.List.{List, [], ◌∷◌, ◌++◌, reverse_aux, reverse, reverse-cons, append-nil, append_assoc}
use mathlib.Core.List.{reverse_aux-eq, reverse_aux-append}
use Rattle.std.specs.Prelude.{Some}
use native.Mathlib.Omega.{arith}
use lib.ListN.{length, take, drop, length-append}
use lib.Seq.{take_at, drop_at}
use borrow.Author.Tests.{le-leb, le-ltb}
use Rattle.answer.specs.Answer.{limit}
use Rattle.editor.specs.Marks.{Mark}
use Rattle.editor.specs.Editor.{Editor, with_text, words_in, over}
use Rattle.editor.proofs.Steps.{and-true}
use Rattle.editor.proofs.Ends.{entries}
use Rattle.editor.proofs.Held.{Legal}
use Rattle.editor.proofs.Promises.{Lays}
use Rattle.ledger.specs.Words.{Entry, words_of, in_words, size_of, sizes, pad}
use Rattle.ledger.specs.Page.{State, state_of, framed}
use Rattle.ledger.specs.Layout.{folded_in, page}
use Rattle.ledger.proofs.Words.{length-pad, take-pad, zeros-pad, words, length-words, words_append}
use Rattle.ledger.proofs.Words.{sizes-reverse, sizes-append, length-record}
use Rattle.ledger.proofs.Marks.{weight-sizes}
use Rattle.ledger.proofs.Sound.{Sound, sound-records}

-- the page with its buffers in which an editor lies, by its opening length and the length of its history
abbrev pub page_of : ℕ → ℕ → Editor → State
page_of opening space e =
    state_of
    (record {
      kind = e.kind;
      opening = opening;
      length = length e.text;
      used = length (words (entries e));
      done = sizes e.standing;
      saved = e.saved;
    })
    (pad e.room e.text) (pad space (words (entries e)))

pub record Lies (opening : ℕ) (s : State) (e : Editor) : Type 0 where
  pub space : ℕ
  pub state : s ≡ page_of opening space e
  pub few : length (words (entries e)) ≤ space
  pub small-text : e.room ≤ limit
  pub small-history : space ≤ limit
  pub legal : Legal in_words opening e

module _ (opening space : ℕ) (e : Editor) (legal : Legal in_words opening e) (few : length (words (entries e)) ≤ space) where
  abbrev here : State
  here = page_of opening space e

  length-text : length here.text ≡ e.room
  length-text = length-pad e.room e.text legal.room

  length-history : length here.history ≡ space
  length-history = length-pad space (words (entries e)) few

  framed-here : framed here ≡ true
  unfolding framed
  framed-here =
      rw (length-text, length-history)
      (and-true _ _
      (and-true _ _
      (and-true _ _ (and-true _ _ (le-leb _ _ legal.opens) (le-leb _ _ legal.room)) (le-leb _ _ few))
      (zeros-pad e.room e.text)) (zeros-pad space (words (entries e))))

  sound-here : Sound here (record { standing = e.standing; undone = e.undone })
  sound-here =
      record {
        frame = framed-here;
        tiles = sym (take-pad space (words (entries e)));
        end = refl;
        fits = rw length-text legal.fits;
        reach = legal.reach;
        mark = legal.marked;
      }

  found_here : page.editor_in here ≡ Some e
  found_here =
      rw (sound-records here (record { standing = e.standing; undone = e.undone }) sound-here)
      (λ i. Some
      (record {
        kind = e.kind;
        room = length-text i;
        text = take-pad e.room e.text i;
        standing = e.standing;
        undone = e.undone;
        saved = e.saved;
      }))

  -- undo and redo leave the history: the same records are parted elsewhere
  moved_here :
      (text : List ℕ) (standing undone : List Entry) → reverse_aux standing undone ≡ entries e →
      page.moved here (with_text e text standing undone e.saved)
      ≡ page_of opening space (with_text e text standing undone e.saved)
  moved_here text standing undone p = rw (length-text, p)

  -- replace puts its record after those that stand
  module _ (text : List ℕ) (x : Entry) (mark : Mark) where
    abbrev after : Editor
    after = with_text e text (x ∷ e.standing) [] mark

    abbrev first : List ℕ
    first = words (reverse e.standing)

    length-first : length first ≡ sizes e.standing
    length-first = omega (arith, length-words (reverse e.standing), sizes-reverse e.standing [])

    words-after : words (entries after) ≡ first ++ words_of x
    words-after = rw (reverse-cons x e.standing, words_append, append-nil)

    pub length-after : length (words (entries after)) ≡ sizes e.standing + size_of x
    length-after = rw words-after (simp length-append (omega (arith, length-first)))

    recorded-here : page.recorded here after x ≡ page_of opening space after
    recorded-here =
        let old : take (sizes e.standing) here.history ≡ first =
        rw (reverse_aux-eq e.standing e.undone, words_append, append_assoc)
        (take_at first _ (sizes e.standing) length-first) in
        rw (length-text, length-history, old, ← length-after, words-after)

  -- squeeze puts one record for the oldest ones; the others follow it
  module _ (new old : List Entry) (x : Entry) (mark : Mark) (is : e.standing ≡ new ++ old) where
    abbrev folded : Editor
    folded = with_text e e.text (new ++ x ∷ []) e.undone mark

    abbrev rest : List Entry
    rest = reverse_aux new e.undone

    words-old : words (entries e) ≡ words (reverse old) ++ words rest
    words-old =
        ap (λ (l : List Entry). words (reverse_aux l e.undone)) is
        ∙ ap words (reverse_aux-append new old e.undone ∙ reverse_aux-eq old rest)
        ∙ words_append (reverse old) rest

    pub words-folded : words (entries folded) ≡ words_of x ++ words rest
    words-folded = ap words (reverse_aux-append new (x ∷ []) e.undone)

    length-old : length (words (reverse old)) ≡ sizes old
    length-old = omega (arith, length-words (reverse old), sizes-reverse old [])

    pub length-folded : length (words (entries folded)) + sizes old ≡ length (words (entries e)) + size_of x
    length-folded = rw (words-folded, words-old) (simp length-append (omega (arith, length-old)))

    folded-here : folded_in here mark (sizes old) x ≡ page_of opening space folded
    folded-here =
        let kept : drop (sizes old) (take here.page.used here.history) ≡ words rest =
        ap (drop (sizes old)) (take-pad space (words (entries e)) ∙ words-old)
        ∙ drop_at (words (reverse old)) (words rest) (sizes old) length-old in
        let done : sizes e.standing - sizes old + size_of x ≡ sizes (new ++ x ∷ []) =
        omega (arith, ap sizes is, sizes-append new old, sizes-append new (x ∷ [])) in
        let used : length (words (entries e)) - sizes old + size_of x ≡ length (words (entries folded)) =
        omega (arith, length-folded, length-old, simp length-append at (ap length words-old)) in
        rw (length-history, kept, done, used, words-folded)

-- how many words records are, by the editor's count
pub words-in : (s : State) (es : List Entry) → words_in (page.space_in s) es ≡ sizes es
words-in s [] = refl
words-in s (e ∷ es) = omega (arith, words-in s es, length-record e)

pub page-lays : Lays page Lies
page-lays =
    record {
      short =
          λ {n} {s} {e} l.
          let t : over (pad e.room e.text) ≡ false =
          le-ltb limit _ (omega (arith, length-text n l.space e l.legal l.few, l.small-text)) in
          let h : over (pad l.space (words (entries e))) ≡ false =
          le-ltb limit _ (omega (arith, length-history n l.space e l.legal l.few, l.small-history)) in
          rw (l.state, t, h);
      sees = λ {n} {s} {e} l. rw l.state (found_here n l.space e l.legal l.few);
      shows = λ {n} {s} {e} l. rw l.state (take-pad e.room e.text);
      done =
          λ {n} {s} {e} l.
          rw l.state
          (omega (arith, weight-sizes (reverse e.standing), sizes-reverse e.standing []));
      marks =
          λ {n} {s} {e} l mark ok.
          record {
            space = l.space;
            state = rw l.state;
            few = l.few;
            small-text = l.small-text;
            small-history = l.small-history;
            legal = ok;
          };
      moves =
          λ {n} {s} {e} l text standing undone p ok.
          record {
            space = l.space;
            state = rw l.state (moved_here n l.space e l.legal l.few text standing undone p);
            few = rw p l.few;
            small-text = l.small-text;
            small-history = l.small-history;
            legal = ok;
          };
      records =
          λ {n} {s} {e} l text x mark fits ok.
          let room : (page.space_in (page_of n l.space e)).needed x ≤ (page.space_in (page_of n l.space e)).words =
          subst (λ (s : State). (page.space_in s).needed x ≤ (page.space_in s).words) l.state fits in
          record {
            space = l.space;
            state = rw l.state (recorded-here n l.space e l.legal l.few text x mark);
            few =
                omega (
                  arith,
                  room,
                  length-after n l.space e l.legal l.few text x mark,
                  length-history n l.space e l.legal l.few,
                );
            small-text = l.small-text;
            small-history = l.small-history;
            legal = ok;
          };
      folds =
          λ {n} {s} {e} l new old x mark p gain ok.
          let fewer : size_of x < sizes old =
          omega (arith, gain, words-in s old, length-record x) in
          record {
            space = l.space;
            state = rw l.state (folded-here n l.space e l.legal l.few new old x mark p);
            few = omega (arith, length-folded n l.space e l.legal l.few new old x mark p, l.few, fewer);
            small-text = l.small-text;
            small-history = l.small-history;
            legal = ok;
          };
    }
