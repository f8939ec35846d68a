-- What an open would answer, by a reading into no room; and two opens, one after the other. Assumes nothing.
use Prim.Native.Nat.{ℕ, ◌≤◌}
use mathlib.Core.Path.{◌≡◌, refl, sym, ap, ◌∙◌}
use mathlib.Core.Bool.{Bool, true, false, cond, ◌||◌, false≢true}
use mathlib.Core.List.{List, []}
use native.Mathlib.Omega.{arith}
use lib.ListN.{length, replicate, length-replicate}
use lib.Dec.{ltb, eqb}
use borrow.Author.Tests.{ltb-false, le-ltb, ne_eqb}
use Rattle.std.specs.declared.result.Result.TheVariants.{Ok, Err}
use Rattle.answer.specs.declared.Refused.{Refused}
use Rattle.answer.specs.Answer.{limit, numbered, in_numbers, number_of, too_long, Answer}
use Rattle.answer.specs.declared.Refusal.{Refusal}
use Rattle.answer.specs.Output as output
use Rattle.answer.proofs.Once.{number-pos}
use Rattle.reading.specs.Reading.{Ending, accepted, fault, on_ending}
use Rattle.codec.specs.declared.Kind.{Kind}
use Rattle.codec.specs.declared.Kind.TheVariants.{Utf7Header, Utf7Body, Jp2}
use Rattle.codec.specs.declared.Format.{Format}
use Rattle.codec.specs.Kinds.{format_of, reading_in, read_in}
use Rattle.codec.specs.Demand.{faults_in}
use Rattle.codec.proofs.ByKind.{read-form}
use Rattle.codec.proofs.Faults.{KnownEnd, known}
use Rattle.editor.specs.Editor.{over}
use Rattle.editor.specs.Layout.{taken, refusing}
use Rattle.ledger.specs.declared.Edited.{Edited}
use Rattle.ledger.specs.Words.{pad}
use Rattle.ledger.specs.Page as page
use Rattle.ledger.specs.Calls.{no_page, opened_on, open_read, open_of}
use Rattle.ledger.proofs.Opens.{Opened, open-opened}
use Rattle.benches.specs.Benches.{Outcome, leaves}
use Rattle.benches.specs.Calls as benches
use Rattle.benches.proofs.Refusals.{first-refused, second-refused}
use Rattle.bench_open.specs.Opens.{both_of, in_room, refused_with, opened_with}

-- no fault of a page's kind has the number of too little room
not-nine : (kind : Kind) (k place : ℕ) → KnownEnd (faults_in (format_of kind)) (fault k place) → k ≡ 9 → ⊥
unfolding format_of
not-nine Utf7Header k place m q = false≢true (rw q at m)
not-nine Utf7Body k place m q = false≢true (rw q at m)
not-nine Jp2 k place m q = false≢true (rw q at m)

module _ (kind : Kind) (arrived text history : List ℕ) where
  counted :
      (e : Ending) (cells : List ℕ) → KnownEnd (faults_in (format_of kind)) e →
      in_room (length text) (on_ending e cells []).verdict ≡ (open_read kind text history e cells).verdict
  unfolding open_read output.deliver
  counted accepted cells m = by (ltb 0 (length cells)) refl
    where
      either :
          (t : Bool) →
          cond t (numbered 9 (length cells)) (numbered 0 (length cells))
          ≡ (cond t (refusing (page.state_of (no_page kind) text history) [] (numbered 9 (length cells)))
          (opened_on kind cells text history)).verdict
      either true = refl
      either false = refl

      by : (t : Bool) → ltb 0 (length cells) ≡ t →
          in_room (length text)
          (cond t (output.refusing (numbered 9 (length cells)) [])
          (record { verdict = numbered 0 (length cells); out = output.filled cells [] })).verdict
          ≡ (open_read kind text history accepted cells).verdict
      by true q = either (ltb (length text) (length cells))
      by false q =
          let none : length cells ≤ 0 = ltb-false 0 (length cells) q in
          rw (le-ltb (length text) (length cells) (omega arith))
  counted (fault k place) cells m = rw (ne_eqb k 9 (not-nine kind k place m))

  -- a reading into no room tells what the open answers
  pub told :
      over arrived ≡ false → over text ≡ false → over history ≡ false → (f : Format) → f ≡ format_of kind →
      (a : Answer) (x : List ℕ) → output.leaves a x ≡ read_in f arrived [] →
      in_room (length text) (in_numbers a) ≡ (open_of kind arrived text history).verdict
  unfolding open_of
  told p q r f g a x e =
      let is : read_in f arrived []
      ≡ on_ending (reading_in kind arrived).ending (reading_in kind arrived).cells [] =
      rw (read-form, g, p) in
      let read : in_numbers a ≡ (on_ending (reading_in kind arrived).ending (reading_in kind arrived).cells []).verdict =
      ap (λ (o : output.Outcome). o.verdict) (e ∙ is) in
      rw (p, q, r, read)
      (counted (reading_in kind arrived).ending (reading_in kind arrived).cells (known (format_of kind) arrived))

  -- an open is accepted or not by the length of the history alone
  taken-by :
      (h : List ℕ) → length h ≡ length history →
      taken (open_of kind arrived text h) ≡ taken (open_of kind arrived text history)
  unfolding open_of open_read
  taken-by h q =
      rw q
      (by (over arrived || (over text || over history)) (reading_in kind arrived).ending
      (reading_in kind arrived).cells)
    where
      either :
          (t : Bool) (n : ℕ) (o p : page.Outcome) → taken o ≡ taken p →
          taken (cond t (refusing (page.state_of (no_page kind) text h) [] (numbered 9 n)) o)
          ≡ taken (cond t (refusing (page.state_of (no_page kind) text history) [] (numbered 9 n)) p)
      either true n o p e = refl
      either false n o p e = e

      by :
          (t : Bool) (e : Ending) (cells : List ℕ) →
          taken (cond t (refusing (page.state_of (no_page kind) text h) [] too_long) (open_read kind text h e cells))
          ≡ taken
          (cond t (refusing (page.state_of (no_page kind) text history) [] too_long) (open_read kind text history e cells))
      by true e cells = refl
      by false accepted cells =
          either (ltb (length text) (length cells)) (length cells) (opened_on kind cells text h)
          (opened_on kind cells text history) refl
      by false (fault k place) cells = refl

-- two accepted opens, one after the other
module _
    (kind0 kind1 : Kind)
    (arrived0 arrived1 text0 text1 history : List ℕ)
    (first : taken (open_of kind0 arrived0 text0 history) ≡ true)
    (second : taken (open_of kind1 arrived1 text1 history) ≡ true)
    (p q : Edited)
    (x y g h : List ℕ)
    (e : page.leaves p x g ≡ open_of kind0 arrived0 text0 history)
    (f : page.leaves q y h ≡ open_of kind1 arrived1 text1 g) where
  abbrev cells0 : List ℕ
  cells0 = (reading_in kind0 arrived0).cells

  abbrev cells1 : List ℕ
  cells1 = (reading_in kind1 arrived1).cells

  one : Opened kind0 arrived0 text0 history (open_of kind0 arrived0 text0 history)
  one = open-opened kind0 arrived0 text0 history first

  first-is : page.leaves p x g ≡ opened_on kind0 cells0 text0 history
  first-is = e ∙ one.is

  same : length g ≡ length history
  same = ap (λ (o : page.Outcome). length o.state.history) first-is ∙ length-replicate (length history) 0

  two : Opened kind1 arrived1 text1 g (open_of kind1 arrived1 text1 g)
  two = open-opened kind1 arrived1 text1 g (taken-by kind1 arrived1 text1 history g same ∙ second)

  second_is : page.leaves q y h ≡ opened_on kind1 cells1 text1 g
  second_is = f ∙ two.is

  pub lengths-small : (p.page.length ≤ limit) × (q.page.length ≤ limit)
  lengths-small =
      let m : p.page.length ≡ length cells0 = ap (λ (o : page.Outcome). o.state.page.length) first-is in
      let n : q.page.length ≡ length cells1 = ap (λ (o : page.Outcome). o.state.page.length) second_is in (
        omega (arith, one.fits, one.small-text),
        omega (arith, two.fits, two.small-text),
      )

  pub both-opened :
      leaves (opened_with p.page q.page) x y h []
      ≡ benches.open_of (both_of kind0 kind1) (both_of arrived0 arrived1) (both_of text0 text1) history
  unfolding benches.open_of
  both-opened =
      let third : open_of kind1 arrived1 text1 history ≡ opened_on kind1 cells1 text1 history =
      (open-opened kind1 arrived1 text1 history second).is in
      rw (first, second)
      ((λ i.
      leaves (opened_with (first-is i).state.page (second_is i).state.page) (first-is i).state.text
      (second_is i).state.text (second_is i).state.history [])
      ∙ (λ i.
      leaves
      (opened_with (opened_on kind0 cells0 text0 history).state.page (opened_on kind1 cells1 text1 history).state.page)
      (pad (length text0) cells0) (pad (length text1) cells1) (replicate (same i) 0) [])
      ∙ (λ i. benches.opened_both (sym one.is i) (sym third i)))

-- refused: the first's refusal, or else the second's
module _ (kind0 kind1 : Kind) (arrived0 arrived1 text0 text1 history : List ℕ) where
  abbrev opens : Outcome
  opens = benches.open_of (both_of kind0 kind1) (both_of arrived0 arrived1) (both_of text0 text1) history

  refused-number : (why : Refusal) → eqb (number_of why) 0 ≡ false
  refused-number why = ne_eqb (number_of why) 0 (λ (z : number_of why ≡ 0). omega (arith, number-pos why))

  pub refused-first :
      (a : Answer) (deny : Refused) → in_numbers a ≡ (open_of kind0 arrived0 text0 history).verdict →
      a ≡ Err deny → leaves (refused_with kind0 kind1 a) text0 text1 history [] ≡ opens
  refused-first a deny e q =
      let no : taken (open_of kind0 arrived0 text0 history) ≡ false = rw (← e, q) (refused-number deny.0) in
      sym
      (first-refused (both_of kind0 kind1) (both_of arrived0 arrived1) (both_of text0 text1) history no
      ∙ (λ i. refusing (benches.not_opened (both_of kind0 kind1) (both_of text0 text1) history) [] (sym e i)))

  pub refused-second :
      (a : Answer) (deny : Refused) → taken (open_of kind0 arrived0 text0 history) ≡ true →
      in_numbers a ≡ (open_of kind1 arrived1 text1 history).verdict → a ≡ Err deny →
      leaves (refused_with kind0 kind1 a) text0 text1 history [] ≡ opens
  refused-second a deny ok e q =
      let no : taken (open_of kind1 arrived1 text1 history) ≡ false = rw (← e, q) (refused-number deny.0) in
      sym
      (second-refused (both_of kind0 kind1) (both_of arrived0 arrived1) (both_of text0 text1) history ok no
      ∙ (λ i. refusing (benches.not_opened (both_of kind0 kind1) (both_of text0 text1) history) [] (sym e i)))

pub told-taken :
    (kind : Kind) (arrived text history : List ℕ) (a : Answer) (n : ℕ) →
    in_numbers a ≡ (open_of kind arrived text history).verdict → a ≡ Ok n →
    taken (open_of kind arrived text history) ≡ true
told-taken kind arrived text history a n e q = rw (← e, q)
