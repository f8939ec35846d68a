-- What the code finds of the oldest records, and what it then leaves, over the definitions in the crates editor and
-- ledger.
use Rattle.std.specs.Prelude.{ℕ, ◌+◌, ◌-◌, ◌≤◌, ◌≡◌, cond, List, length, ltb, leb, Ok}
use Rattle.answer.specs.Answer.{limit, numbered}
use Rattle.answer.specs.Output.{filled}
use Rattle.editor.specs.Marks.{folded_mark}
use Rattle.editor.specs.Records.{Entry}
use Rattle.ledger.specs.declared.Page.{Page}
use Rattle.ledger.specs.declared.Edited.{Edited}
use Rattle.ledger.specs.Words.{words_of, size_of, sizes, reached}
use Rattle.ledger.specs.Page.{State, Outcome}
use Rattle.ledger.specs.Layout.{folded_in}
use Rattle.ledger.specs.Calls.{refusing}
use Rattle.squeeze.specs.declared.Fold.{Fold}
use Rattle.squeeze.specs.Tracing.{text_since, Leads}

-- where records end that begin at a word, the length to which they lead, and how many they are with those before
abbrev pub fold_from : ℕ → ℕ → ℕ → List Entry → Fold
fold_from at len count es = record { at = at + sizes es; len = reached len es; count = count + length es }

-- the record of a fold that ends at a word, where words up to another stand: "at place 0 it removes the whole opening
-- text and adds the whole text as it was after those k, both as undoing from the present text gives them"
abbrev pub fold_of : ℕ → ℕ → List ℕ → List ℕ → Entry
fold_of at done history text =
    record { place = 0; removed = text_since 0 done history text; added = text_since at done history text }

-- the words of the standing records, and those from the end of the fold on, lead to the present text; the lengths
-- before them are the opening length and the fold's
pub record Foldable (opening : ℕ) (fold : Fold) (done : ℕ) (history text : List ℕ) : Type 0 where
  pub all : Leads 0 done history text
  pub opens : opening ≡ length (text_since 0 done history text)
  pub later : Leads fold.at done history text
  pub long : fold.len ≡ length (text_since fold.at done history text)
  pub small : (opening ≤ limit) × (fold.len ≤ limit)

-- 19, 9, and an accepted squeeze of so many words into a record
abbrev pub folded_to : State → List ℕ → ℕ → Entry → Outcome
folded_to s work old x =
    cond (leb old (size_of x)) (refusing s work (numbered 19 0))
    (cond (ltb (length work) (size_of x)) (refusing s work (numbered 9 (size_of x)))
    (record {
      verdict = numbered 0 (s.page.used - old + size_of x);
      state = folded_in s (folded_mark old (size_of x) s.page.saved) old x;
      output = filled (words_of x) work;
    }))

-- the page with so many words folded into so many
abbrev pub squeezed_page : Page → ℕ → ℕ → Edited
squeezed_page p old new =
    record {
      answer = Ok (p.used - old + new);
      page =
          record {
            kind = p.kind;
            opening = p.opening;
            length = p.length;
            used = p.used - old + new;
            done = p.done - old + new;
            saved = folded_mark old new p.saved;
          };
    }
