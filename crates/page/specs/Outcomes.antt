-- What an accepted edit gives back, what replace and save come to on a sound page, and a page just opened.
use Rattle.std.specs.Prelude.{ℕ, cond, List, [], length, eqb, Some, Ok, Err}
use Rattle.answer.specs.Answer.{numbered, Answer}
use Rattle.answer.specs.Output.{Outcome, refusing, deliver}
use Rattle.codec.specs.declared.Kind.{Kind}
use Rattle.codec.specs.Kinds.{reads_as, write_in}
use Rattle.editor.specs.Marks.{Mark}
use Rattle.editor.specs.Records.{Entry}
use Rattle.editor.specs.Editor as editor
use Rattle.editor.specs.Layout.{laid}
use Rattle.ledger.specs.Page as ledger
use Rattle.ledger.specs.Layout.{editor_of, space_in, marked_as, page}
use Rattle.ledger.specs.declared.Page.{Page}
use Rattle.ledger.specs.declared.Edited.{Edited}

-- what an accepted edit gives back
abbrev pub edited_as : Page → List ℕ → ℕ → ℕ → Mark → Edited
edited_as page text used done saved =
    record {
      answer = Ok (length text);
      page =
          record {
            kind = page.kind;
            opening = page.opening;
            length = length text;
            used = used;
            done = done;
            saved = saved;
          };
    }

-- replace looks at no record, so on a sound page it does as on one that has none
abbrev pub bare : ledger.State → editor.Editor
bare s = editor_of s (record { standing = []; undone = [] })

unfoldable pub replace_fitting : ledger.State → Entry → ledger.Outcome
replace_fitting s x = laid page s (editor.replace_fitting (space_in s) (bare s) x)

unfoldable pub replace_sound : ledger.State → ℕ → ℕ → List ℕ → ledger.Outcome
replace_sound s place count cells = laid page s (editor.replace_at (space_in s) (bare s) place count cells)

-- a page of this length on which nothing was done; of length 0 and without a mark, the page of a refused open
abbrev pub fresh_page : Kind → ℕ → Mark → Page
fresh_page kind size saved =
    record { kind = kind; opening = size; length = size; used = 0; done = 0; saved = saved }

-- the arrived bytes where no step stands, else the cells written
abbrev pub saved_in : Page → List ℕ → List ℕ → List ℕ → Outcome
saved_in page cells arrived out =
    cond (eqb page.done 0) (cond (reads_as page.kind arrived cells) (deliver arrived out) (refusing (numbered 15 0) out))
    (write_in page.kind cells out)

-- the page that a save with this answer gives back
abbrev pub saved_page : Page → Answer → Page
saved_page page (Ok n) = marked_as page (Some page.done)
saved_page page (Err deny) = page
