-- What code asks. 15 of a sound page: where nothing stands, the opening length is the text's (proofs/Belonging.antt: it
-- is the same). And the two forms by a bool (proofs/Forms.antt).
use Rattle.std.specs.Prelude.{ℕ, Bool, cond, List, eqb}
use Rattle.codec.specs.Kinds.{reading_in, reads_as}
use Rattle.ledger.specs.declared.Page.{Page}
use Rattle.page_file.specs.File.{Form}
use Rattle.page_file.specs.Calls.{counted}

abbrev pub belongs_by : Page → List ℕ → List ℕ → Bool
belongs_by page cells arrived =
    cond (eqb page.done 0) (reads_as page.kind arrived cells)
    (counted page.opening (reading_in page.kind arrived))

abbrev pub form_if : Bool → Form
form_if two =
    record {
      name = cond two "2" "1";
      width = cond two 7 5;
      bound = cond two 1048576 65536;
      floor = cond two 65537 0;
    }
