use native.Mathlib.Omega.{arith}
use mathlib.Core.Path.{refl, sym, ◌∙◌}
use lib.Seq.{length-take-le}
use borrow.Author.Tests.{lt-ltb}
use Rattle.ledger.specs.Page.{State, state_of}
use Rattle.records.proofs.Found.{fit}
use Rattle.squeeze.proofs.Folding.{too_few, leads-standing, opens-standing}
use Rattle.squeeze.proofs.Folding.{over-standing, squeezes, history-filled}
use borrow.Author.Rules.{rules}
use Rattle.squeeze.proofs.squeeze_sound.Statement.{statement}
use Rattle.squeeze.proofs.squeeze_sound.Tie as tie

refused-requires : tie.Need-refused-requires
refused-requires c κs = search rules

returns : tie.Need-returns-then-k-lt2
returns c =
    let a = c.args in
    let s : State = state_of a.page a.text.now a.history.now in
    let f = fit s refl c.requires in
    rw c.refused.ensures (sym (too_few s f.parted f.sound f.short f.found f.short-text a.k
    a.work.now (rw (lt-ltb a.k 2 (omega arith)))))

slice-aggregate-oldest : tie.Need-slice_bounds-oldest-end
slice-aggregate-oldest c =
    let a = c.args in
    let s : State = state_of a.page a.text.now a.history.now in
    let f = fit s refl c.requires in
    sym (length-take-le a.page.length a.text.now f.frame.fits)

oldest-requires : tie.Need-oldest-fold-requires
oldest-requires c κs =
    let a = c.args in
    let s : State = state_of a.page a.text.now a.history.now in
    let f = fit s refl c.requires in (
      leads-standing s f.parted f.sound f.short f.found f.short-text a.k
          a.work.now,
      opens-standing s f.parted f.sound f.short f.found f.short-text a.k a.work.now,
    )

refused-requires-2 : tie.Need-refused-requires-then-fold-k
refused-requires-2 c κs = search rules

same_length : tie.Need-shape_of-history-then-fold-k
same_length c = search rules

returns-2 : tie.Need-returns-then-fold-k
returns-2 c =
    let a = c.args in
    let s : State = state_of a.page a.text.now a.history.now in
    let f = fit s refl c.requires in
    let o = c.oldest-fold in
    rw c.refused-then-fold-k.ensures (sym (too_few s f.parted f.sound f.short f.found f.short-text a.k
    a.work.now (over-standing s f.parted f.sound f.short f.found f.short-text a.k
    a.work.now o.result o.ensures (omega arith))))

squeeze-to-requires : tie.Need-squeeze_to-requires
squeeze-to-requires c κs =
    let a = c.args in
    let s : State = state_of a.page a.text.now a.history.now in
    let f = fit s refl
    c.requires in
    let o = c.oldest-fold in
    let q = squeezes s f.parted f.sound f.short f.found f.short-text a.k a.work.now o.result
    o.ensures (omega arith) (omega arith) in
    (q.folds, f.frame.fits, q.part, f.frame.stands, history-filled f)

same-length-2 : tie.Need-shape_of-history
same-length-2 c = search rules

same-length-3 : tie.Need-shape_of-work
same-length-3 c = search rules

returns-3 : tie.Need-returns
returns-3 c =
    let a = c.args in
    let s : State = state_of a.page a.text.now a.history.now in
    let f = fit s refl
    c.requires in
    let o = c.oldest-fold in
    let q = squeezes s f.parted f.sound f.short f.found f.short-text a.k a.work.now o.result
    o.ensures (omega arith) (omega arith) in
    c.squeeze_to.ensures ∙ sym q.outcome

pub squeeze_sound_spec : {M : Type 1} → statement M
squeeze_sound_spec =
    tie.close
    (tie.spec
    refused-requires
    returns
    slice-aggregate-oldest
    oldest-requires
    refused-requires-2
    same_length
    returns-2
    squeeze-to-requires
    same-length-2
    same-length-3
    returns-3)
