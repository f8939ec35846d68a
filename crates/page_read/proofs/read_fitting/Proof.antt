use mathlib.Core.Path.{sym, ◌∙◌}
use native.Mathlib.Omega.{arith}
use Rattle.page_read.specs.Inner.{content_in}
use Rattle.page_read.proofs.Values.{length-hexes}
use Rattle.page_read.proofs.Answers.{refused_as, no-arrived, no_text, no-history, all_fit}
use borrow.Author.Rules.{rules}
use Rattle.page_read.proofs.read_fitting.Statement.{statement}
use Rattle.page_read.proofs.read_fitting.Tie as tie

unread-requires : tie.Need-unread-requires
unread-requires c κs = search rules

returns : tie.Need-returns-then-arrived-plan
returns c =
    let a = c.args in
    let unread' = c.unread in
    refused_as _ unread'.result a.arrived.now a.text.now a.history.now unread'.ensures ∙ sym
    (no-arrived a.arrived.now a.text.now a.history.now (content_in a.file.now a.plan)
    (length-hexes a.file.now a.plan.arrived 2 a.plan.count)
    (length-hexes a.file.now a.plan.text 8 a.plan.page.length)
    (length-hexes a.file.now a.plan.history 8 a.plan.page.used) (omega arith))

unread-requires-2 : tie.Need-unread-requires-then-text-page
unread-requires-2 c κs = search rules

returns-2 : tie.Need-returns-then-text-page
returns-2 c =
    let a = c.args in
    let unread2' = c.unread-then-text-page in
    refused_as _ unread2'.result a.arrived.now a.text.now a.history.now unread2'.ensures ∙ sym
    (no_text a.arrived.now a.text.now a.history.now (content_in a.file.now a.plan)
    (length-hexes a.file.now a.plan.arrived 2 a.plan.count)
    (length-hexes a.file.now a.plan.text 8 a.plan.page.length)
    (length-hexes a.file.now a.plan.history 8 a.plan.page.used) (omega arith) (omega arith))

unread-requires-3 : tie.Need-unread-requires-then-history-page
unread-requires-3 c κs = search rules

returns-3 : tie.Need-returns-then-history-page
returns-3 c =
    let a = c.args in
    let unread3' = c.unread-then-history-page in
    refused_as _ unread3'.result a.arrived.now a.text.now a.history.now unread3'.ensures ∙ sym
    (no-history a.arrived.now a.text.now a.history.now (content_in a.file.now a.plan)
    (length-hexes a.file.now a.plan.arrived 2 a.plan.count)
    (length-hexes a.file.now a.plan.text 8 a.plan.page.length)
    (length-hexes a.file.now a.plan.history 8 a.plan.page.used) (omega arith) (omega arith)
    (omega arith))

read-sound-requires : tie.Need-read_sound-requires
read-sound-requires c κs =
    let pre' = c.requires in
    (pre'.0, omega arith, omega arith, omega arith, omega arith, omega arith)

same_length : tie.Need-shape_of-arrived
same_length c = search rules

same-length-2 : tie.Need-shape_of-text
same-length-2 c = search rules

same-length-3 : tie.Need-shape_of-history
same-length-3 c = search rules

returns-4 : tie.Need-returns
returns-4 c =
    let a = c.args in
    let read-sound' = c.read_sound in
    read-sound'.ensures ∙ sym (all_fit a.arrived.now a.text.now a.history.now
    (content_in a.file.now a.plan) (length-hexes a.file.now a.plan.arrived 2 a.plan.count)
    (length-hexes a.file.now a.plan.text 8 a.plan.page.length)
    (length-hexes a.file.now a.plan.history 8 a.plan.page.used) (omega arith) (omega arith)
    (omega arith))

pub read_fitting_spec : {M : Type 1} → statement M
read_fitting_spec =
    tie.close
    (tie.spec
    unread-requires
    returns
    unread-requires-2
    returns-2
    unread-requires-3
    returns-3
    read-sound-requires
    same_length
    same-length-2
    same-length-3
    returns-4)
