use mathlib.Core.Path.{sym, ◌∙◌}
use native.Mathlib.Omega.{arith}
use lib.ListN.{length}
use Rattle.page_read.specs.Inner.{content_in}
use Rattle.page_read.proofs.Values.{length-hexes}
use Rattle.page_read.proofs.Sounds.{padded}
use Rattle.page_read.proofs.Answers.{refused_as, is-unsound, is-sound}
use borrow.Author.Rules.{rules}
use Rattle.page_read.proofs.read_sound.Statement.{statement}
use Rattle.page_read.proofs.read_sound.Tie as tie

is-sound-requires : tie.Need-is_sound-requires
is-sound-requires c κs =
    let pre' = c.requires in
    (omega arith, omega arith, omega arith, pre'.0.history)

unread-requires : tie.Need-unread-requires
unread-requires c κs = search rules

returns : tie.Need-returns-then-not-is_sound
returns c =
    let a = c.args in
    let pre' = c.requires in
    let is-sound' = c.is_sound in
    let unread' = c.unread in
    refused_as _ unread'.result a.arrived.now a.text.now a.history.now unread'.ensures
    ∙ sym (is-unsound a.arrived.now a.text.now a.history.now (content_in a.file.now a.plan)
    (sym (c.if-not-is_sound.true) ∙ is-sound'.ensures _ _
    (padded a.plan.page (length a.text.now) (length a.history.now)
    (content_in a.file.now a.plan).text (content_in a.file.now a.plan).history
    (length-hexes a.file.now a.plan.text 8 a.plan.page.length)
    (length-hexes a.file.now a.plan.history 8 a.plan.page.used) pre'.2 pre'.3)))

belongs-requires : tie.Need-belongs-requires
belongs-requires c κs =
    let pre' = c.requires in
    pre'.0

unread-requires-2 : tie.Need-unread-requires-then-not-belongs
unread-requires-2 c κs = search rules

returns-2 : tie.Need-returns-then-not-belongs
returns-2 c =
    let a = c.args in
    let pre' = c.requires in
    let is-sound' = c.is_sound in
    let belongs' = c.belongs in
    let unread2' = c.unread-then-not-belongs in
    refused_as _ unread2'.result a.arrived.now a.text.now a.history.now unread2'.ensures
    ∙ sym (is-sound a.arrived.now a.text.now a.history.now (content_in a.file.now a.plan)
    (sym (c.if-not-is_sound.false) ∙ is-sound'.ensures _ _
    (padded a.plan.page (length a.text.now) (length a.history.now)
    (content_in a.file.now a.plan).text (content_in a.file.now a.plan).history
    (length-hexes a.file.now a.plan.text 8 a.plan.page.length)
    (length-hexes a.file.now a.plan.history 8 a.plan.page.used) pre'.2 pre'.3))
    (length-hexes a.file.now a.plan.text 8 a.plan.page.length) ∙ rw
    (sym belongs'.ensures ∙ c.if-not-belongs.true))

take-in-requires : tie.Need-take_in-requires
take-in-requires c κs =
    let pre' = c.requires in
    (pre'.0, omega arith, omega arith, omega arith)

same_length : tie.Need-shape_of-arrived
same_length c = search rules

same-length-2 : tie.Need-shape_of-text
same-length-2 c = search rules

same-length-3 : tie.Need-shape_of-history
same-length-3 c = search rules

returns-3 : tie.Need-returns
returns-3 c =
    let a = c.args in
    let pre' = c.requires in
    let is-sound' = c.is_sound in
    let belongs' = c.belongs in
    let take-in' = c.take_in in
    take-in'.ensures
    ∙ sym (is-sound a.arrived.now a.text.now a.history.now (content_in a.file.now a.plan)
    (sym (c.if-not-is_sound.false) ∙ is-sound'.ensures _ _
    (padded a.plan.page (length a.text.now) (length a.history.now)
    (content_in a.file.now a.plan).text (content_in a.file.now a.plan).history
    (length-hexes a.file.now a.plan.text 8 a.plan.page.length)
    (length-hexes a.file.now a.plan.history 8 a.plan.page.used) pre'.2 pre'.3))
    (length-hexes a.file.now a.plan.text 8 a.plan.page.length) ∙ rw
    (sym belongs'.ensures ∙ c.if-not-belongs.false))

pub read_sound_spec : {M : Type 1} → statement M
read_sound_spec =
    tie.close
    (tie.spec
    is-sound-requires
    unread-requires
    returns
    belongs-requires
    unread-requires-2
    returns-2
    take-in-requires
    same_length
    same-length-2
    same-length-3
    returns-3)
