use mathlib.Core.Path.{sym, ◌∙◌}
use native.Mathlib.Omega.{arith}
use lib.ListN.{drop}
use Rattle.scan.specs.Inner.{hexes_at}
use Rattle.page_file.specs.Reading.{least}
use Rattle.page_file.specs.Inner.{form_if}
use Rattle.page_read.proofs.Finds.{is_found, is-failed, not_yes, not-no, never, list-is, head-failed, head-found}
use Rattle.page_read.proofs.Finds.{ends-here, goes_on}
use borrow.Author.Rules.{rules}
use Rattle.page_read.proofs.lines.plan_of.Statement.{statement}
use Rattle.page_read.proofs.lines.plan_of.Tie as tie

first-lines-requires : tie.Need-first_lines-first-requires
first-lines-requires c κs = search rules

no-plan-requires : tie.Need-no_plan-requires
no-plan-requires c κs = search rules

returns : tie.Need-returns-then-not-first
returns c =
    let a = c.args in
    let first-lines' = c.first_lines-first in
    let no-plan' = c.no_plan in (
      rw (no-plan'.ensures.0, no-plan'.ensures.1) (sym (head-failed a.file.now first-lines'.result
          first-lines'.ensures (not_yes _ c.if-not-first.true))),
      never _ no-plan'.ensures.0,
    )

arrived-line-requires : tie.Need-arrived_line-arrived-requires
arrived-line-requires c κs = search rules

no-plan-requires-2 : tie.Need-no_plan-requires-then-not-arrived
no-plan-requires-2 c κs = search rules

returns-2 : tie.Need-returns-then-not-arrived
returns-2 c =
    let a = c.args in
    let first-lines' = c.first_lines-first in
    let arrived-line' = c.arrived_line-arrived in
    let no-plan2' = c.no_plan-then-not-arrived in (
      rw (no-plan2'.ensures.0, no-plan2'.ensures.1) (sym (head-found a.file.now first-lines'.result
          first-lines'.ensures (not-no _ c.if-not-first.false) ∙ rw (list-is "arrived" 2 (least (form_if first-lines'.result.two) first-lines'.result.page)
          (form_if first-lines'.result.two).bound (drop first-lines'.result.at a.file.now) first-lines'.result.at ∙ is-failed
          (hexes_at a.file.now arrived-line'.result.from 2 arrived-line'.result.count) a.file.now
          arrived-line'.result.ok arrived-line'.result.at arrived-line'.ensures.0
          (not_yes _ c.if-not-arrived.true)))),
      never _ no-plan2'.ensures.0,
    )

words-line-requires : tie.Need-words_line-text-requires
words-line-requires c κs = search rules

no-plan-requires-3 : tie.Need-no_plan-requires-then-not-text
no-plan-requires-3 c κs = search rules

returns-3 : tie.Need-returns-then-not-text
returns-3 c =
    let a = c.args in
    let first-lines' = c.first_lines-first in
    let arrived-line' = c.arrived_line-arrived in
    let words-line' = c.words_line-text in
    let no-plan3' = c.no_plan-then-not-text in (
      rw (no-plan3'.ensures.0, no-plan3'.ensures.1) (sym (head-found a.file.now first-lines'.result
          first-lines'.ensures (not-no _ c.if-not-first.false) ∙ rw (
            list-is "arrived" 2 (least (form_if first-lines'.result.two) first-lines'.result.page)
                (form_if first-lines'.result.two).bound (drop first-lines'.result.at a.file.now) first-lines'.result.at ∙ is_found
                (hexes_at a.file.now arrived-line'.result.from 2 arrived-line'.result.count) a.file.now
                arrived-line'.result.ok arrived-line'.result.at arrived-line'.ensures.0
                (not-no _ c.if-not-arrived.false),
            list-is "text" 8 first-lines'.result.page.length first-lines'.result.page.length
                (drop arrived-line'.result.at a.file.now) arrived-line'.result.at ∙ is-failed
                (hexes_at a.file.now words-line'.result.from 8 words-line'.result.count) a.file.now
                words-line'.result.ok words-line'.result.at words-line'.ensures.0 (not_yes _ c.if-not-text.true),
          ))),
      never _ no-plan3'.ensures.0,
    )

words-line-requires-2 : tie.Need-words_line-history-requires
words-line-requires-2 c κs = search rules

no-plan-requires-4 : tie.Need-no_plan-requires-then-not-history
no-plan-requires-4 c κs = search rules

returns-4 : tie.Need-returns-then-not-history
returns-4 c =
    let a = c.args in
    let first-lines' = c.first_lines-first in
    let arrived-line' = c.arrived_line-arrived in
    let words-line' = c.words_line-text in
    let words-line2' = c.words_line-history in
    let no-plan4' = c.no_plan-then-not-history in (
      rw (no-plan4'.ensures.0, no-plan4'.ensures.1) (sym (head-found a.file.now first-lines'.result
          first-lines'.ensures (not-no _ c.if-not-first.false) ∙ rw (
            list-is "arrived" 2 (least (form_if first-lines'.result.two) first-lines'.result.page)
                (form_if first-lines'.result.two).bound (drop first-lines'.result.at a.file.now) first-lines'.result.at ∙ is_found
                (hexes_at a.file.now arrived-line'.result.from 2 arrived-line'.result.count) a.file.now
                arrived-line'.result.ok arrived-line'.result.at arrived-line'.ensures.0
                (not-no _ c.if-not-arrived.false),
            list-is "text" 8 first-lines'.result.page.length first-lines'.result.page.length
                (drop arrived-line'.result.at a.file.now) arrived-line'.result.at ∙ is_found
                (hexes_at a.file.now words-line'.result.from 8 words-line'.result.count) a.file.now
                words-line'.result.ok words-line'.result.at words-line'.ensures.0 (not-no _ c.if-not-text.false),
            list-is
                "history" 8 first-lines'.result.page.used first-lines'.result.page.used
                (drop words-line'.result.at a.file.now) words-line'.result.at ∙ is-failed
                (hexes_at a.file.now words-line2'.result.from 8 words-line2'.result.count) a.file.now
                words-line2'.result.ok words-line2'.result.at words-line2'.ensures.0
                (not_yes _ c.if-not-history.true),
          ))),
      never _ no-plan4'.ensures.0,
    )

no-plan-requires-5 : tie.Need-no_plan-requires-then-history-file
no-plan-requires-5 c κs = search rules

returns-5 : tie.Need-returns-then-history-file
returns-5 c =
    let a = c.args in
    let first-lines' = c.first_lines-first in
    let arrived-line' = c.arrived_line-arrived in
    let words-line' = c.words_line-text in
    let words-line2' = c.words_line-history in
    let no-plan5' = c.no_plan-then-history-file in (
      rw (no-plan5'.ensures.0, no-plan5'.ensures.1) (sym (head-found a.file.now first-lines'.result
          first-lines'.ensures (not-no _ c.if-not-first.false) ∙ rw (
            list-is "arrived" 2 (least (form_if first-lines'.result.two) first-lines'.result.page)
                (form_if first-lines'.result.two).bound (drop first-lines'.result.at a.file.now) first-lines'.result.at ∙ is_found
                (hexes_at a.file.now arrived-line'.result.from 2 arrived-line'.result.count) a.file.now
                arrived-line'.result.ok arrived-line'.result.at arrived-line'.ensures.0
                (not-no _ c.if-not-arrived.false),
            list-is "text" 8 first-lines'.result.page.length first-lines'.result.page.length
                (drop arrived-line'.result.at a.file.now) arrived-line'.result.at ∙ is_found
                (hexes_at a.file.now words-line'.result.from 8 words-line'.result.count) a.file.now
                words-line'.result.ok words-line'.result.at words-line'.ensures.0 (not-no _ c.if-not-text.false),
            list-is
                "history" 8 first-lines'.result.page.used first-lines'.result.page.used
                (drop words-line'.result.at a.file.now) words-line'.result.at ∙ is_found
                (hexes_at a.file.now words-line2'.result.from 8 words-line2'.result.count) a.file.now
                words-line2'.result.ok words-line2'.result.at words-line2'.ensures.0
                (not-no _ c.if-not-history.false),
          )
          (goes_on (record {
            page = first-lines'.result.page;
            arrived = hexes_at a.file.now
                arrived-line'.result.from 2 arrived-line'.result.count;
            text = hexes_at a.file.now
                words-line'.result.from 8 words-line'.result.count;
            history = hexes_at a.file.now
                words-line2'.result.from 8 words-line2'.result.count;
          }) a.file.now words-line2'.result.at
          (words-line2'.ensures.1 (not-no _ c.if-not-history.false)).1 c.if-history-file.true))),
      never _ no-plan5'.ensures.0,
    )

returns-6 : tie.Need-returns
returns-6 c =
    let a = c.args in
    let first-lines' = c.first_lines-first in
    let arrived-line' = c.arrived_line-arrived in
    let words-line' = c.words_line-text in
    let words-line2' = c.words_line-history in
    let ar = arrived-line'.ensures.1 (not-no _ c.if-not-arrived.false) in
    let tx = words-line'.ensures.1 (not-no _ c.if-not-text.false) in
    let hs = words-line2'.ensures.1 (not-no _ c.if-not-history.false) in
    let n = words-line'.ensures.2 (not-no _ c.if-not-text.false) in
    let m = words-line2'.ensures.2 (not-no _ c.if-not-history.false) in (
      sym (head-found a.file.now first-lines'.result first-lines'.ensures (not-no _ c.if-not-first.false) ∙ rw (
        list-is "arrived" 2 (least (form_if first-lines'.result.two) first-lines'.result.page)
            (form_if first-lines'.result.two).bound (drop first-lines'.result.at a.file.now) first-lines'.result.at ∙
            is_found (hexes_at a.file.now arrived-line'.result.from 2 arrived-line'.result.count)
            a.file.now arrived-line'.result.ok arrived-line'.result.at arrived-line'.ensures.0
            (not-no _ c.if-not-arrived.false),
        list-is "text" 8 first-lines'.result.page.length
            first-lines'.result.page.length (drop arrived-line'.result.at a.file.now)
            arrived-line'.result.at ∙ is_found (hexes_at a.file.now words-line'.result.from 8
            words-line'.result.count) a.file.now words-line'.result.ok words-line'.result.at
            words-line'.ensures.0 (not-no _ c.if-not-text.false),
        list-is "history" 8 first-lines'.result.page.used
            first-lines'.result.page.used (drop words-line'.result.at a.file.now) words-line'.result.at
            ∙ is_found (hexes_at a.file.now words-line2'.result.from 8 words-line2'.result.count)
            a.file.now words-line2'.result.ok words-line2'.result.at words-line2'.ensures.0
            (not-no _ c.if-not-history.false),
      ) (ends-here (record {
        page = first-lines'.result.page;
        arrived = hexes_at
            a.file.now arrived-line'.result.from 2 arrived-line'.result.count;
        text = hexes_at a.file.now
            words-line'.result.from 8 words-line'.result.count;
        history = hexes_at a.file.now
            words-line2'.result.from 8 words-line2'.result.count;
      }) a.file.now words-line2'.result.at
          c.if-history-file.false ∙ rw (n, m))),
      (λ _. record {
        arrived = omega arith;
        text = omega
            arith;
        history = omega arith;
      }),
    )

pub plan_of_spec : {M : Type 1} → statement M
plan_of_spec =
    tie.close
    (tie.spec
    first-lines-requires
    no-plan-requires
    returns
    arrived-line-requires
    no-plan-requires-2
    returns-2
    words-line-requires
    no-plan-requires-3
    returns-3
    words-line-requires-2
    no-plan-requires-4
    returns-4
    no-plan-requires-5
    returns-5
    returns-6)
