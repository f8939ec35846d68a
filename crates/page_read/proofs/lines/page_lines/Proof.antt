use mathlib.Core.Path.{◌∙◌}
use lib.ListN.{drop}
use Rattle.page_file.specs.Inner.{form_if}
use Rattle.page_file.specs.Reading.{kind_name, decimal, mark}
use Rattle.page_read.specs.Inner.{kind_of}
use Rattle.page_read.proofs.Finds.{found-if, failed-if, is_found, is-failed, not_yes, not-no, line-is}
use borrow.Author.Rules.{rules}
use Rattle.page_read.proofs.lines.page_lines.Statement.{statement}
use Rattle.page_read.proofs.lines.page_lines.Tie as tie

kind-line-requires : tie.Need-kind_line-kind-requires
kind-line-requires c κs = search rules

no-head-requires : tie.Need-no_head-requires
no-head-requires c κs = search rules

returns : tie.Need-returns-then-not-kind
returns c =
    let a = c.args in
    let kind-line' = c.kind_line-kind in
    let no-head' = c.no_head in
    rw (
      no-head'.ensures.0,
      no-head'.ensures.1,
      line-is "kind" kind_name
          (drop a.from a.file.now) a.from ∙ failed-if (kind_of kind-line'.result.value)
          a.file.now kind-line'.result kind-line'.ensures c.if-not-kind.true,
    )

number-line-requires : tie.Need-number_line-opening-requires
number-line-requires c κs = search rules

no-head-requires-2 : tie.Need-no_head-requires-then-not-opening
no-head-requires-2 c κs = search rules

returns-2 : tie.Need-returns-then-not-opening
returns-2 c =
    let a = c.args in
    let kind-line' = c.kind_line-kind in
    let number-line' = c.number_line-opening in
    let no-head2' = c.no_head-then-not-opening in
    rw (
      no-head2'.ensures.0,
      no-head2'.ensures.1,
      line-is "kind" kind_name
          (drop a.from a.file.now) a.from ∙ found-if (kind_of kind-line'.result.value)
          a.file.now kind-line'.result kind-line'.ensures c.if-not-kind.false,
      line-is "opening" (decimal (form_if a.two))
          (drop kind-line'.result.at a.file.now) kind-line'.result.at ∙ failed-if
          number-line'.result.value a.file.now number-line'.result number-line'.ensures c.if-not-opening.true,
    )

number-line-requires-2 : tie.Need-number_line-length-requires
number-line-requires-2 c κs = search rules

no-head-requires-3 : tie.Need-no_head-requires-then-not-length
no-head-requires-3 c κs = search rules

returns-3 : tie.Need-returns-then-not-length
returns-3 c =
    let a = c.args in
    let kind-line' = c.kind_line-kind in
    let number-line' = c.number_line-opening in
    let number-line2' = c.number_line-length in
    let no-head3' = c.no_head-then-not-length in
    rw (
      no-head3'.ensures.0,
      no-head3'.ensures.1,
      line-is "kind" kind_name
          (drop a.from a.file.now) a.from ∙ found-if (kind_of kind-line'.result.value)
          a.file.now kind-line'.result kind-line'.ensures c.if-not-kind.false,
      line-is "opening" (decimal (form_if a.two))
          (drop kind-line'.result.at a.file.now) kind-line'.result.at ∙ found-if
          number-line'.result.value a.file.now number-line'.result number-line'.ensures c.if-not-opening.false,
      line-is "length" (decimal (form_if a.two)) (drop number-line'.result.at a.file.now) number-line'.result.at ∙
          failed-if number-line2'.result.value a.file.now number-line2'.result number-line2'.ensures
          c.if-not-length.true,
    )

number-line-requires-3 : tie.Need-number_line-used-requires
number-line-requires-3 c κs = search rules

no-head-requires-4 : tie.Need-no_head-requires-then-not-used
no-head-requires-4 c κs = search rules

returns-4 : tie.Need-returns-then-not-used
returns-4 c =
    let a = c.args in
    let kind-line' = c.kind_line-kind in
    let number-line' = c.number_line-opening in
    let number-line2' = c.number_line-length in
    let number-line3' = c.number_line-used in
    let no-head4' = c.no_head-then-not-used in
    rw (
      no-head4'.ensures.0,
      no-head4'.ensures.1,
      line-is "kind" kind_name
          (drop a.from a.file.now) a.from ∙ found-if (kind_of kind-line'.result.value)
          a.file.now kind-line'.result kind-line'.ensures c.if-not-kind.false,
      line-is "opening" (decimal (form_if a.two))
          (drop kind-line'.result.at a.file.now) kind-line'.result.at ∙ found-if
          number-line'.result.value a.file.now number-line'.result number-line'.ensures c.if-not-opening.false,
      line-is "length" (decimal (form_if a.two)) (drop number-line'.result.at a.file.now) number-line'.result.at ∙
          found-if number-line2'.result.value a.file.now number-line2'.result number-line2'.ensures
          c.if-not-length.false,
      line-is "used" (decimal (form_if a.two)) (drop number-line2'.result.at a.file.now)
          number-line2'.result.at ∙ failed-if number-line3'.result.value a.file.now number-line3'.result
          number-line3'.ensures c.if-not-used.true,
    )

number-line-requires-4 : tie.Need-number_line-done-requires
number-line-requires-4 c κs = search rules

no-head-requires-5 : tie.Need-no_head-requires-then-not-done
no-head-requires-5 c κs = search rules

returns-5 : tie.Need-returns-then-not-done
returns-5 c =
    let a = c.args in
    let kind-line' = c.kind_line-kind in
    let number-line' = c.number_line-opening in
    let number-line2' = c.number_line-length in
    let number-line3' = c.number_line-used in
    let number-line4' = c.number_line-done in
    let no-head5' = c.no_head-then-not-done in
    rw (
      no-head5'.ensures.0,
      no-head5'.ensures.1,
      line-is "kind" kind_name
          (drop a.from a.file.now) a.from ∙ found-if (kind_of kind-line'.result.value)
          a.file.now kind-line'.result kind-line'.ensures c.if-not-kind.false,
      line-is "opening" (decimal (form_if a.two))
          (drop kind-line'.result.at a.file.now) kind-line'.result.at ∙ found-if
          number-line'.result.value a.file.now number-line'.result number-line'.ensures c.if-not-opening.false,
      line-is "length" (decimal (form_if a.two)) (drop number-line'.result.at a.file.now) number-line'.result.at ∙
          found-if number-line2'.result.value a.file.now number-line2'.result number-line2'.ensures
          c.if-not-length.false,
      line-is "used" (decimal (form_if a.two)) (drop number-line2'.result.at a.file.now)
          number-line2'.result.at ∙ found-if number-line3'.result.value a.file.now number-line3'.result
          number-line3'.ensures c.if-not-used.false,
      line-is "done" (decimal (form_if a.two))
          (drop number-line3'.result.at a.file.now) number-line3'.result.at ∙ failed-if
          number-line4'.result.value a.file.now number-line4'.result number-line4'.ensures c.if-not-done.true,
    )

mark-line-requires : tie.Need-mark_line-saved-requires
mark-line-requires c κs = search rules

no-head-requires-6 : tie.Need-no_head-requires-then-not-saved
no-head-requires-6 c κs = search rules

returns-6 : tie.Need-returns-then-not-saved
returns-6 c =
    let a = c.args in
    let kind-line' = c.kind_line-kind in
    let number-line' = c.number_line-opening in
    let number-line2' = c.number_line-length in
    let number-line3' = c.number_line-used
    in
    let number-line4' = c.number_line-done in
    let mark-line' = c.mark_line-saved in
    let no-head6' = c.no_head-then-not-saved in
    rw (
      no-head6'.ensures.0,
      no-head6'.ensures.1,
      line-is "kind" kind_name
          (drop a.from a.file.now) a.from ∙ found-if (kind_of kind-line'.result.value)
          a.file.now kind-line'.result kind-line'.ensures c.if-not-kind.false,
      line-is "opening" (decimal (form_if a.two))
          (drop kind-line'.result.at a.file.now) kind-line'.result.at ∙ found-if
          number-line'.result.value a.file.now number-line'.result number-line'.ensures c.if-not-opening.false,
      line-is "length" (decimal (form_if a.two)) (drop number-line'.result.at a.file.now) number-line'.result.at ∙
          found-if number-line2'.result.value a.file.now number-line2'.result number-line2'.ensures
          c.if-not-length.false,
      line-is "used" (decimal (form_if a.two)) (drop number-line2'.result.at a.file.now)
          number-line2'.result.at ∙ found-if number-line3'.result.value a.file.now number-line3'.result
          number-line3'.ensures c.if-not-used.false,
      line-is "done" (decimal (form_if a.two))
          (drop number-line3'.result.at a.file.now) number-line3'.result.at ∙ found-if
          number-line4'.result.value a.file.now number-line4'.result number-line4'.ensures c.if-not-done.false,
      line-is "saved" (mark (form_if a.two)) (drop number-line4'.result.at a.file.now) number-line4'.result.at ∙
          is-failed mark-line'.result.mark a.file.now mark-line'.result.ok mark-line'.result.at
          mark-line'.ensures (not_yes _ c.if-not-saved.true),
    )

kind-of-requires : tie.Need-kind_of-name-requires
kind-of-requires c κs = search rules

head-of-requires : tie.Need-head_of-requires
head-of-requires c κs = search rules

returns-7 : tie.Need-returns
returns-7 c =
    let a = c.args in
    let kind-line' = c.kind_line-kind in
    let number-line' = c.number_line-opening in
    let number-line2' = c.number_line-length in
    let number-line3' = c.number_line-used in
    let number-line4' = c.number_line-done in
    let mark-line' = c.mark_line-saved in
    let kind-of' = c.kind_of-name in
    let head-of' = c.head_of in
    rw (
      head-of'.ensures.0,
      head-of'.ensures.1,
      head-of'.ensures.2,
      head-of'.ensures.3,
      kind-of'.ensures,
      line-is "kind" kind_name
          (drop a.from a.file.now) a.from ∙ found-if (kind_of kind-line'.result.value)
          a.file.now kind-line'.result kind-line'.ensures c.if-not-kind.false,
      line-is "opening" (decimal (form_if a.two))
          (drop kind-line'.result.at a.file.now) kind-line'.result.at ∙ found-if
          number-line'.result.value a.file.now number-line'.result number-line'.ensures c.if-not-opening.false,
      line-is "length" (decimal (form_if a.two)) (drop number-line'.result.at a.file.now) number-line'.result.at ∙
          found-if number-line2'.result.value a.file.now number-line2'.result number-line2'.ensures
          c.if-not-length.false,
      line-is "used" (decimal (form_if a.two)) (drop number-line2'.result.at a.file.now)
          number-line2'.result.at ∙ found-if number-line3'.result.value a.file.now number-line3'.result
          number-line3'.ensures c.if-not-used.false,
      line-is "done" (decimal (form_if a.two))
          (drop number-line3'.result.at a.file.now) number-line3'.result.at ∙ found-if
          number-line4'.result.value a.file.now number-line4'.result number-line4'.ensures c.if-not-done.false,
      line-is "saved" (mark (form_if a.two)) (drop number-line4'.result.at a.file.now) number-line4'.result.at ∙
          is_found mark-line'.result.mark a.file.now mark-line'.result.ok mark-line'.result.at
          mark-line'.ensures (not-no _ c.if-not-saved.false),
    )

pub page_lines_spec : {M : Type 1} → statement M
page_lines_spec =
    tie.close
    (tie.spec
    kind-line-requires
    no-head-requires
    returns
    number-line-requires
    no-head-requires-2
    returns-2
    number-line-requires-2
    no-head-requires-3
    returns-3
    number-line-requires-3
    no-head-requires-4
    returns-4
    number-line-requires-4
    no-head-requires-5
    returns-5
    mark-line-requires
    no-head-requires-6
    returns-6
    kind-of-requires
    head-of-requires
    returns-7)
