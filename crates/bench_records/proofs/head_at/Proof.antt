use mathlib.Core.Path.{sym}
use borrow.Author.Rules.{rules}
use Rattle.bench_records.proofs.head_at.Statement.{statement}
use Rattle.bench_records.proofs.head_at.Tie as tie

mul_wide : tie.Need-offset_bounds-history-at
mul_wide c = search rules

shared-slice-read-wide : tie.Need-bounds-history-at
shared-slice-read-wide c = search rules

wide-requires : tie.Need-wide-bench-requires
wide-requires c κs = search rules

add_wide : tie.Need-overflow_add-at
add_wide c = search rules

mul-wide-2 : tie.Need-offset_bounds-history-at-2
mul-wide-2 c = search rules

shared-slice-read-wide-2 : tie.Need-bounds-history-at-2
shared-slice-read-wide-2 c = search rules

wide-requires-2 : tie.Need-wide-place-requires
wide-requires-2 c κs = search rules

add-wide-2 : tie.Need-overflow_add-at-2
add-wide-2 c = search rules

mul-wide-3 : tie.Need-offset_bounds-history-at-3
mul-wide-3 c = search rules

shared-slice-read-wide-3 : tie.Need-bounds-history-at-3
shared-slice-read-wide-3 c = search rules

wide-requires-3 : tie.Need-wide-removed-requires
wide-requires-3 c κs = search rules

add-wide-3 : tie.Need-overflow_add-at-3
add-wide-3 c = search rules

mul-wide-4 : tie.Need-offset_bounds-history-at-4
mul-wide-4 c = search rules

shared-slice-read-wide-4 : tie.Need-bounds-history-at-4
shared-slice-read-wide-4 c = search rules

wide-requires-4 : tie.Need-wide-added-requires
wide-requires-4 c κs = search rules

returns : tie.Need-returns
returns c = (
  rw (
    sym c.wide-bench.ensures.0,
    sym c.wide-place.ensures.0,
    sym c.wide-removed.ensures.0,
    sym c.wide-added.ensures.0,
  ),
  c.wide-place.ensures.1,
  c.wide-removed.ensures.1,
  c.wide-added.ensures.1,
)

pub head_at_spec : {M : Type 1} → statement M
head_at_spec =
    tie.close
    (tie.spec
    mul_wide
    shared-slice-read-wide
    wide-requires
    add_wide
    mul-wide-2
    shared-slice-read-wide-2
    wide-requires-2
    add-wide-2
    mul-wide-3
    shared-slice-read-wide-3
    wide-requires-3
    add-wide-3
    mul-wide-4
    shared-slice-read-wide-4
    wide-requires-4
    returns)
