use Rattle.std.proofs.Common.{◌+◌, sym, length, arith}
use borrow.Author.Tests.{le-leb, lt-leb}
use Rattle.page.specs.Steps.{change_found}
use Rattle.page.proofs.change_at.Goals as goal
use Rattle.page.proofs.change_at.Goals.{then-history-lt3-via-then-history-lt3, then-history-lt3-via-else-history-lt3+then-history-at}

pub returns-then-history-lt3 : goal.returns-then-history-lt3
unfolding change_found
returns-then-history-lt3 c =
    let a = c.args in
    elim c.then-history-lt3.branch [
      | then-history-lt3-via-then-history-lt3 w ↦
          rw (lt-leb (a.at + 3) (length a.history.now) (omega arith)) c.no_change.ensures
      | then-history-lt3-via-else-history-lt3+then-history-at w ↦
          rw (lt-leb (a.at + 3) (length a.history.now) (omega arith)) c.no_change.ensures
    ]

pub returns-then-forward : goal.returns-then-forward
unfolding change_found
returns-then-forward c =
    let a = c.args in
    rw (
      le-leb (a.at + 3) (length a.history.now) (omega arith),
      c.if-forward.true,
      sym c.wide-place.ensures.0,
      sym c.wide-removed.ensures.0,
      sym c.wide-added.ensures.0,
    )

pub returns-else-forward : goal.returns-else-forward
unfolding change_found
returns-else-forward c =
    let a = c.args in
    rw (
      le-leb (a.at + 3) (length a.history.now) (omega arith),
      c.if-forward.false,
      sym c.wide-place.ensures.0,
      sym c.wide-removed.ensures.0,
      sym c.wide-added.ensures.0,
    )
