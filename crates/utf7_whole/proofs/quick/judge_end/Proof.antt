use Prim.Native.Nat.{◌<◌}
use mathlib.Core.Path.{refl, sym, ◌∙◌}
use native.Mathlib.Omega.{arith}
use borrow.Author.Rules.{rules}
use Rattle.utf7_whole.proofs.Tokens.{ends-closed}
use Rattle.utf7_whole.proofs.quick.judge_end.Statement.{statement}
use Rattle.utf7_whole.proofs.quick.judge_end.Tie as tie

returns : tie.Need-returns-then-end-from
returns c = λ f. absurd (f refl)

sub-may-close : tie.Need-overflow_sub-end
sub-may-close c = search rules

sub-may-close-2 : tie.Need-overflow_sub-end-2
sub-may-close-2 c = search rules

shared-slice-read-may-close : tie.Need-bounds-text-end
shared-slice-read-may-close c = search rules

may-close-requires : tie.Need-may_close-requires
may-close-requires c κs = search rules

returns-2 : tie.Need-returns-then-may_close
returns-2 c = λ f.
    let l = c.requires in
    let h : c.args.from < c.args.end = omega (arith, l.letters.ordered, f) in
    record { some = h; letters = l.letters; over = l.over; ends = ends-closed 47 l.letters h (sym c.may_close.ensures ∙ c.if-may_close.true) }

returns-3 : tie.Need-returns
returns-3 c = λ f. absurd (f refl)

pub judge_end_spec : {M : Type 1} → statement M
judge_end_spec =
    tie.close
    (tie.spec
    returns
    sub-may-close
    sub-may-close-2
    shared-slice-read-may-close
    may-close-requires
    returns-2
    returns-3)
