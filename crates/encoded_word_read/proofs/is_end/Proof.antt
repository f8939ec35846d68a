use mathlib.Core.Bool.{false≢true}
use Rattle.encoded_word_read.proofs.Words.{end-at}
use native.Mathlib.Omega.{arith}
use borrow.Author.Rules.{rules}
use Rattle.encoded_word_read.proofs.is_end.Statement.{statement}
use Rattle.encoded_word_read.proofs.is_end.Tie as tie

sub-if1 : tie.Need-overflow_sub-line
sub-if1 c = search rules

returns : tie.Need-returns-then-line-at-lt2
returns c = λ e. absurd (false≢true e)

shared-slice-read-result : tie.Need-bounds-line-at
shared-slice-read-result c = search rules

add-result : tie.Need-overflow_add-result
add-result c = search rules

shared-slice-read-result-2 : tie.Need-bounds-line-at-2
shared-slice-read-result-2 c = search rules

returns-2 : tie.Need-returns
returns-2 c =
    let s = c in
    end-at s.args.line.now s.args.at (omega (arith, c.if-line-at-lt2.false, s.requires))

pub is_end_spec : {M : Type 1} → statement M
is_end_spec =
    tie.close
    (tie.spec
    sub-if1
    returns
    shared-slice-read-result
    add-result
    shared-slice-read-result-2
    returns-2)
