use Rattle.encoded_word_read.proofs.Heads.{head-on-last, head-on}
use mathlib.Core.Path.{sym, ◌∙◌}
use Rattle.encoded_word_read.proofs.Heads.{head-none, head-off}
use mathlib.Core.Path.{sym, ◌∙◌}
use native.Mathlib.Omega.{arith}
use borrow.Author.Rules.{rules}
use Rattle.encoded_word_read.proofs.in_head.Statement.{statement}
use Rattle.encoded_word_read.proofs.in_head.Tie as tie

returns : tie.Need-returns-then-k-gt12
returns c = let h = c.if-k-gt12.true in sym (head-none c.args.k c.args.b (omega arith))

due-at-requires : tie.Need-due_at-requires
due-at-requires c κs = search rules

returns-2 : tie.Need-returns-then-b-due_at
returns-2 c =
    let h = c.if-k-gt12.false in
    let a = c.args in
    sym (head-off a.k a.b (omega arith) (λ e. c.if-b-due_at.true (e ∙ sym c.due_at.ensures)))

returns-3 : tie.Need-returns-then-k-eq12
returns-3 c = head-on-last _ _ c.if-k-eq12.true (c.if-b-due_at.false ∙ c.due_at.ensures)

add-t9 : tie.Need-overflow_add-result
add-t9 c = search rules

returns-4 : tie.Need-returns
returns-4 c =
    let h = c.if-k-gt12.false in
    let a = c.args in
    head-on a.k a.b (omega (arith, c.if-k-eq12.false)) (c.if-b-due_at.false ∙ c.due_at.ensures)

pub in_head_spec : {M : Type 1} → statement M
in_head_spec = tie.close (tie.spec returns due-at-requires returns-2 returns-3 add-t9 returns-4)
