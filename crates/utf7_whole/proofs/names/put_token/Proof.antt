use Prim.Native.Nat.{ℕ, ◌<◌}
use mathlib.Core.Path.{sym, ◌∙◌}
use mathlib.Core.List.{List}
use native.Mathlib.Omega.{arith}
use lib.ListN.{length}
use borrow.Author.Rules.{rules}
use Rattle.answer.proofs.Laid.{laid_none}
use Rattle.utf7_whole.specs.Quick.{Padded}
use Rattle.utf7_whole.specs.Mailbox.{Puts}
use Rattle.utf7_whole.proofs.Mailbox.{puts-stay, puts-sign, puts_one, sign-in}
use Rattle.utf7_whole.proofs.names.put_token.Statement.{statement}
use Rattle.utf7_whole.proofs.names.put_token.Tie as tie

add-if1 : tie.Need-overflow_add-at
add-if1 c = search rules

shared-slice-read-if1 : tie.Need-bounds-text-at
shared-slice-read-if1 c = search rules

mul-out : tie.Need-offset_bounds-out-n
mul-out c = search rules

slice-write-out : tie.Need-bounds-out-n
slice-write-out c = search rules

add-t11 : tie.Need-overflow_add-result
add-t11 c = search rules

add-t13 : tie.Need-overflow_add-result-then-text-at-eq45
add-t13 c = search rules

same_length : tie.Need-shape_of-out-then-text-at-eq45
same_length c = search rules

returns : tie.Need-returns-then-text-at-eq45
returns c = λ s q. let b = c in puts-sign q b.args.from b.requires.1 b.requires.2 c.if-text-at-eq45.true

-- the reader stays
stays :
    (c : tie.Start) (s : List ℕ) → Padded s c.args.text.now → Puts s c.args.from c.args.out.now c.args.from c.args.out.now
stays c s p = let a = c.args.from in
    let i : a.at < length s = sign-in p a c.requires.1 in
    puts-stay a (omega (arith, i)) (laid_none a.n _)

returns-2 : tie.Need-returns-then-from
returns-2 c = stays c.before.before.before.before.before

add-one-at : tie.Need-overflow_add-at-2
add-one-at c = search rules

one-at-requires : tie.Need-one_at-one-requires
one-at-requires c κs = search rules

is-printable-requires : tie.Need-is_printable-requires
is-printable-requires c κs = search rules

returns-3 : tie.Need-returns-then-is_printable
returns-3 c = stays c.before.before.before.before.before.before.before.before.before

mul-out-2 : tie.Need-offset_bounds-out-n-then-one-lt65536
mul-out-2 c = search rules

slice-write-out-2 : tie.Need-bounds-out-n-then-one-lt65536
slice-write-out-2 c = search rules

add-t15 : tie.Need-overflow_add-result-then-one-lt65536
add-t15 c = search rules

add-t17 : tie.Need-overflow_add-result-then-one-lt65536-2
add-t17 c = search rules

same-length-2 : tie.Need-shape_of-out-then-one-lt65536
same-length-2 c = search rules

returns-4 : tie.Need-returns-then-one-lt65536
returns-4 c = λ s q.
    let t = c in
    let e = t in
    let b = e in
    puts_one q b.args.from b.requires.1 e.if-from.false b.requires.2 (t.one_at-one.ensures t.if-one-lt65536.true) (sym c.is_printable.ensures ∙ c.if-is_printable.false)

put-run-requires : tie.Need-put_run-requires
put-run-requires c κs = search rules

same-length-3 : tie.Need-shape_of-out
same-length-3 c = search rules

returns-5 : tie.Need-returns
returns-5 c = search rules

pub put_token_spec : {M : Type 1} → statement M
put_token_spec =
    tie.close
    (tie.spec
    add-if1
    shared-slice-read-if1
    mul-out
    slice-write-out
    add-t11
    add-t13
    same_length
    returns
    returns-2
    add-one-at
    one-at-requires
    is-printable-requires
    returns-3
    mul-out-2
    slice-write-out-2
    add-t15
    add-t17
    same-length-2
    returns-4
    put-run-requires
    same-length-3
    returns-5)
