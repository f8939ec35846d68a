use Prim.Native.Nat.{ℕ, ◌<◌}
use mathlib.Core.Path.{sym, ◌∙◌}
use mathlib.Core.List.{List}
use native.Mathlib.Omega.{arith}
use lib.ListN.{length}
use borrow.Author.Rules.{rules}
use borrow.Author.Tests.{eqb-true}
use Rattle.utf7_whole.specs.Quick.{Padded}
use Rattle.utf7_whole.specs.Mailbox.{Puts}
use Rattle.utf7_whole.proofs.Buffers.{laid-room}
use Rattle.utf7_whole.proofs.Mailbox.{puts-stay, puts-run, sign-in, others}
use Rattle.utf7_whole.proofs.names.put_run.Statement.{statement}
use Rattle.utf7_whole.proofs.names.put_run.Tie as tie

add-put-run : tie.Need-overflow_add-at
add-put-run c = search rules

put-run-requires : tie.Need-put_run-r-requires
put-run-requires c κs = let q = c.requires.0 in (omega arith, omega (arith, q.0), q.2)

add-if1 : tie.Need-overflow_add-at-2
add-if1 c = search rules

-- what was known at the start, from behind the run
abbrev start : tie.After-put_run-r → tie.Start
start c = c.before.before.before.before

same_length : tie.Need-shape_of-out-then-end-at
same_length c = search rules

-- the reader stays
stays :
    (c : tie.After-put_run-r) (s : List ℕ) → Padded s (start c).args.text.now →
    Puts s (start c).args.from (start c).args.out.now (start c).args.from c.put_run-r.new.out
stays c s p = let a = (start c).args.from in
    let i : a.at < length s = sign-in p a (start c).requires.0.1 in
    puts-stay a (omega (arith, i)) c.put_run-r.ensures.kept

returns : tie.Need-returns-then-end-at
returns c = stays c.before.before.before

has-printable-requires : tie.Need-has_printable-requires
has-printable-requires c κs =
    let z = c.if-end-at.false in
    let p = c.before.before.before in
    omega (arith, p.put_run-r.ensures.count z, laid-room (p.put_run-r.ensures.laid z) (start p).requires.0.2)

same-length-2 : tie.Need-shape_of-out-then-has_printable
same-length-2 c = search rules

returns-2 : tie.Need-returns-then-has_printable
returns-2 c = stays c.before.before.before.before.before

is-dash-requires : tie.Need-is_dash-requires
is-dash-requires c κs = search rules

add-t16 : tie.Need-overflow_add-result
add-t16 c =
    let e = c in
    omega (arith, (e.put_run-r.ensures.run e.if-end-at.false).letters.within)

same-length-3 : tie.Need-shape_of-out-then-is_dash
same-length-3 c = search rules

returns-3 : tie.Need-returns-then-is_dash
returns-3 c = λ s q.
    let d = c in
    let h = d in
    let e = h in
    let p = e.before.before.before.before.before.before.before in
    let z = e.if-end-at.false in
    let w = p.put_run-r.ensures in
    let k = (start p).requires.0.2 in
    puts-run q (start p).args.from (start p).requires.0.1 (start p).requires.1 (w.run z) (eqb-true _ _ (sym d.is_dash.ensures ∙ c.if-is_dash.true))
    (others _ (w.laid z) k (λ i l m. h.has_printable.ensures h.if-has_printable.false i l (omega (arith, m, w.count z)))) (w.laid z) (w.count z)

same-length-4 : tie.Need-shape_of-out
same-length-4 c = search rules

returns-4 : tie.Need-returns
returns-4 c = stays c.before.before.before.before.before.before.before

pub put_run_spec : {M : Type 1} → statement M
put_run_spec =
    tie.close
    (tie.spec
    add-put-run
    put-run-requires
    add-if1
    same_length
    returns
    has-printable-requires
    same-length-2
    returns-2
    is-dash-requires
    add-t16
    same-length-3
    returns-3
    same-length-4
    returns-4)
