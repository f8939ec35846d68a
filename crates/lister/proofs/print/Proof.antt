use Prim.Native.Nat.{◌≤◌}
use mathlib.Core.Path.{◌∙◌}
use native.Mathlib.Omega.{arith}
use lib.ListN.{length}
use lib.Seq.{length-take-le}
use Rattle.lister.proofs.Laws.{long-prints, count-few, accepted-prints, refused-prints}
use borrow.Author.Rules.{rules}
use Rattle.lister.proofs.print.Statement.{statement}
use Rattle.lister.proofs.print.Tie as tie

returns : tie.Need-returns-then-text-gt-MOST
returns c =
    let l = c in
    let s = l in
    l.list.ensures
    ∙ long-prints s.args.format s.args.text.now s.args.out.now l.if-text-gt-MOST.true

-- the count of an accepted text is that of cells in the buffer
count-within :
    (c : tie.In-Ok) →
    c.place-count.result ≤ length c.read-found.new.out
count-within c =
    let p = c in
    let r = p in
    let e = r in
    let a = e.args in
    omega (
      arith,
      count-few a.format a.text.now _ _ r.read-found.result e.if-text-gt-MOST.false (search rules) r.read-found.ensures _
          c.in-Ok.is p.place-count.result p.place-count.ensures,
      r.read-found.auto.out,
    )

returns-2 : tie.Need-returns-in-Ok
returns-2 c =
    let l = c in
    let t = l in
    let p = t in
    let r = p in
    let e = r in
    let a = e.args in
    l.list-in-Ok.ensures
    ∙ accepted-prints a.format a.text.now _ _ r.read-found.result e.if-text-gt-MOST.false (search rules) r.read-found.ensures
    _ t.in-Ok.is p.place-count.result p.place-count.ensures (search rules) a.out.now

returns-3 : tie.Need-returns-in-Err
returns-3 c =
    let l = c in
    let t = l in
    let r = t in
    let e = r in
    let a = e.args in
    l.list-in-Err.ensures
    ∙ refused-prints a.format a.text.now _ _ r.read-found.result e.if-text-gt-MOST.false (search rules) r.read-found.ensures
    _ t.in-Err.is a.out.now

pub print_spec : {M : Type 1} → statement M
print_spec =
    tie.close
    (tie.spec
    (λ c. search rules)
    (λ c. search rules)
    (λ c κs. search rules)
    (λ c. search rules)
    returns
    (λ c. search rules)
    (λ c κs. search rules)
    (λ c κs. search rules)
    (λ c. search rules)
    (λ c. omega (arith, count-within c))
    (λ c.
    let p = c in
    let cells = p.read-found.new.out in
    omega (arith, length-take-le p.place-count.result cells (count-within c.before)))
    (λ c κs. search rules)
    (λ c. search rules)
    (λ c. search rules)
    (λ c. search rules)
    (λ c κs. search rules)
    (λ c. search rules)
    returns-2
    (λ c. search rules)
    returns-3)
