use Prim.Native.Nat.{ℕ}
use mathlib.Core.Path.{◌≡◌, ap, sym, ◌∙◌}
use mathlib.Core.Bool.{true, false, false≢true}
use mathlib.Core.Logic.{inl, inr}
use native.Mathlib.Omega.{arith}
use Rattle.scan.specs.declared.Found.{Found}
use Rattle.scan.proofs.Hexes.{Scanned, scan-fails, scan-found, scan-spans, list-past}
use borrow.Author.Rules.{rules}
use Rattle.scan.proofs.line_of.Statement.{statement}
use Rattle.scan.proofs.line_of.Tie as tie

scanned :
    (c : tie.After-digits_end-end) → let a = c.args in
    Scanned a.s.now a.k a.least a.most a.from c.up_to-to.result c.digits_end-end.result
scanned c =
    let u = c.up_to-to.ensures in
    let d = c.digits_end-end.ensures in
    record {
      digital = omega arith;
      need = omega arith;
      from_end = d.0;
      end-to = d.1;
      to_end = u.1;
      capped = u.3;
      cap = u.2;
      digits = d.2;
      stop = d.3;
    }

no_span : {X : Type 0} (r : Found) (at : ℕ) → r ≡ record { ok = false; value = 0; at = at } → r.ok ≡ true → X
no_span r at e h = absurd (false≢true (sym (ap (λ (x : Found). x.ok) e) ∙ h))

not-found-requires : tie.Need-not_found-requires
not-found-requires c κs = search rules

returns : tie.Need-returns-then-s-from
returns c =
    let a = c.args in
    let not-found' = c.not_found in (
      rw not-found'.ensures (list-past a.s.now a.k a.least a.most a.from (omega arith)
          (omega arith)),
      no_span _ _ not-found'.ensures,
    )

up-to-requires : tie.Need-up_to-to-requires
up-to-requires c κs = search rules

digits-end-requires : tie.Need-digits_end-end-requires
digits-end-requires c κs = search rules

not-found-requires-2 : tie.Need-not_found-requires-then-s-end
not-found-requires-2 c κs = search rules

returns-2 : tie.Need-returns-then-s-end
returns-2 c =
    let not-found2' = c.not_found-then-s-end in (
      rw not-found2'.ensures (scan-fails (scanned c.before.before) (λ l _. absurd (omega arith))),
      no_span _ _
          not-found2'.ensures,
    )

shared-slice-read-if3 : tie.Need-bounds-s-end
shared-slice-read-if3 c = search rules

not-found-requires-3 : tie.Need-not_found-requires-then-s-end-ne10
not-found-requires-3 c κs = search rules

returns-3 : tie.Need-returns-then-s-end-ne10
returns-3 c =
    let if3' = c.if-s-end-ne10 in
    let not-found3' = c.not_found-then-s-end-ne10 in (
      rw not-found3'.ensures (scan-fails (scanned c.before.before.before.before)
          (λ _ e. absurd (if3'.true e))),
      no_span _ _ not-found3'.ensures,
    )

sub-size : tie.Need-overflow_sub-size
sub-size c = search rules

rem-if4 : tie.Need-nonzero_rem-size
rem-if4 c = search rules

not-found-requires-4 : tie.Need-not_found-requires-then-size-k-ne0
not-found-requires-4 c κs = search rules

returns-4 : tie.Need-returns-then-size-k-ne0
returns-4 c =
    let if4' = c.if-size-k-ne0 in
    let not-found4' = c.not_found-then-size-k-ne0 in (
      rw not-found4'.ensures (scan-fails (scanned c.before.before.before.before.before)
          (λ _ _. inl (omega (arith, if4'.true)))),
      no_span _ _ not-found4'.ensures,
    )

div-n : tie.Need-nonzero_div-n
div-n c = search rules

not-found-requires-5 : tie.Need-not_found-requires-then-n-least
not-found-requires-5 c κs = search rules

returns-5 : tie.Need-returns-then-n-least
returns-5 c =
    let if5' = c.if-n-least in
    let not-found5' = c.not_found-then-n-least in (
      rw not-found5'.ensures (scan-fails (scanned c.before.before.before.before.before.before)
          (λ _ _. inr if5'.true)),
      no_span _ _ not-found5'.ensures,
    )

add-t10 : tie.Need-overflow_add-result
add-t10 c = search rules

returns-6 : tie.Need-returns
returns-6 c =
    let if3' = c.if-s-end-ne10 in
    let if4' = c.if-size-k-ne0 in (
      scan-found (scanned c.before.before.before.before.before) (omega arith) if3'.false
          (omega (arith, if4'.false)) (omega arith),
      λ _. scan-spans
          (scanned c.before.before.before.before.before) (omega arith) (omega (arith, if4'.false)) (omega arith),
    )

pub line_of_spec : {M : Type 1} → statement M
line_of_spec =
    tie.close
    (tie.spec
    not-found-requires
    returns
    up-to-requires
    digits-end-requires
    not-found-requires-2
    returns-2
    shared-slice-read-if3
    not-found-requires-3
    returns-3
    sub-size
    rem-if4
    not-found-requires-4
    returns-4
    div-n
    not-found-requires-5
    returns-5
    add-t10
    returns-6)
