use Prim.Native.Nat.{◌+◌, ◌-◌, ◌≤◌}
use mathlib.Core.Path.{◌≡◌, ap, ◌∙◌}
use native.Mathlib.Omega.{arith}
use lib.ListN.{length, take, drop}
use borrow.Author.Rules.{rules}
use Rattle.same_lines.specs.Told.{says}
use Rattle.same_lines.proofs.Laying.{says-few, said-size, said-out, lines_next, lines-room}
use Rattle.same_lines.proofs.with_line.Statement.{statement}
use Rattle.same_lines.proofs.with_line.Tie as tie

part-bytes-end : tie.Need-slice_bounds-bytes-end
part-bytes-end c = omega (arith, c.requires.0.room)

-- the line has room
abbrev Room : tie.After-say-said → Type 0
Room w =
    let a = w.args in
    length (says a.name.now a.n)
    ≤ length (take (128 - a.lines.size) (drop a.lines.size a.lines.bytes))

room : (w : tie.After-say-said) → Room w
room w =
    let s = w in
    omega (arith, says-few s.args.name.now s.args.n, s.requires.0.few, s.requires.1, w.bytes-2-1.given.1)

abbrev Size : tie.After-place → Type 0
Size c =
    let a = c.args in
    c.place.result ≡ length (says a.name.now a.n)

size : (c : tie.After-place) → Size c
size c =
    let w = c.before.before in
    let a = w.args in
    c.place.ensures ∙ said-size a.name.now a.n _ _ w.say-said.result w.say-said.ensures (room w)

add-size : tie.Need-overflow_add-size
add-size c =
    let s = c in
    omega (arith, size c, says-few s.args.name.now s.args.n, s.requires.0.few, s.requires.1)

returns : tie.Need-returns
returns c =
    let w = c.before.before in
    let s = w in
    let a = s.args in
    let few = says-few a.name.now a.n in
    let out = said-out a.name.now a.n _ _ w.say-said.result w.say-said.ensures (room w) in (
      record {
        room =
            lines-room a.lines (says a.name.now a.n) _ s.requires.0.room (omega (arith, s.requires.0.few))
            (room w) out;
        few = omega (arith, size c, few);
      },
      λ l e.
          lines_next a.lines l (says a.name.now a.n) _ _ e s.requires.0.room
          (omega (arith, few, s.requires.0.few, s.requires.1)) out (ap (λ k. a.lines.size + k) (size c)),
    )

pub with_line_spec : {M : Type 1} → statement M
with_line_spec =
    tie.close
    (tie.spec
    (λ c. search rules)
    (λ c. search rules)
    part-bytes-end
    (λ c κs. search rules)
    (λ c κs. search rules)
    add-size
    returns)
