use Prim.Native.Nat.{ℕ}
use mathlib.Core.Path.{◌≡◌, refl, sym, ap, ◌∙◌}
use mathlib.Core.Bool.{false}
use mathlib.Core.List.{List, []}
use native.Mathlib.Omega.{arith}
use lib.ListN.{length, take}
use lib.Dec.{ltb}
use borrow.Author.Rules.{rules}
use borrow.Author.Tests.{le-ltb}
use Rattle.answer.specs.Answer.{in_numbers, limit}
use Rattle.answer.specs.Output.{filled}
use Rattle.reading.proofs.Filling.{into-refused, into-count, into-short, into-filled, few-cells}
use Rattle.reading.specs.Reading.{reading}
use Rattle.mailbox.specs.Rule.{mailbox}
use Rattle.mailbox.proofs.Kept.{mailbox-kept}
use Rattle.utf7_whole.proofs.Mailbox.{holds-start}
use Rattle.utf7_whole.proofs.names.through.Statement.{statement}
use Rattle.utf7_whole.proofs.names.through.Tie as tie

-- what was known at the start, from behind the reading
abbrev start : tie.After-decode-found → tie.Start
start d = d.before.before.before.before.before.before.before.before.before.before.before

pad-requires : tie.Need-pad-requires
pad-requires c κs = search rules

start-requires : tie.Need-start-requires
start-requires c κs = search rules

decode-requires : tie.Need-decode-found-requires
decode-requires c κs =
    let s = c in
    let z = c.start.ensures in
    ((omega (arith, few-cells mailbox s.args.text.now, s.requires.1.1.1), omega (arith, z.0)), (c.pad.ensures, holds-start _ _ _ z.0 z.1 z.2))

within : (c : tie.After-decode-found) → ltb limit (length (start c).args.text.now) ≡ false
within c = le-ltb limit _ (start c).requires.0

enum_told : tie.Need-enum_told-1
enum_told c = search rules

same_length : tie.Need-shape_of-room-in-Err
same_length c = search rules

same-length-2 : tie.Need-shape_of-cells-in-Err
same-length-2 c = search rules

returns : tie.Need-returns-in-Err
returns c =
    let d = c.before.before.before in
    into-refused mailbox-kept _ _ (within d) d.decode-found.ensures.0 c.in-Err.is

enum-known-found : tie.Need-enum_known-found
enum-known-found c = search rules

same-length-3 : tie.Need-shape_of-room-then-out-n
same-length-3 c = search rules

same-length-4 : tie.Need-shape_of-cells-then-out-n
same-length-4 c = search rules

returns-2 : tie.Need-returns-then-out-n
returns-2 c =
    let f = c in
    let d = f.before.before.before.before in
    into-short mailbox-kept _ _ (within d) d.decode-found.ensures.0 f.in-Ok.is c.if-out-n.true

copy-requires : tie.Need-copy-requires
copy-requires c κs =
    let f = c in
    let d = f.before.before.before.before.before in
    let t = (start d).args.text.now in
    let n = into-count mailbox-kept t [] (within d) d.decode-found.ensures.0 f.in-Ok.is in
    (omega (arith, n, few-cells mailbox t, (start d).requires.1.1.1, d.decode-found.auto.out), c.if-out-n.false)

same-length-5 : tie.Need-shape_of-room
same-length-5 c = search rules

same-length-6 : tie.Need-shape_of-cells
same-length-6 c = search rules

same-length-7 : tie.Need-shape_of-out
same-length-7 c = search rules

returns-3 : tie.Need-returns
returns-3 c =
    let f = c in
    let d = f.before.before.before.before.before.before.before.before in
    let a = (start d).args in
    let n = into-count mailbox-kept a.text.now [] (within d) d.decode-found.ensures.0 f.in-Ok.is in
    let k : take f.in-Ok.n d.decode-found.new.out ≡ (reading mailbox a.text.now).cells =
    ap (λ (m : ℕ). take m d.decode-found.new.out) n ∙ d.decode-found.ensures.1 in
    into-filled mailbox-kept _ _ (within d) (ap in_numbers (sym f.in-Ok.is) ∙ d.decode-found.ensures.0) refl c.if-out-n.false
    (c.copy.ensures ∙ ap (λ (z : List ℕ). filled z a.out.now) k)

pub through_spec : {M : Type 1} → statement M
through_spec =
    tie.close
    (tie.spec
    pad-requires
    start-requires
    decode-requires
    enum_told
    same_length
    same-length-2
    returns
    enum-known-found
    same-length-3
    same-length-4
    returns-2
    copy-requires
    same-length-5
    same-length-6
    same-length-7
    returns-3)
