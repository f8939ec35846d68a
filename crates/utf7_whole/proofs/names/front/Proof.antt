use mathlib.Core.Path.{◌≡◌, refl, sym, ap, ◌∙◌}
use mathlib.Core.Bool.{false}
use mathlib.Core.List.{[]}
use native.Mathlib.Omega.{arith}
use lib.Dec.{ltb}
use lib.ListN.{length, take, drop}
use lib.Seq.{length-take-le}
use borrow.Author.Rules.{rules}
use borrow.Author.Tests.{le-ltb}
use Rattle.answer.specs.Answer.{in_numbers, limit}
use Rattle.reading.specs.Reading.{reading}
use Rattle.reading.proofs.Filling.{into-refused, into-count, into-short, into-filled}
use Rattle.mailbox.specs.Rule.{mailbox}
use Rattle.mailbox.proofs.Kept.{mailbox-kept}
use Rattle.utf7_whole.specs.Mailbox.{Holds}
use Rattle.utf7_whole.proofs.Buffers.{padded-self, all-front, filled_in}
use Rattle.utf7_whole.proofs.Mailbox.{holds-start, holds_on, holds-copy, filled-behind}
use Rattle.utf7_whole.proofs.names.front.Statement.{statement}
use Rattle.utf7_whole.proofs.names.front.Tie as tie

start-requires : tie.Need-start-requires
start-requires c κs = search rules

fill-requires : tie.Need-fill-r-requires
fill-requires c κs = let z = c.start.ensures in (omega (arith, z.0), omega (arith, z.1))

-- the front is in the buffer
held : (f : tie.After-fill-r) → Holds f.args.text.now f.fill-r.result f.fill-r.new.out
held f = let z = f.start.ensures in holds_on (f.fill-r.ensures _ (padded-self _) (omega (arith, z.0))) (holds-start _ _ _ z.0 z.1 z.2)

measure-requires : tie.Need-measure-found-requires
measure-requires c κs = (held c.before.before).left

within : (m : tie.After-measure-found) → ltb limit (length m.args.text.now) ≡ false
within m = le-ltb limit _ m.requires

enum_told : tie.Need-enum_told-1
enum_told c = search rules

same_length : tie.Need-shape_of-cells-in-Err
same_length c = search rules

returns : tie.Need-returns-in-Err
returns c = let m = c.before in into-refused mailbox-kept _ _ (within m) m.measure-found.ensures c.in-Err.is

enum-known-found : tie.Need-enum_known-found
enum-known-found c = search rules

same-length-2 : tie.Need-shape_of-cells-then-out-count
same-length-2 c = search rules

returns-2 : tie.Need-returns-then-out-count
returns-2 c =
    let f = c in
    let m = f.before.before in
    into-short mailbox-kept _ _ (within m) m.measure-found.ensures f.in-Ok.is c.if-out-count.true

-- as many as the text has cells
count : (f : tie.In-Ok) → f.in-Ok.count ≡ length (reading mailbox f.args.text.now).cells
count f = let m = f.before in into-count mailbox-kept _ [] (within m) m.measure-found.ensures f.in-Ok.is

copy-requires : tie.Need-copy-requires
copy-requires c κs =
    let h = held c.before.before.before.before.before.before in
    (filled_in h, omega (arith, h.left.inside, count c.before.before, c.if-out-count.false))

slice-relend-prefix-decode : tie.Need-slice_bounds-decode-end
slice-relend-prefix-decode c = search rules

-- that many are lent
lent : (k : tie.After-copy) → let n = k.in-Ok.count in length (take n k.copy.new.out) ≡ n
lent k = length-take-le _ _ (omega (arith, k.if-out-count.false, k.copy.auto.out))

slice-aggregate-decode : tie.Need-slice_bounds-decode-end-in-Ok
slice-aggregate-decode c = sym (lent c.before.before.before)

decode-requires : tie.Need-decode-requires
decode-requires c κs =
    let k = c.before.before.before in
    let h = held k.before.before.before.before.before.before.before in
    let n = count k.before.before.before in
    ((omega (arith, lent k, n), h.left.within), (padded-self _, holds-copy _ k.in-Ok.count h k.copy.ensures (omega (arith, h.left.inside, n))))

same-length-3 : tie.Need-shape_of-cells
same-length-3 c = search rules

same-length-4 : tie.Need-shape_of-out
same-length-4 c = search rules

returns-3 : tie.Need-returns
returns-3 c =
    let d = c in
    let k = d.before.before.before.before.before.before in
    let f = k.before.before.before in
    let m = f.before in
    let g = k.before.before.before.before.before.before.before in
    let h = held g in
    let a = m.args in
    let q : d.decode.new.out ≡ (reading mailbox a.text.now).cells =
    all-front (d.decode.auto.out ∙ lent k ∙ count f) d.decode.ensures.1 in
    let b : drop f.in-Ok.count k.copy.new.out ≡ drop f.in-Ok.count a.out.now =
    rw k.copy.ensures (filled-behind (take g.fill-r.result.n g.fill-r.new.out) a.out.now f.in-Ok.count (omega (arith, length-take-le g.fill-r.result.n g.fill-r.new.out (filled_in h), h.left.inside, count f))) in
    into-filled mailbox-kept _ _ (within m) (ap in_numbers (sym f.in-Ok.is) ∙ m.measure-found.ensures) refl k.if-out-count.false
    (rw (q, b, count f))

pub front_spec : {M : Type 1} → statement M
front_spec =
    tie.close
    (tie.spec
    start-requires
    fill-requires
    measure-requires
    enum_told
    same_length
    returns
    enum-known-found
    same-length-2
    returns-2
    copy-requires
    slice-relend-prefix-decode
    slice-aggregate-decode
    decode-requires
    same-length-3
    same-length-4
    returns-3)
