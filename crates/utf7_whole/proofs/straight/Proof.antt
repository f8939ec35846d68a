use mathlib.Core.Path.{◌≡◌, refl, sym, ap, ◌∙◌}
use mathlib.Core.Bool.{false}
use mathlib.Core.List.{[]}
use native.Mathlib.Omega.{arith}
use lib.Dec.{ltb}
use lib.ListN.{length, take}
use lib.Seq.{length-take-le}
use borrow.Author.Rules.{rules}
use borrow.Author.Tests.{le-ltb}
use Rattle.answer.specs.Answer.{in_numbers, limit}
use Rattle.reading.specs.Reading.{reading}
use Rattle.reading.proofs.Filling.{into-refused, into-count, into-short, into-filled}
use Rattle.utf7.specs.Rule.{utf7}
use Rattle.utf7.proofs.Kept.{utf7-kept}
use Rattle.utf7_whole.proofs.Buffers.{padded-self, all-front}
use Rattle.utf7_whole.proofs.straight.Statement.{statement}
use Rattle.utf7_whole.proofs.straight.Tie as tie

judge-requires : tie.Need-judge-found-requires
judge-requires c κs = search rules

within : (c : tie.After-judge-found) → ltb limit (length c.args.text.now) ≡ false
within c = le-ltb limit _ c.requires

enum_told : tie.Need-enum_told-1
enum_told c = search rules

returns : tie.Need-returns-in-Err
returns c =
    let j = c.before in
    into-refused utf7-kept _ _ (within j) j.judge-found.ensures c.in-Err.is

enum-known-found : tie.Need-enum_known-found
enum-known-found c = search rules

returns-2 : tie.Need-returns-then-out-count
returns-2 c =
    let f = c in
    let j = f.before.before in
    into-short utf7-kept _ _ (within j) j.judge-found.ensures f.in-Ok.is c.if-out-count.true

slice-relend-prefix-decode : tie.Need-slice_bounds-decode-end
slice-relend-prefix-decode c = search rules

-- as many as the text has cells
count : (c : tie.In-Ok) → c.in-Ok.count ≡ length (reading utf7 c.args.text.now).cells
count f = let j = f.before in into-count utf7-kept _ [] (within j) j.judge-found.ensures f.in-Ok.is

-- and that many are lent
lent : (c : tie.Else-out-count) → length (take c.in-Ok.count c.args.out.now) ≡ c.in-Ok.count
lent c = length-take-le _ _ c.if-out-count.false

slice-aggregate-decode : tie.Need-slice_bounds-decode-end-in-Ok
slice-aggregate-decode c = sym (lent c.before)

decode-requires : tie.Need-decode-requires
decode-requires c κs = (omega (arith, lent c.before, count c.before.before), padded-self _)

same_length : tie.Need-shape_of-out
same_length c = search rules

returns-3 : tie.Need-returns
returns-3 c =
    let d = c in
    let e = d.before.before.before.before in
    let f = e.before in
    let j = f.before in
    let a = j.args in
    let k : d.decode.new.out ≡ (reading utf7 a.text.now).cells =
    all-front (d.decode.auto.out ∙ lent e ∙ count f) d.decode.ensures.1 in
    into-filled utf7-kept _ _ (within j) (ap in_numbers (sym f.in-Ok.is) ∙ j.judge-found.ensures) refl e.if-out-count.false
    (rw (k, count f))

pub straight_spec : {M : Type 1} → statement M
straight_spec =
    tie.close
    (tie.spec
    judge-requires
    enum_told
    returns
    enum-known-found
    returns-2
    slice-relend-prefix-decode
    slice-aggregate-decode
    decode-requires
    same_length
    returns-3)
