use Prim.Native.Nat.{ℕ}
use mathlib.Core.Path.{◌≡◌, refl, sym, ap, ◌∙◌}
use mathlib.Core.Bool.{false}
use mathlib.Core.List.{List, [], ◌++◌}
use native.Mathlib.Omega.{arith}
use lib.ListN.{length, take}
use lib.Seq.{take_at, take-take, length-take-le}
use lib.Dec.{ltb}
use borrow.Author.Rules.{rules}
use borrow.Author.Tests.{le-ltb}
use Rattle.answer.specs.Answer.{in_numbers, limit}
use Rattle.reading.specs.Reading.{reading}
use Rattle.reading.proofs.Laws.{Left, left-start}
use Rattle.reading.proofs.Filling.{into-refused, into-count, into-short, into-filled}
use Rattle.jp2.specs.Rule.{plain, state, jp2}
use Rattle.jp2.proofs.Kept.{jp2-kept}
use Rattle.jp2_whole.proofs.Laying.{laying-left, laying-front, filled-behind, all-front}
use Rattle.jp2_whole.proofs.through.Statement.{statement}
use Rattle.jp2_whole.proofs.through.Tie as tie

fill-on-requires : tie.Need-fill_on-r-requires
fill-on-requires c κs = (omega arith, omega arith)

left :
    (c : tie.After-fill_on-r) →
    let r = c.fill_on-r.result in
    Left jp2 c.args.text.now r.at (state r.g0 r.g2 plain) r.n
left c = laying-left c.fill_on-r.ensures (left-start jp2 _)

within : (c : tie.After-measure-found) → ltb limit (length c.args.text.now) ≡ false
within c = le-ltb limit _ c.requires

measure-requires : tie.Need-measure-found-requires
measure-requires c κs = left c.before.before

enum_told : tie.Need-enum_told-1
enum_told c = search rules

same_length : tie.Need-shape_of-cells-in-Err
same_length c = search rules

returns : tie.Need-returns-in-Err
returns c = into-refused jp2-kept _ _ (within c.before) c.measure-found.ensures c.in-Err.is

enum-known-found : tie.Need-enum_known-found
enum-known-found c = search rules

same-length-2 : tie.Need-shape_of-cells-then-out-n
same-length-2 c = search rules

returns-2 : tie.Need-returns-then-out-n
returns-2 c = into-short jp2-kept _ _ (within c.before.before) c.measure-found.ensures c.in-Ok.is c.if-out-n.true

count : (c : tie.In-Ok) → c.in-Ok.n ≡ length (reading jp2 c.args.text.now).cells
count c = into-count jp2-kept c.args.text.now [] (within c.before) c.measure-found.ensures c.in-Ok.is

copy-requires : tie.Need-copy-requires
copy-requires c κs =
    let f = c.before.before.before.before.before.before in
    (f.fill_on-r.ensures.fits, omega (arith, (left f).inside, count c.before.before, c.if-out-n.false))

slice-relend-prefix-decode : tie.Need-slice_bounds-decode-end
slice-relend-prefix-decode c = search rules

-- as many places are lent as there are cells
lent : (c : tie.After-decode-arg-1) → length (take c.in-Ok.n c.copy.new.out) ≡ c.in-Ok.n
lent c = length-take-le _ _ (omega (arith, c.if-out-n.false, c.copy.auto.out))

slice-aggregate-decode : tie.Need-slice_bounds-decode-end-in-Ok
slice-aggregate-decode c = sym (lent c)

decode-requires : tie.Need-decode-requires
decode-requires c κs =
    let f = c.before.before.before.before.before.before.before.before.before.before in
    let r = f.fill_on-r.result.n in
    let k = length-take-le r f.fill_on-r.new.out f.fill_on-r.ensures.fits in (
      omega (arith, lent c, count c.before.before.before.before.before.before),
      record {
        left = left f;
        front =
            take-take r c.in-Ok.n c.copy.new.out (omega (arith, (left f).inside, count c.before.before.before.before.before.before))
            ∙ (rw c.copy.ensures (take_at _ _ _ k) ∙ laying-front f.fill_on-r.ensures (left-start jp2 _) refl);
      },
    )

same-length-3 : tie.Need-shape_of-cells
same-length-3 c = search rules

same-length-4 : tie.Need-shape_of-out
same-length-4 c = search rules

returns-3 : tie.Need-returns
returns-3 c =
    let f = c.before.before.before.before.before.before.before.before.before.before.before.before.before in
    let t = c.args.text.now in
    let k = length-take-le f.fill_on-r.result.n f.fill_on-r.new.out f.fill_on-r.ensures.fits in
    let b = filled-behind (take f.fill_on-r.result.n f.fill_on-r.new.out) c.args.out.now (length (reading jp2 t).cells) (omega (arith, k, (left f).inside)) in
    let e : c.decode.new.out ≡ (reading jp2 t).cells =
    all-front (c.decode.auto.out ∙ lent c.before.before.before ∙ count c.before.before.before.before.before.before.before.before.before) c.decode.ensures in
    into-filled jp2-kept _ _ (within c.before.before.before.before.before.before.before.before.before.before) (ap in_numbers (sym c.in-Ok.is) ∙ c.measure-found.ensures) refl c.if-out-n.false
    (rw (e, count c.before.before.before.before.before.before.before.before.before) (ap (λ (z : List ℕ). (reading jp2 t).cells ++ z) (rw c.copy.ensures b)))

pub through_spec : {M : Type 1} → statement M
through_spec =
    tie.close
    (tie.spec
    fill-on-requires
    measure-requires
    enum_told
    same_length
    returns
    enum-known-found
    same-length-2
    returns-2
    copy-requires
    slice-relend-prefix-decode
    slice-aggregate-decode
    decode-requires
    same-length-3
    same-length-4
    returns-3)
