use mathlib.Core.Path.{refl, sym}
use native.Mathlib.Omega.{arith}
use borrow.Author.Rules.{rules}
use Rattle.reading.proofs.Filling.{filling-start, few-cells}
use Rattle.jp2.specs.Rule.{jp2}
use Rattle.jp2_plain.proofs.Whole.{as-main-reader, read-refused, read_short, read-room, read-filled}
use Rattle.jp2_plain.proofs.read.Statement.{statement}
use Rattle.jp2_plain.proofs.read.Tie as tie

returns : tie.Need-returns-then-text-gt512
returns c = sym (as-main-reader.longer _ _ c.if-text-gt512.true)

blank-requires : tie.Need-blank-cells-requires
blank-requires c κs = search rules

slice-aggregate-singles : tie.Need-slice_bounds-singles-end
slice-aggregate-singles c = search rules

singles-requires : tie.Need-singles-found-requires
singles-requires c κs =
    let e = c in
    let t = e.args.text.now in
    (filling-start jp2 t _ (omega (arith, few-cells jp2 t, e.if-text-gt512.false, c.blank-cells.ensures)), refl)

enum_told : tie.Need-enum_told-1
enum_told c = search rules

enum-known-found : tie.Need-enum_known-found
enum-known-found c = search rules

returns-2 : tie.Need-returns-then-out-n
returns-2 c =
    let f = c in
    let d = f in
    let h = d.if-text-gt512.false in
    read_short _ _ h d.singles-found.ensures.0 f.in-Ok.is c.if-out-n.true

singles-requires-2 : tie.Need-singles-requires
singles-requires-2 c κs =
    let f = c in
    let d = f in
    let e = d in
    let o = e.args.out.now in
    let k = read-room _ o e.if-text-gt512.false d.singles-found.ensures.0 f.in-Ok.is c.if-out-n.false in
    (filling-start jp2 _ o k, refl)

returns-3 : tie.Need-returns-in-Err
returns-3 c =
    let d = c in
    read-refused _ _ d.if-text-gt512.false d.singles-found.ensures.0 c.in-Err.is

same_length : tie.Need-shape_of-out
same_length c = search rules

returns-4 : tie.Need-returns-else-out-n
returns-4 c =
    let s = c in
    let e = s in
    let f = e in
    let d = f in
    let h = d.if-text-gt512.false in
    read-filled _ _ h d.singles-found.ensures.0 f.in-Ok.is s.singles.result e.if-out-n.false
    s.singles.ensures.0 s.singles.ensures.1

pub read_spec : {M : Type 1} → statement M
read_spec =
    tie.close
    (tie.spec
    returns
    blank-requires
    slice-aggregate-singles
    singles-requires
    enum_told
    enum-known-found
    returns-2
    singles-requires-2
    returns-3
    same_length
    returns-4)
