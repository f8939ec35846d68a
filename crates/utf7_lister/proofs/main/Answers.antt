use Rattle.std.proofs.Common.{rules, arith, length, ◌≤◌, sym, take}
use Rattle.answer.specs.Answer.{in_numbers}
use Rattle.codec.specs.declared.Format.TheVariants.{Utf7}
use lib.Seq.{length-take-le}
use Rattle.lister.proofs.Laws.{print-size}
use Rattle.utf7_lister.proofs.main.Goals as goal

-- all that is printed fits
pub slice_bounds-lines-end : goal.slice_bounds-lines-end
slice_bounds-lines-end c =
    let p = c.print-printed in
    omega (arith, print-size Utf7 _ p.result _ _ p.ensures (search rules), p.auto.out)

pub slice_bounds-write_all-end : goal.slice_bounds-write_all-end
slice_bounds-write_all-end c =
    let p = c.print-printed in
    let h : c.place-size.result ≤ length p.new.out =
    omega (arith, print-size Utf7 _ p.result _ _ p.ensures (search rules), p.auto.out) in
    sym (length-take-le c.place-size.result p.new.out h)
