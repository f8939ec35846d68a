use Rattle.std.proofs.Common.{◌++◌, refl, arith}
use Rattle.parsing.specs.Digits.{digits, LF}
use Rattle.page_keep.proofs.Puts.{sets-as, sets_then, seven-digits, length_digits}
use Rattle.page_keep.proofs.put.put_number.Goals as goal
use Rattle.page_keep.proofs.put.put_number.Goals.{then-two, else-two}

pub returns : goal.returns
returns c =
    let a = c.args in
    let e = c.put_bytes-value.ensures in
    let v = c.put_bytes-value.result in
    elim c.if-two.branch [
      | then-two w ↦
          let p = w.put_digits-end.ensures in
          let d = digits 10 7 a.n in
          -- the number that is passed has the same seven digits
          let s = sets-as _ _ _ _ v p.1 (seven-digits _ a.n (omega arith)) in
          rw (w.if-two.true, w.end-is, w.out-is) (
            omega (arith, e.0, p.0),
            sets_then _ _ _ a.key.now (d ++ LF) a.at v e.1 e.0
                (sets_then _ _ _ d LF v w.put_digits-end.result s (omega (arith, p.0, length_digits 10 7 a.n)) refl),
          )
      | else-two w ↦
          let p = w.put_digits-end-else-two.ensures in
          let d = digits 10 5 a.n in
          rw (w.if-two.false, w.end-is, w.out-is) (
            omega (arith, e.0, p.0),
            sets_then _ _ _ a.key.now (d ++ LF) a.at v e.1 e.0
                (sets_then _ _ _ d LF v w.put_digits-end-else-two.result p.1 (omega (arith, p.0, length_digits 10 5 a.n)) refl),
          )
    ]
