use native.Mathlib.Omega.{arith}
use Rattle.page_keep.proofs.Keeping.{number_size}
use borrow.Author.Rules.{rules}
use Rattle.page_keep.proofs.put_saved.Statement.{statement}
use Rattle.page_keep.proofs.put_saved.Tie as tie

enum-known-mark : tie.Need-enum_known-mark
enum-known-mark c = search rules

enum_told : tie.Need-enum_told-1
enum_told c = search rules

put-bytes-requires : tie.Need-put_bytes-requires
put-bytes-requires c κs =
    let pre' = c.requires in
    rw c.in_default.is at (pre')

same_length : tie.Need-shape_of-out-in_default
same_length c = search rules

returns : tie.Need-returns-in_default
returns c =
    let put-bytes' = c.put_bytes in
    rw c.in_default.is put-bytes'.ensures

put-number-requires : tie.Need-put_number-requires
put-number-requires c κs =
    let pre' = c.requires in
    let a = c.args in
    omega (arith, rw c.in-Some.is at (pre'), number_size a.two "saved" c.in-Some.n)

same-length-2 : tie.Need-shape_of-out
same-length-2 c = search rules

returns-2 : tie.Need-returns
returns-2 c =
    let put-number' = c.put_number in
    let a = c.args in
    rw c.in-Some.is (omega (arith, number_size a.two "saved" c.in-Some.n), put-number'.ensures.1)

pub put_saved_spec : {M : Type 1} → statement M
put_saved_spec =
    tie.close
    (tie.spec
    enum-known-mark
    enum_told
    put-bytes-requires
    same_length
    returns
    put-number-requires
    same-length-2
    returns-2)
