use Rattle.codec.specs.Kinds.{write_in}
use borrow.Author.Rules.{rules}
use Rattle.codec.proofs.write.Statement.{statement}
use Rattle.codec.proofs.write.Tie as tie

enum_told : tie.Need-enum_told-1
enum_told c = search rules

write-requires : tie.Need-write-requires
write-requires c κs = search rules

enum-told-2 : tie.Need-enum_told-in-Utf7Body
enum-told-2 c = search rules

write-requires-2 : tie.Need-write-requires-in-Utf7Body
write-requires-2 c κs = search rules

enum-told-3 : tie.Need-enum_told-in-Jp2
enum-told-3 c = search rules

write-requires-3 : tie.Need-write-requires-in-Jp2
write-requires-3 c κs = search rules

same_length : tie.Need-shape_of-out-in-Utf7Header
same_length c = search rules

returns : tie.Need-returns-in-Utf7Header
unfolding write_in
returns c = rw c.in-Utf7Header.is c.write.ensures

same-length-2 : tie.Need-shape_of-out-in-Utf7Body
same-length-2 c = search rules

returns-2 : tie.Need-returns-in-Utf7Body
unfolding write_in
returns-2 c = rw c.in-Utf7Body.is c.write-in-Utf7Body.ensures

same-length-3 : tie.Need-shape_of-out-in-Jp2
same-length-3 c = search rules

returns-3 : tie.Need-returns-in-Jp2
unfolding write_in
returns-3 c = rw c.in-Jp2.is c.write-in-Jp2.ensures

pub write_spec : {M : Type 1} → statement M
write_spec =
    tie.close
    (tie.spec
    enum_told
    write-requires
    enum-told-2
    write-requires-2
    enum-told-3
    write-requires-3
    same_length
    returns
    same-length-2
    returns-2
    same-length-3
    returns-3)
