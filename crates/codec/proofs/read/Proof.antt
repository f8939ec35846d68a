use Rattle.codec.specs.Kinds.{read_in}
use borrow.Author.Rules.{rules}
use Rattle.codec.proofs.read.Statement.{statement}
use Rattle.codec.proofs.read.Tie as tie

enum_told : tie.Need-enum_told-1
enum_told c = search rules

read-requires : tie.Need-read-requires
read-requires c κs = search rules

enum-told-2 : tie.Need-enum_told-in-Jp2
enum-told-2 c = search rules

read-requires-2 : tie.Need-read-requires-in-Jp2
read-requires-2 c κs = search rules

enum-told-3 : tie.Need-enum_told-in-Mailbox
enum-told-3 c = search rules

read-requires-3 : tie.Need-read-requires-in-Mailbox
read-requires-3 c κs = search rules

same_length : tie.Need-shape_of-out-in-Utf7
same_length c = search rules

returns : tie.Need-returns-in-Utf7
unfolding read_in
returns c = rw c.in-Utf7.is c.read.ensures

same-length-2 : tie.Need-shape_of-out-in-Jp2
same-length-2 c = search rules

returns-2 : tie.Need-returns-in-Jp2
unfolding read_in
returns-2 c = rw c.in-Jp2.is c.read-in-Jp2.ensures

same-length-3 : tie.Need-shape_of-out-in-Mailbox
same-length-3 c = search rules

returns-3 : tie.Need-returns-in-Mailbox
unfolding read_in
returns-3 c = rw c.in-Mailbox.is c.read-in-Mailbox.ensures

pub read_spec : {M : Type 1} → statement M
read_spec =
    tie.close
    (tie.spec
    enum_told
    read-requires
    enum-told-2
    read-requires-2
    enum-told-3
    read-requires-3
    same_length
    returns
    same-length-2
    returns-2
    same-length-3
    returns-3)
