use Rattle.reading.specs.Matching.{reads_as}
use Rattle.codec.specs.Kinds.{reading_of, reads_in}
use borrow.Author.Rules.{rules}
use Rattle.codec.proofs.reads_as.Statement.{statement}
use Rattle.codec.proofs.reads_as.Tie as tie

enum_told : tie.Need-enum_told-1
enum_told c = search rules

reads-as-requires : tie.Need-reads_as-requires
reads-as-requires c κs = search rules

enum-told-2 : tie.Need-enum_told-in-Jp2
enum-told-2 c = search rules

reads-as-requires-2 : tie.Need-reads_as-requires-in-Jp2
reads-as-requires-2 c κs = search rules

enum-told-3 : tie.Need-enum_told-in-Mailbox
enum-told-3 c = search rules

reads-as-requires-3 : tie.Need-reads_as-requires-in-Mailbox
reads-as-requires-3 c κs = search rules

returns : tie.Need-returns-in-Utf7
unfolding reads_in reading_of reads_as
returns c = rw c.in-Utf7.is c.reads_as.ensures

returns-2 : tie.Need-returns-in-Jp2
unfolding reads_in reading_of reads_as
returns-2 c = rw c.in-Jp2.is c.reads_as-in-Jp2.ensures

returns-3 : tie.Need-returns-in-Mailbox
unfolding reads_in reading_of reads_as
returns-3 c = rw c.in-Mailbox.is c.reads_as-in-Mailbox.ensures

pub reads_as_spec : {M : Type 1} → statement M
reads_as_spec =
    tie.close
    (tie.spec
    enum_told
    reads-as-requires
    enum-told-2
    reads-as-requires-2
    enum-told-3
    reads-as-requires-3
    returns
    returns-2
    returns-3)
