use Rattle.encoded_word_write.proofs.Utf7.{as-accepted, not-refused}
use borrow.Author.Rules.{rules}
use Rattle.encoded_word_write.proofs.utf7_of.Statement.{statement}
use Rattle.encoded_word_write.proofs.utf7_of.Tie as tie

write-requires : tie.Need-write-requires
write-requires c κs = search rules

enum-known-n : tie.Need-enum_known-n
enum-known-n c = search rules

enum_told : tie.Need-enum_told-1
enum_told c = search rules

same_length : tie.Need-shape_of-text-in-Ok
same_length c = search rules

returns : tie.Need-returns-in-Ok
returns c =
    let s = c in
    let w = c.write in
    as-accepted s.args.units.now s.args.text.now _ s.requires.0 s.requires.1 s.requires.2 _ w.ensures
    c.in-Ok.is

same-length-2 : tie.Need-shape_of-text-in-Err
same-length-2 c = search rules

returns-2 : tie.Need-returns-in-Err
returns-2 c =
    let s = c in
    let w = c.write in
    not-refused s.args.units.now s.args.text.now _ s.requires.0 s.requires.1 s.requires.2 _ w.ensures
    c.in-Err.is

pub utf7_of_spec : {M : Type 1} → statement M
utf7_of_spec =
    tie.close
    (tie.spec write-requires enum-known-n enum_told same_length returns same-length-2 returns-2)
