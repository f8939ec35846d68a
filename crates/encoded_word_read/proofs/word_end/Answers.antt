use Rattle.std.proofs.Common.{rules}
use Rattle.utf7_read.specs.Cursor.{shift_of}
use Rattle.encoded_word_read.proofs.Texts.{ended-told, ended-refused}
use Rattle.encoded_word_read.proofs.word_end.Goals as goal

pub returns-in-Ok : goal.returns-in-Ok
returns-in-Ok c = ended-told (shift_of c.args.st) c.ends_in.ensures c.in-Ok.is

pub returns-in-Err : goal.returns-in-Err
returns-in-Err c = ended-refused (shift_of c.args.st) c.ends_in.ensures c.in-Err.is
