use Rattle.std.proofs.Common.{sym, ◌∙◌, arith}
use Rattle.desk_lines.proofs.Found.{same-call, wide_room, found-few, found_all, found_none}
use Rattle.desk.proofs.orders.replace.Goals as goal

pub returns-then-n-le65536 : goal.returns-then-n-le65536
returns-then-n-le65536 c =
    c.replace_by.ensures
    ∙ same-call _
    (found_all c.args.words.now _ c.read-read.new.out c.requires wide_room c.read-read.ensures c.in-Ok.is c.place-n.ensures)

pub returns-else-n-le65536 : goal.returns-else-n-le65536
returns-else-n-le65536 c =
    let few = found-few c.args.words.now _ c.read-read.new.out c.requires wide_room c.read-read.ensures c.in-Ok.is c.place-n.ensures in
    absurd (omega (arith, few))

pub returns-in-Err : goal.returns-in-Err
returns-in-Err c =
    same-call _ (sym (found_none c.args.words.now _ c.read-read.new.out c.requires wide_room c.read-read.ensures c.in-Err.is))
