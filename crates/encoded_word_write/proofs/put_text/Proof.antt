use Rattle.encoded_word_write.proofs.Lines.{written-room, text-asked, text-filled}
use borrow.Author.Rules.{rules}
use Rattle.encoded_word_write.proofs.put_text.Statement.{statement}
use Rattle.encoded_word_write.proofs.put_text.Tie as tie

utf7-of-requires : tie.Need-utf7_of-n-requires
utf7-of-requires c κs =
    let p = c.requires in
    let a = c.args in
    (p.0, p.1, written-room a.units.now a.out.now a.out.now _ 0 p.2 p.3)

spell-requires : tie.Need-spell-requires
spell-requires c κs =
    let p = c.requires in
    let u = c.utf7_of-n.ensures in
    let a = c.args in
    text-asked a.units.now a.out.now _ _ _ p.2 p.3 u.0 u.1

same_length : tie.Need-shape_of-out
same_length c = search rules

returns : tie.Need-returns
returns c =
    let p = c.requires in
    let u = c.utf7_of-n.ensures in
    let a = c.args in
    text-filled a.units.now a.out.now _ _ _ p.2 p.3 u.0 u.1 c.spell.ensures

pub put_text_spec : {M : Type 1} → statement M
put_text_spec =
    tie.close
    (tie.spec
    utf7-of-requires
    spell-requires
    same_length
    returns)
