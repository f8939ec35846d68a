use Prim.Native.Nat.{ℕ, ◌+◌, ◌-◌, ◌≤◌}
use mathlib.Core.List.{List}
use lib.ListN.{length}
use native.Mathlib.Omega.{arith}
use borrow.Rule.Slice.PartMut.{put_mid}
use Rattle.utf7.specs.Writing.{writing}
use Rattle.utf7.specs.declared.Style.TheVariants.{Header}
use Rattle.encoded_word.specs.Writing.{q_text}
use Rattle.encoded_word.proofs.Shares.{word-and-size}
use Rattle.encoded_word_write.specs.Inner.{Puts}
use Rattle.encoded_word_write.proofs.Putting.{puts-lent}
use Rattle.encoded_word_write.proofs.Lines.{text-fits, rest-asked, end-asked, word-put}
use borrow.Author.Rules.{rules}
use Rattle.encoded_word_write.proofs.put_word.Statement.{statement}
use Rattle.encoded_word_write.proofs.put_word.Tie as tie

-- the word's start is put: its place, and the output
abbrev start : tie.After-put_bytes-from → tie.Start
start c = c.before.before.before.before.before.before

abbrev units : tie.After-put_bytes-from → List ℕ
units c = (start c).args.units.now

abbrev from : tie.After-put_bytes-from → ℕ
from c = c.put_bytes-from.result

abbrev begun : tie.After-put_bytes-from → List ℕ
begun c = c.put_bytes-from.new.out

room : (c : tie.After-put_bytes-from) → from c + length (q_text (writing Header (units c))) ≤ length (begun c)
room c =
    let s = start c in
    let e = c.put_bytes-from.ensures in
    text-fits (units c) s.args.more s.args.size s.args.at (from c) s.args.out.now (begun c) s.requires.2
    s.requires.3 e.0 e.1

-- the Q text is put behind it
abbrev word : tie.After-put_text → tie.After-put_bytes-from
word c = c.before.before.before.before

abbrev spelt : tie.After-put_text → List ℕ
spelt c =
    let b = word c in put_mid (from b) (length (begun b) - from b) (begun b) c.put_text.new.out

text-put :
    (c : tie.After-put_text) →
    let b = word c in Puts (q_text (writing Header (units b))) (from b) (begun b) (spelt c)
text-put c =
    let b = word c in
    puts-lent (q_text (writing Header (units b))) (from b) (begun b) _ (room b) c.put_text.ensures

put-bytes-requires : tie.Need-put_bytes-from-requires
put-bytes-requires c κs =
    let s = c.before.before.before.before in
    omega (arith, word-and-size s.args.more s.args.units.now, s.requires.3)

sub-put-text : tie.Need-slice_bounds-put_text-count
sub-put-text c = omega (arith, room c.before.before)

part-put-text-start : tie.Need-slice_bounds-put_text-start
part-put-text-start c = omega (arith, room c.before.before)

part-put-text-end : tie.Need-slice_bounds-put_text-end
part-put-text-end c = search rules

put-text-requires : tie.Need-put_text-requires
put-text-requires c κs =
    let b = c.before.before.before in
    let s = start b in
    let e = c.put_bytes-from.ensures in
    let h =
    rest-asked (units b) s.args.more s.args.size s.args.at (from b) s.args.out.now (begun b)
    s.requires.2 s.requires.3 e.0 e.1 in
    (s.requires.0, s.requires.1, s.requires.2, h)

add-put-end : tie.Need-overflow_add-from
add-put-end c =
    let b = c.before.before.before.before.before.before.before in
    let s = start b in
    let e = c.put_bytes-from.ensures in
    let t = c.before.before.before in
    let h =
    end-asked (units b) s.args.more s.args.size s.args.at (from b) s.args.out.now (begun b) s.requires.2
    s.requires.3 e.0 e.1 (spelt t) (text-put t) in
    let k = (text-put t).0 in
    search rules

put-end-requires : tie.Need-put_end-requires
put-end-requires c κs =
    let b = c.before.before.before.before.before.before.before in
    let s = start b in
    let e = c.put_bytes-from.ensures in
    let t = c.before.before.before in
    end-asked (units b) s.args.more s.args.size s.args.at (from b) s.args.out.now (begun b) s.requires.2
    s.requires.3 e.0 e.1 (spelt t) (text-put t)

same_length : tie.Need-shape_of-out
same_length c = search rules

returns : tie.Need-returns
returns c =
    let b = c.before.before.before.before.before.before.before.before.before.before in
    let s = start b in
    let e = c.put_bytes-from.ensures in
    let t = c.before.before.before.before.before.before in
    let l = c.put_end in
    word-put (units b) s.args.more s.args.size s.args.at (from b) s.args.out.now (begun b) s.requires.2
    s.requires.3 e.0 e.1 (spelt t) (text-put t) l.result l.new.out l.ensures.0
    l.ensures.1

pub put_word_spec : {M : Type 1} → statement M
put_word_spec =
    tie.close
    (tie.spec
    put-bytes-requires
    sub-put-text
    part-put-text-start
    part-put-text-end
    put-text-requires
    add-put-end
    put-end-requires
    same_length
    returns)
