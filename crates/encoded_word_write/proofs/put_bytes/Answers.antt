use Rattle.std.proofs.Common.{◌≡◌, ◌+◌, ◌-◌, refl, length, arith}
use Rattle.encoded_word_write.proofs.Putting.{puts-part}
use Rattle.encoded_word_write.proofs.put_bytes.Goals as goal

pub returns : goal.returns
returns c =
    let a = c.args in
    let n : a.at + length a.bytes.now - a.at ≡ length a.bytes.now = omega arith in
    (refl, rw (n, c.copy_from_slice.ensures.after) (puts-part a.bytes.now a.at a.out.now c.requires))
