use mathlib.Core.Path.{refl}
use Rattle.answer.specs.Answer.{limit}
use Rattle.codec.specs.Kinds.{bytes_per_cell, bytes_at_end, most_bytes}
use Rattle.codec.proofs.Kind.most_bytes.Statement.{statement}
use Rattle.codec.proofs.Kind.most_bytes.Tie as tie

returns : tie.Need-returns
unfolding limit bytes_per_cell bytes_at_end most_bytes
returns c = refl

pub most_bytes_spec : {M : Type 1} → statement M
most_bytes_spec = tie.close (tie.spec returns)
