use Rattle.complain.proofs.Plain.{front_plain}
use Rattle.std.proofs.Common.{arith}
use Rattle.complain.proofs.text_length.Goals as goal

-- src/lib.rt:19:13
pub returns-then-text-i-eq0-clause-plain : goal.returns-then-text-i-eq0-clause-plain
returns-then-text-i-eq0-clause-plain c =
    front_plain c.loop-i.i c.args.text.now (omega (arith, c.loop-i-test.true)) c.loop-i.invariant
