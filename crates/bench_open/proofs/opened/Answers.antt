-- Two lengths below the limit have a sum that fits.
use Rattle.std.proofs.Common.{arith}
use Rattle.answer.proofs.Once.{limit-small}
use Rattle.bench_open.proofs.opened.Goals as goal

pub overflow_add-result : goal.overflow_add-result
overflow_add-result c = omega (arith, limit-small)
