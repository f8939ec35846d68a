use Rattle.std.proofs.Common.{arith}
use Rattle.desk.proofs.Working.{counted}
use Rattle.desk.proofs.replies.show.Goals as goal

pub slice_bounds-list_part-end-2 : goal.slice_bounds-list_part-end-2
slice_bounds-list_part-end-2 c = counted _ c.args.cells.now (omega (arith, c.if-cells-le-PART.false))
