use Rattle.std.proofs.Common.{ℕ, refl, sym}
use lib.ListN.{length-replicate}
use Rattle.desk_lines.specs.Desk.{file_room}
use Rattle.desk_lines.proofs.Found.{zeros-room}
use Rattle.desk.proofs.rooms.output.Goals as goal

pub returns : goal.returns
returns c = (sym (length-replicate {A = ℕ} file_room 0), zeros-room file_room refl)
