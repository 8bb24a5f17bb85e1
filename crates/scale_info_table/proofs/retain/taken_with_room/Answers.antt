use Rattle.std.proofs.Common.{rules}
use Rattle.scale_info_table.proofs.retain.taken_with_room.Goals as goal

pub returns-in_err-room-clause-err : goal.returns-in_err-room-clause-err
returns-in_err-room-clause-err g c = search rules
