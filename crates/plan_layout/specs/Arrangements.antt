-- The caller's arrangement is the definition's.
use Rattle.transfer_matrix.specs.Room as Room
use Rattle.transfer_matrix.specs.Room.{keep_all, less_room}
use Rattle.plan_layout.specs.declared.Arrangement.{Arrangement}
use Rattle.plan_layout.specs.declared.Arrangement.TheVariants.{KeepAll, LessRoom}

abbrev pub arrangement_of : Arrangement → Room.Arrangement
arrangement_of KeepAll = keep_all
arrangement_of LessRoom = less_room
