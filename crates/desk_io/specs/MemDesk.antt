-- A desk in memory whose listed calls fail.
use Rattle.std.specs.Prelude.{false}
use Rattle.desk_io.specs.States.{DeskState}
use Rattle.desk_io.specs.Count.{count_of}
use Rattle.desk_io.specs.Memory.{Schedule}
use Rattle.desk_io.specs.CalmDesk as calm_desk
use Rattle.desk_io.specs.declared.memory.MemDesk.{MemDesk}

-- what is seen of it
abbrev pub state_of : MemDesk → DeskState
state_of desk = record (calm_desk.state_of desk.desk) { calm = false }

-- its calls, and those that fail
abbrev pub schedule_of : MemDesk → Schedule
schedule_of desk = record { calls = count_of desk.calls; fail = desk.fail.items }
