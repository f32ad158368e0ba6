-- A calm desk in memory.
use Rattle.std.specs.Prelude.{true, Some}
use Rattle.desk_io.specs.States.{DeskState}
use Rattle.desk_io.specs.Count.{count_of}
use Rattle.desk_io.specs.Memory.{files_of}
use Rattle.desk_io.specs.declared.calm.CalmDesk.{CalmDesk}

-- what is seen of it
abbrev pub state_of : CalmDesk → DeskState
state_of desk = record { files = Some (files_of desk.files.items); faults = count_of desk.faults; calm = true }
