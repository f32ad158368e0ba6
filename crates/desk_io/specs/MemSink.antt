-- A sink in memory whose listed calls fail.
use Rattle.std.specs.Prelude.{◌==◌, Some, vec_len}
use Rattle.desk_io.specs.States.{SinkState}
use Rattle.desk_io.specs.Count.{count_of}
use Rattle.desk_io.specs.Memory.{Schedule}
use Rattle.desk_io.specs.declared.sink.MemSink.{MemSink}

-- what is seen of it; it is calm where no call is listed
abbrev pub state_of : MemSink → SinkState
state_of sink = record { bytes = Some sink.bytes.items; faults = count_of sink.faults; calm = vec_len sink.fail == 0 }

-- its calls, and those that fail
abbrev pub schedule_of : MemSink → Schedule
schedule_of sink = record { calls = count_of sink.calls; fail = sink.fail.items }
