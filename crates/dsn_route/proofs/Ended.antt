-- A call that puts its line and ends.
use Rattle.std.proofs.Common.{◌≡◌, sym, subst, ℕ, List, Result, Ok, Err, Option, Some, None}
use Rattle.desk_io.specs.States.{DeskState, SinkState}
use Rattle.desk_io.specs.Answers.{appended, PutGives}
use Rattle.desk_io.specs.declared.desk.SinkFail.{SinkFail}
use Rattle.desk_io.specs.declared.desk.SinkFail.TheVariants as sink_fail
use Rattle.pcb_model.specs.declared.design.Design.{Design}
use Rattle.route_words.specs.declared.command.Command.{Command}
use Rattle.route_words.specs.declared.command.WordFault.{WordFault}
use Rattle.route_run.specs.declared.run.Routed.{Routed}
use Rattle.dsn_route.specs.declared.status.Status.{Status}
use Rattle.dsn_route.specs.declared.status.Status.TheVariants.{Complete, Usage, Refused, ReadFault, Limit}
use Rattle.dsn_route.specs.declared.status.Status.TheVariants.{Rejected}
use Rattle.dsn_route.specs.Status.{ended_of}
use Rattle.dsn_route.specs.Commands.{AsksToRoute}
use Rattle.dsn_route.specs.Judging.{IsDesignOf}
use Rattle.dsn_route.specs.Answers.{Stops, Said, Stopped, Answers}
use Rattle.dsn_route.specs.inner.Said.{EndsBy, IsWanting, RoutesDesign}

-- the line of a cause was put
line_said : (command : Result Command WordFault) (desk later : DeskState) (sink after : SinkState) (status : Status)
    (line : List ℕ) → Stops command desk later status line → after.bytes ≡ appended sink.bytes line
    → Said command desk later sink after status
line_said (Err fault) desk later sink after Usage line why put = record { line = line; stops = why; bytes = put }
line_said (Err fault) desk later sink after _ line why put = absurd why
line_said (Ok command) desk later sink after Complete line why put = record { line = line; stops = why; bytes = put }
line_said (Ok command) desk later sink after Rejected line why put = record { line = line; stops = why; bytes = put }
line_said (Ok command) desk later sink after Refused line why put = record { line = line; stops = why; bytes = put }
line_said (Ok command) desk later sink after ReadFault line why put = record { line = line; stops = why; bytes = put }
line_said (Ok command) desk later sink after Limit line why put = record { line = line; stops = why; bytes = put }
line_said (Ok command) desk later sink after _ line why put = absurd why

-- A call that has a cause to stop, leaves the files and puts the line of the cause has its answer.
pub stopped : {T : Type 0} (command : Result Command WordFault) (desk later : DeskState) (sink after : SinkState)
    (put : Result T SinkFail) (status : Status) (line : List ℕ)
    → Stops command desk later status line → later.files ≡ desk.files → PutGives sink after line put
    → Stopped command desk later sink after (ended_of put status)
stopped command desk later sink after (Ok x) status line why files gives =
    record { files = files; said = line_said command desk later sink after status line why gives }
stopped command desk later sink after (Err sink_fail.Failed) status line why files gives = record {
  files = files;
  said = record { status = status; line = line; stops = why; fault = gives.0; kept = gives.1.0; bytes = gives.1.1 };
}
stopped command desk later sink after (Err (sink_fail.Memory e)) status line why files gives =
    record { files = files; said = gives }

-- The same by what a call answers that puts a line.
pub ended_by : (command : Result Command WordFault) (desk later : DeskState) (sink after : SinkState) (due : Status)
    (line : List ℕ) (status : Status) → Stops command desk later due line → later.files ≡ desk.files
    → EndsBy line due sink after status → Stopped command desk later sink after status
ended_by command desk later sink after due line status why files ends =
    subst (Stopped command desk later sink after) (sym ends.is)
    (stopped command desk later sink after ends.put due line why files ends.gives)

-- Where memory was wanting, nothing is put.
pub wanting : (command : Result Command WordFault) (desk later : DeskState) (sink after : SinkState) (status : Status)
    → later.files ≡ desk.files → IsWanting sink after status → Stopped command desk later sink after status
wanting command desk later sink after status files w =
    record { files = files; said = subst (λ s. Said command desk later sink after s) (sym w.memory) w.bytes }

-- A design that was routed, or for whose run memory was wanting, has its answer.
pub routed : (command : Command) (desk later : DeskState) (sink after : SinkState) (d : Design)
    → IsDesignOf command desk d → AsksToRoute command
    → (routed : Option Routed) (status : Status)
    → RoutesDesign command d desk later sink after (record { status = status; routed = routed })
    → Answers (Ok command) desk later sink after (record { status = status; routed = routed })
routed command desk later sink after d is routes None status left = record {
  files = left.files;
  said = subst (λ s. Said (Ok command) desk later sink after s) (sym left.memory) left.bytes;
}
routed command desk later sink after d is routes (Some made) status out = (
  record {
    design = d;
    is_design = is;
    routes = routes;
    few = out.few;
    run = out.run;
  },
  out.leaves,
)
