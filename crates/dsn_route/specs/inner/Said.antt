-- What the parts of the top call answer.
use Rattle.std.specs.Prelude.{◌≡◌, ◌≢◌, ◌≤◌, List, [], Result, Ok, Err, Option, Some, None, MatchOption, ℕ, ◌==◌}
use Rattle.std.specs.Prelude.{if◌then◌else◌}
use Rattle.desk_io.specs.States.{DeskState, SinkState}
use Rattle.desk_io.specs.Answers.{PutGives}
use Rattle.desk_io.specs.declared.desk.SinkFail.{SinkFail}
use Rattle.pcb_model.specs.declared.design.Design.{Design}
use Rattle.dsn_shapes.specs.declared.refusal.Refusal.{Refusal}
use Rattle.route_lattice.specs.Mesh.{node_count}
use Rattle.cut_certificate.specs.declared.cut.Cut.{Cut}
use Rattle.route_words.specs.declared.command.Command.{Command}
use Rattle.route_words.specs.Words.{IsWithin}
use Rattle.desk_io.specs.declared.desk.DeskFail.{DeskFail}
use Rattle.desk_io.specs.declared.desk.DeskFail.TheVariants as desk_fail
use Rattle.route_check.specs.declared.verdict.Verdict.{Verdict}
use Rattle.route_check.specs.declared.verdict.Verdict.TheVariants.{Yes, No}
use Rattle.route_check.specs.declared.verdict.JudgeFault.{JudgeFault}
use Rattle.route_check.specs.declared.verdict.JudgeFault.TheVariants as judge_fault
use Rattle.route_run.specs.declared.run.Routed.{Routed}
use Rattle.route_run.specs.Runs.{IsSomeRun}
use Rattle.dsn_route.specs.declared.status.Status.{Status}
use Rattle.dsn_route.specs.declared.status.Status.TheVariants.{Complete, SomeOpen, Refused, ReadFault, Memory, Limit}
use Rattle.dsn_route.specs.declared.status.Status.TheVariants.{Rejected}
use Rattle.dsn_route.specs.declared.outcome.Outcome.{Outcome}
use Rattle.dsn_route.specs.Lines.{refused_line, over_line, read_fault_line, limit_line, nodes_line, check_line}
use Rattle.dsn_route.specs.Lines.{check_ok_line}
use Rattle.dsn_route.specs.Status.{ended_of}
use Rattle.dsn_route.specs.Texts.{limit_number}
use Rattle.dsn_route.specs.Commands.{mesh_of, run_of, from_of, AsksToRoute, IsText}
use Rattle.dsn_route.specs.Judging.{IsSessionIn}
use Rattle.dsn_design.specs.Reading.{HasDesign}
use Rattle.ses_reader.specs.declared.item.SesItem.{SesItem}
use Rattle.dsn_route.specs.Answers.{Leaves}
use Rattle.route_lattice.specs.declared.limits.TheConstants.{MOST_NODES}

-- a command that asks to route, with what it keeps to
pub record IsOrder (command : Command) : Type 0 where
  pub within : IsWithin command
  pub routes : AsksToRoute command

-- this design was read for the command
pub record IsReadFor (command : Command) (desk : DeskState) (read : Design) : Type 0 where
  pub text : List ℕ
  pub is_text : IsText command desk text
  pub reads : HasDesign text read

-- the earlier session that the command names was read, and has these items
pub record IsEarlier (command : Command) (desk : DeskState) (read : Design) (items : List SesItem) : Type 0 where
  pub name : List ℕ
  pub name_is : from_of command ≡ Some name
  pub session : IsSessionIn name desk read items

-- there is no cut, or there is one
abbrev pub IsVerdict : List Cut → Status → Type 0
IsVerdict cuts Complete = cuts ≡ []
IsVerdict cuts SomeOpen = cuts ≢ []
IsVerdict cuts status = ⊥

-- a call ended with the put of this line, with this status where nothing failed
pub record EndsBy (line : List ℕ) (due : Status) (sink after : SinkState) (status : Status) : Type 0 where
  pub put : Result (Unit {0}) SinkFail
  pub gives : PutGives sink after line put
  pub is : status ≡ ended_of put due

-- the line of a refusal: where it is of a limit, that of the limit
abbrev pub line_of : Refusal → List ℕ
line_of r = if r.number == limit_number then over_line r.what r.limit else refused_line r.number r.at

-- and its status
abbrev pub due_of : Refusal → Status
due_of r = if r.number == limit_number then Limit else Refused

-- nothing was put, since memory was wanting
pub record IsWanting (sink after : SinkState) (status : Status) : Type 0 where
  pub memory : status ≡ Memory
  pub bytes : after.bytes ≡ sink.bytes

-- a call ended with the line of a file that gave no text
abbrev pub EndsUnread : DeskFail → SinkState → SinkState → Status → Type 0
EndsUnread desk_fail.Failed sink after status = EndsBy read_fault_line ReadFault sink after status
EndsUnread (desk_fail.TooLong seen) sink after status = EndsBy limit_line Limit sink after status
EndsUnread (desk_fail.Memory e) sink after status = IsWanting sink after status

-- with that of a text that is no session
abbrev pub EndsMisread : Option ℕ → SinkState → SinkState → Status → Type 0
EndsMisread (Some place) sink after status = EndsBy (check_line 1 place) Rejected sink after status
EndsMisread None sink after status = IsWanting sink after status

-- with that of what was judged
abbrev pub EndsJudged : Result Verdict JudgeFault → SinkState → SinkState → Status → Type 0
EndsJudged (Ok Yes) sink after status = EndsBy check_ok_line Complete sink after status
EndsJudged (Ok (No number at)) sink after status = EndsBy (check_line number at) Rejected sink after status
EndsJudged (Err (judge_fault.TooManyNodes count)) sink after status =
    EndsBy (nodes_line count) Limit sink after status
EndsJudged (Err (judge_fault.Memory e)) sink after status = IsWanting sink after status

-- memory was wanting before there was a run, and all stays
pub record IsLeft (desk later : DeskState) (sink after : SinkState) (status : Status) : Type 0 where
  pub memory : status ≡ Memory
  pub files : later.files ≡ desk.files
  pub bytes : after.bytes ≡ sink.bytes

-- there is a run of the design, and this is what it left
pub record IsOut (command : Command) (d : Design) (desk later : DeskState) (sink after : SinkState) (status : Status)
    (routed : Routed) : Type 0 where
  pub few : node_count (mesh_of command d) ≤ MOST_NODES
  pub run : IsSomeRun d (mesh_of command d) (run_of command) routed.board routed.facts
  pub leaves : Leaves command routed.board routed.facts desk later sink after status

abbrev pub RoutesDesign : Command → Design → DeskState → DeskState → SinkState → SinkState → Outcome → Type 0
RoutesDesign command d desk later sink after o = MatchOption o.routed (IsLeft desk later sink after o.status)
    (IsOut command d desk later sink after o.status)
