-- What the top call answers, and what it leaves.
use Rattle.std.specs.Prelude.{◌≡◌, ◌≢◌, ◌≤◌, ◌<◌, ◌⊎◌, ℕ, List, [], take, Result, Ok, Err, Some, MatchOption}
use Rattle.desk_io.specs.States.{DeskState, SinkState}
use Rattle.desk_io.specs.Answers.{IsAbsent, IsTooLong, written, appended, DeskFaulted, SinkFaulted}
use Rattle.pcb_model.specs.declared.design.Design.{Design}
use Rattle.dsn_shapes.specs.declared.refusal.What.{What}
use Rattle.dsn_shapes.specs.declared.refusal.What.TheVariants.{Nothing}
use Rattle.dsn_shapes.specs.Limits.{most_of}
use Rattle.route_lattice.specs.Mesh.{node_count}
use Rattle.ses_writer.specs.Session.{session_of}
use Rattle.route_words.specs.declared.command.Command.{Command}
use Rattle.route_words.specs.declared.command.Command.TheVariants.{Route, Check, Gen}
use Rattle.route_words.specs.declared.command.WordFault.{WordFault}
use Rattle.route_run.specs.declared.facts.Facts.{Facts}
use Rattle.route_report.specs.Report.{report_of}
use Rattle.pcb_board.specs.Boards.{BoardOf}
use Rattle.route_run.specs.declared.run.Routed.{Routed}
use Rattle.route_run.specs.Runs.{IsSomeRun}
use Rattle.dsn_route.specs.declared.status.Status.{Status}
use Rattle.dsn_route.specs.declared.status.Status.TheVariants.{Complete, SomeOpen, Usage, Refused, ReadFault}
use Rattle.dsn_route.specs.declared.status.Status.TheVariants.{WriteFault, Limit, Memory, Rejected}
use Rattle.dsn_route.specs.declared.outcome.Outcome.{Outcome}
use Rattle.dsn_route.specs.Lines.{max_bytes, number_of, usage_line, refused_line, read_fault_line, limit_line}
use Rattle.dsn_route.specs.Lines.{over_line, nodes_line, check_line, check_ok_line}
use Rattle.dsn_route.specs.Texts.{IsRefused, IsOverLimit}
use Rattle.dsn_route.specs.Commands.{mesh_of, run_of, AsksToRoute, IsText, is_short}
use Rattle.dsn_route.specs.Judging.{HasJudged, HasMisread, IsDesignOf, OfFiles}
use Rattle.route_check.specs.declared.verdict.Verdict.TheVariants.{Yes, No}
use Rattle.route_check.specs.declared.verdict.JudgeFault.TheVariants.{TooManyNodes}
use Rattle.dsn_shapes.specs.declared.table.TheConstants.{BAD_PAIR}
use Rattle.route_lattice.specs.declared.limits.TheConstants.{MOST_NODES}

-- ---- calls that don't route
-- the number of the refused words, and the line that says so
pub record IsMisworded (fault : WordFault) (line : List ℕ) : Type 0 where
  pub number : ℕ
  pub number_is : number_of fault ≡ Some number
  pub line_is : line ≡ usage_line number

-- a text that is refused, with a number from 1 to 26, and the line that says so
pub record IsRefusal (command : Command) (desk : DeskState) (line : List ℕ) : Type 0 where
  pub text : List ℕ
  pub number : ℕ
  pub place : ℕ
  pub is_text : IsText command desk text
  pub refused : IsRefused text number place
  pub from : 1 ≤ number
  pub to : number ≤ BAD_PAIR
  pub line_is : line ≡ refused_line number place

-- a text that passes the limit on what it counts, which is something, and the line that says so
pub record IsOverfull (command : Command) (desk : DeskState) (line : List ℕ) : Type 0 where
  pub text : List ℕ
  pub what : What
  pub limit : ℕ
  pub is_text : IsText command desk text
  pub over : IsOverLimit text what limit
  pub counts : what ≢ Nothing
  pub most : limit ≡ most_of what
  pub line_is : line ≡ over_line what limit

-- a design whose lattice has more than 2^24 nodes, and the line that says how many
pub record IsCrowded (command : Command) (desk : DeskState) (line : List ℕ) : Type 0 where
  pub design : Design
  pub is_design : IsDesignOf command desk design
  pub routes : AsksToRoute command
  pub many : MOST_NODES < node_count (mesh_of command design)
  pub line_is : line ≡ nodes_line (node_count (mesh_of command design))

-- a session or its report isn't as it should be, and the line that says which check fails, and where: the session, an
-- earlier one too, can't be read, or it was judged so
pub record IsUnfitSession (command : Command) (desk : DeskState) (line : List ℕ) : Type 0 where
  pub place : ℕ
  pub misread : HasMisread command desk place
  pub line_is : line ≡ check_line 1 place

pub record IsJudgedWrong (command : Command) (desk : DeskState) (line : List ℕ) : Type 0 where
  pub number : ℕ
  pub at : ℕ
  pub judged : HasJudged command desk (Ok (No number at))
  pub line_is : line ≡ check_line number at

abbrev pub IsRejected : Command → DeskState → List ℕ → Type 0
IsRejected command desk line = IsUnfitSession command desk line ⊎ IsJudgedWrong command desk line

-- nothing is wrong with them, and the line that says so
abbrev pub IsJudgedRight : Command → DeskState → List ℕ → Type 0
IsJudgedRight command desk line = HasJudged command desk (Ok Yes) × (line ≡ check_ok_line)

-- the lattice of the report's grid has more than 2^24 nodes, and the line that says how many
pub record IsReportTooFine (command : Command) (desk : DeskState) (line : List ℕ) : Type 0 where
  pub count : ℕ
  pub judged : HasJudged command desk (Err (TooManyNodes count))
  pub line_is : line ≡ nodes_line count

-- a file couldn't be read
abbrev pub IsUnread : Command → DeskState → DeskState → List ℕ → Type 0
IsUnread command desk later line =
    OfFiles (λ name. DeskFaulted desk later (IsAbsent desk.files name)) command desk × (line ≡ read_fault_line)

-- a file is longer than the limit
abbrev pub IsOverlong : Command → DeskState → List ℕ → Type 0
IsOverlong command desk line =
    OfFiles (λ name. IsTooLong desk.files name max_bytes) command desk × (line ≡ limit_line)

-- why a call doesn't route, and the line that says so
abbrev pub Stops : Result Command WordFault → DeskState → DeskState → Status → List ℕ → Type 0
Stops (Err fault) desk later Usage line = IsMisworded fault line
Stops (Ok command) desk later Complete line = IsJudgedRight command desk line
Stops (Ok command) desk later Rejected line = IsRejected command desk line
Stops (Ok command) desk later Refused line = IsRefusal command desk line
Stops (Ok command) desk later ReadFault line = IsUnread command desk later line
Stops (Ok command) desk later Limit line = IsOverlong command desk line
    ⊎ (IsOverfull command desk line ⊎ (IsCrowded command desk line ⊎ IsReportTooFine command desk line))
Stops _ desk later _ line = ⊥

-- the line was put
pub record LinePut (command : Result Command WordFault) (desk later : DeskState) (sink after : SinkState)
    (status : Status) : Type 0 where
  pub line : List ℕ
  pub stops : Stops command desk later status line
  pub bytes : after.bytes ≡ appended sink.bytes line

-- the put of the line failed, and a front of it was put
pub record LineFaulted (command : Result Command WordFault) (desk later : DeskState) (sink after : SinkState) : Type
    0 where
  pub status : Status
  pub line : List ℕ
  pub stops : Stops command desk later status line
  pub fault : SinkFaulted sink after
  pub kept : ℕ
  pub bytes : after.bytes ≡ appended sink.bytes (take kept line)

-- what a call puts that didn't route
abbrev pub Said : Result Command WordFault → DeskState → DeskState → SinkState → SinkState → Status → Type 0
Said command desk later sink after SomeOpen = ⊥
Said command desk later sink after WriteFault = LineFaulted command desk later sink after
Said command desk later sink after Memory = after.bytes ≡ sink.bytes
Said command desk later sink after s = LinePut command desk later sink after s

-- Such a call leaves all files.
pub record Stopped (command : Result Command WordFault) (desk later : DeskState) (sink after : SinkState)
    (status : Status) : Type 0 where
  pub files : later.files ≡ desk.files
  pub said : Said command desk later sink after status

-- ---- calls that routed
-- what was routed: the design that the command asks for on its lattice, and the board and the facts of a run of it
pub record IsOutcome (command : Command) (desk : DeskState) (routed : Routed) : Type 0 where
  pub design : Design
  pub is_design : IsDesignOf command desk design
  pub routes : AsksToRoute command
  pub few : node_count (mesh_of command design) ≤ MOST_NODES
  pub run : IsSomeRun design (mesh_of command design) (run_of command) routed.board routed.facts

-- the files are those where all went well: the output is the session, whole, or nothing is written of a generated board
abbrev pub HasWritten : Command → BoardOf → DeskState → DeskState → Type 0
HasWritten (Route input output from diagonal knobs) b desk later =
    later.files ≡ written desk.files output (session_of b.design b.items knobs.omit_fixed)
HasWritten (Check input session report) b desk later = ⊥
HasWritten (Gen n) b desk later = later.files ≡ desk.files

abbrev pub report_for : Command → BoardOf → Facts → List ℕ
report_for command b facts = report_of b.design (mesh_of command b.design) b.items facts (is_short command)

-- all that is to be written was written, and the report was put
pub record IsWritten (command : Command) (b : BoardOf) (facts : Facts) (desk later : DeskState)
    (sink after : SinkState) : Type 0 where
  pub files : HasWritten command b desk later
  pub bytes : after.bytes ≡ appended sink.bytes (report_for command b facts)

-- the write of the session failed: the output holds a front of it, and nothing was put
pub record IsCutShort (output session : List ℕ) (desk later : DeskState) (sink after : SinkState) : Type 0 where
  pub fault : DeskFaulted desk later ⊥
  pub kept : ℕ
  pub files : later.files ≡ written desk.files output (take kept session)
  pub bytes : after.bytes ≡ sink.bytes

abbrev pub SessionFaulted : Command → BoardOf → DeskState → DeskState → SinkState → SinkState → Type 0
SessionFaulted (Route input output from diagonal knobs) b desk later sink after =
    IsCutShort output (session_of b.design b.items knobs.omit_fixed) desk later sink after
SessionFaulted (Check input session report) b desk later sink after = ⊥
SessionFaulted (Gen n) b desk later sink after = ⊥

-- the put of the report failed: the files are as where all went well, and a front of the report was put
pub record ReportFaulted (command : Command) (b : BoardOf) (facts : Facts) (desk later : DeskState)
    (sink after : SinkState) : Type 0 where
  pub fault : SinkFaulted sink after
  pub files : HasWritten command b desk later
  pub kept : ℕ
  pub bytes : after.bytes ≡ appended sink.bytes (take kept (report_for command b facts))

-- what a call answers and leaves that routed: it is complete exactly where there is no cut
abbrev pub Leaves : Command → BoardOf → Facts → DeskState → DeskState → SinkState → SinkState → Status → Type 0
Leaves command b facts desk later sink after Complete =
    IsWritten command b facts desk later sink after × (facts.cuts ≡ [])
Leaves command b facts desk later sink after SomeOpen =
    IsWritten command b facts desk later sink after × (facts.cuts ≢ [])
Leaves command b facts desk later sink after WriteFault =
    SessionFaulted command b desk later sink after ⊎ ReportFaulted command b facts desk later sink after
Leaves command b facts desk later sink after Memory =
    (after.bytes ≡ sink.bytes) × ((later.files ≡ desk.files) ⊎ HasWritten command b desk later)
Leaves command b facts desk later sink after s = ⊥

-- accepted words were routed
abbrev pub WasRouted : Result Command WordFault → DeskState → DeskState → SinkState → SinkState → Status → Routed
    → Type 0
WasRouted (Ok command) desk later sink after s routed =
    IsOutcome command desk routed × Leaves command routed.board routed.facts desk later sink after s
WasRouted (Err fault) desk later sink after s routed = ⊥

-- Each answer has its cause, and leaves what is said of it: nothing was routed, and a line was put; or it routed.
abbrev pub Answers : Result Command WordFault → DeskState → DeskState → SinkState → SinkState → Outcome → Type 0
Answers command desk later sink after o = MatchOption o.routed (Stopped command desk later sink after o.status)
    (WasRouted command desk later sink after o.status)
