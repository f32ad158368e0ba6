-- Which answer is due: the causes of the answers, from the words, the files at entry and the text.
use Rattle.std.specs.Prelude.{◌≡◌, ◌≤◌, ◌<◌, ◌⊎◌, ℕ, Bool, List, [], false, length, All, IsTrue, Result, Ok}
use Rattle.std.specs.Prelude.{Option, Some, None}
use Rattle.desk_io.specs.States.{DeskState, SinkState, Rose}
use Rattle.desk_io.specs.Answers.{IsAbsent, IsHeld}
use Rattle.pcb_model.specs.declared.design.Design.{Design}
use Rattle.dsn_design.specs.Reading.{HasDesign}
use Rattle.dsn_shapes.specs.declared.refusal.What.{What}
use Rattle.route_lattice.specs.Mesh.{node_count}
use Rattle.dsn_route.specs.declared.status.Status.{Status}
use Rattle.dsn_route.specs.declared.status.Status.TheVariants.{Complete, SomeOpen, ReadFault, WriteFault, Memory}
use Rattle.dsn_route.specs.declared.status.Status.TheVariants.{Rejected}
use Rattle.route_words.specs.declared.command.Command.{Command}
use Rattle.route_words.specs.declared.command.Command.TheVariants.{Route, Check}
use Rattle.route_words.specs.declared.command.Knobs.{Knobs}
use Rattle.route_words.specs.declared.command.WordFault.{WordFault}
use Rattle.dsn_route.specs.Texts.{IsRefused, IsOverLimit}
use Rattle.dsn_route.specs.Lines.{max_bytes}
use Rattle.dsn_route.specs.Commands.{mesh_at, mesh_of, run_at, from_of, AsksToRoute, IsInputOf, IsSessionOf, IsToldText}
use Rattle.dsn_route.specs.Judging.{OfFiles, case_of}
use Rattle.pcb_board.specs.Boards.{BoardOf}
use Rattle.pcb_board.specs.Keeping.{IsBoard}
use Rattle.pcb_model.specs.Scale.{scale_of}
use Rattle.pcb_islands.specs.declared.net.Island.{Island}
use Rattle.route_run.specs.declared.facts.Facts.{Facts}
use Rattle.route_run.specs.Runs.{IsSomeRun, IsWideShut}
use Rattle.route_run.specs.declared.run.Routed.{Routed}
use Rattle.route_report.specs.Report.{report_of}
use Rattle.route_words.specs.Words.{AreWithin}
use Rattle.ses_writer.specs.Session.{session_of}
use Rattle.ses_reader.specs.declared.item.SesItem.{SesItem}
use Rattle.ses_reader.specs.Reading.{HasSession}
use Rattle.route_check.specs.Board.{board_of}
use Rattle.copper_check.specs.Checks.{AreAllIslands}
use Rattle.route_check.specs.Judged.{IsTooFine as IsCaseTooFine}
use Rattle.check_law.specs.Written.{AreSmall}
use Rattle.session_law.specs.Told.{HaveSameCopper, IsOnScale}
use Rattle.session_start.specs.Starting.{IsLater, started}
use Rattle.route_lattice.specs.declared.limits.TheConstants.{MOST_NODES}

-- accepted words come to a file of which P holds: that of the design, or that of the session behind the design, or that
-- of the report behind both
pub record ComesTo (P : List ℕ → Type 0) (command : Result Command WordFault) (desk : DeskState) : Type 0 where
  pub asked : Command
  pub accepted : command ≡ Ok asked
  pub file : OfFiles P asked desk

-- the desk tells that it is absent
abbrev pub IsMissing : Result Command WordFault → DeskState → Type 0
IsMissing command desk = ComesTo (λ name. IsAbsent desk.files name) command desk

-- the desk tells its text, which is longer than the limit
pub record IsToldLong (desk : DeskState) (name : List ℕ) : Type 0 where
  pub text : List ℕ
  pub held : IsHeld desk.files name text
  pub long : max_bytes < length text

abbrev pub IsLong : Result Command WordFault → DeskState → Type 0
IsLong command desk = ComesTo (IsToldLong desk) command desk

-- accepted words ask for a design whose text is this, as is told at entry
pub record IsRead (command : Result Command WordFault) (desk : DeskState) (text : List ℕ) : Type 0 where
  pub asked : Command
  pub accepted : command ≡ Ok asked
  pub told : IsToldText asked desk text

-- the text is within the limit, and is refused
pub record IsUnfit (text : List ℕ) : Type 0 where
  pub fits : length text ≤ max_bytes
  pub number : ℕ
  pub place : ℕ
  pub refused : IsRefused text number place

-- the text is within the limit of bytes, and passes one on what it counts
pub record IsOver (text : List ℕ) : Type 0 where
  pub fits : length text ≤ max_bytes
  pub what : What
  pub limit : ℕ
  pub over : IsOverLimit text what limit

-- the desk tells the text of the earlier session, which is within the limit and is one of the design that was read;
-- and d starts from it
pub record IsOldHeld (name : List ℕ) (desk : DeskState) (read d : Design) : Type 0 where
  pub told : List ℕ
  pub held : IsHeld desk.files name told
  pub fits : length told ≤ max_bytes
  pub items : List SesItem
  pub reads : HasSession told read items
  pub design_is : d ≡ started read items

-- as it is told at entry, the design that is routed, where the text has the design `read`
abbrev pub IsStartHeld : Option (List ℕ) → DeskState → Design → Design → Type 0
IsStartHeld None desk read d = d ≡ read
IsStartHeld (Some name) desk read d = IsOldHeld name desk read d

-- it is to be routed: the text is within the limit, and gives, with the earlier session where one is named, a design on
-- whose lattice, at the grid that is asked for, P holds of the number of nodes
pub record IsFit (P : ℕ → Type 0) (command : Result Command WordFault) (desk : DeskState) (text : List ℕ) : Type 0
  where
    pub asked : Command
    pub accepted : command ≡ Ok asked
    pub routes : AsksToRoute asked
    pub fits : length text ≤ max_bytes
    pub read : Design
    pub reads : HasDesign text read
    pub design : Design
    pub starts : IsStartHeld (from_of asked) desk read design
    pub nodes : P (node_count (mesh_of asked design))

-- the lattice has more than 2^24 nodes
abbrev pub IsTooFine : Result Command WordFault → DeskState → List ℕ → Type 0
IsTooFine = IsFit (λ count. MOST_NODES < count)

-- it has at most as many
abbrev pub IsRoutable : Result Command WordFault → DeskState → List ℕ → Type 0
IsRoutable = IsFit (λ count. count ≤ MOST_NODES)

-- the answer that is due, or the one for a failed write or put, or for want of memory
abbrev pub IsDue : Status → Status → Type 0
IsDue due WriteFault = Unit {0}
IsDue due Memory = Unit {0}
IsDue due status = status ≡ due

-- the same after a read, which may have failed too
abbrev pub IsDueAfterRead : Status → Status → Type 0
IsDueAfterRead due ReadFault = Unit {0}
IsDueAfterRead due status = IsDue due status

-- no call of the desk or the sink failed: both are calm, or neither count rose
abbrev pub HasNoFault : DeskState → DeskState → SinkState → SinkState → Type 0
HasNoFault desk later sink after = (IsTrue desk.calm × IsTrue sink.calm) ⊎ ((Rose desk.faults later.faults
    → ⊥) × (Rose sink.faults after.faults → ⊥))

-- the answers of a call that routed, and want of memory
abbrev pub IsDone : Status → Type 0
IsDone Complete = Unit {0}
IsDone SomeOpen = Unit {0}
IsDone Memory = Unit {0}
IsDone status = ⊥

-- ---- sessions that are read
-- accepted words ask to read a session; the desk tells the texts of the design and of the session, which are within the
-- limit, and this is the design
pub record IsSessionHeld (command : Result Command WordFault) (desk : DeskState) (d : Design) (told : List ℕ) : Type
    0 where
  pub asked : Command
  pub accepted : command ≡ Ok asked
  pub input : List ℕ
  pub session : List ℕ
  pub is_input : IsInputOf asked input
  pub is_session : IsSessionOf asked session
  pub text : List ℕ
  pub held : IsHeld desk.files input text
  pub fits : length text ≤ max_bytes
  pub reads : HasDesign text d
  pub told_held : IsHeld desk.files session told
  pub told_fits : length told ≤ max_bytes

-- they ask to judge it, and so it is with the text of the report
pub record AreHeld (command : Result Command WordFault) (desk : DeskState) (d : Design) (told page : List ℕ) : Type 0
  where
    pub first : IsSessionHeld command desk d told
    pub report : List ℕ
    pub judges : first.asked ≡ Check first.input first.session report
    pub held : IsHeld desk.files report page
    pub fits : length page ≤ max_bytes

-- ---- earlier sessions
-- Accepted words start from an earlier session, and the desk tells the texts of the design and of that session. It is
-- the session, with the fixed wiring, of this board of the design, whose routed copper is on scale.
pub record IsFromBoard (command : Result Command WordFault) (desk : DeskState) (b : BoardOf) : Type 0 where
  pub input : List ℕ
  pub output : List ℕ
  pub from : List ℕ
  pub diagonal : Bool
  pub knobs : Knobs
  pub accepted : command ≡ Ok (Route input output (Some from) diagonal knobs)
  pub text : List ℕ
  pub held : IsHeld desk.files input text
  pub reads : HasDesign text b.design
  pub board : IsBoard b
  pub on_scale : IsOnScale (scale_of b.design).nm b.items
  pub session : IsHeld desk.files from (session_of b.design b.items false)

-- nothing of it is dropped, and the start board has its routed copper
pub record ComesBack (b : BoardOf) (routed : Routed) : Type 0 where
  pub none_dropped : routed.facts.dropped ≡ []
  pub copper : HaveSameCopper b.design b.items routed.board.start

-- ---- moves at 45 degrees
-- no walk over the net's moves, those at 45 degrees among them, leads from the island of a cut to another of its net
pub record AreWideShut (knobs : Knobs) (routed : Routed) : Type 0 where
  pub each : All
      (IsWideShut routed.board.design (mesh_at knobs routed.board.design) routed.board.items knobs.via_cost)
      routed.facts.cuts

-- ---- check
-- the lattice of the report's grid has at most 2^24 nodes
abbrev pub HasFewNodes : Design → List ℕ → List ℕ → Type 0
HasFewNodes d told page = (items : List SesItem) (found : List (List Island)) (count : ℕ) → HasSession told d items
    → AreAllIslands d (board_of d items) found → IsCaseTooFine (case_of d items page found) count → ⊥

-- The texts are the session and the report of a run that a `route` asks for: of the design that was read, or of one
-- that starts from an earlier session of it, in its scale.
pub record AreOfRun (read : Design) (told page : List ℕ) : Type 0 where
  pub knobs : Knobs
  pub diagonal : Bool
  pub within : AreWithin knobs
  pub design : Design
  pub starts : (design ≡ read) ⊎ IsLater read design
  pub board : BoardOf
  pub facts : Facts
  pub few : node_count (mesh_at knobs design) ≤ MOST_NODES
  pub run : IsSomeRun design (mesh_at knobs design) (run_at knobs diagonal) board facts
  pub small : AreSmall design board.items facts
  pub session_is : told ≡ session_of design board.items knobs.omit_fixed
  pub report_is : page ≡ report_of design (mesh_at knobs design) board.items facts false

-- the answers of a call that judged, and want of memory
abbrev pub IsJudgedDone : Status → Type 0
IsJudgedDone Complete = Unit {0}
IsJudgedDone Rejected = Unit {0}
IsJudgedDone Memory = Unit {0}
IsJudgedDone status = ⊥

-- nothing is wrong, or memory was wanting
abbrev pub IsClean : Status → Type 0
IsClean Complete = Unit {0}
IsClean Memory = Unit {0}
IsClean status = ⊥
