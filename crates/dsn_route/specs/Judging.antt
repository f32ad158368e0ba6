-- What is read beside the design's text, the design that is routed, and what `check` judges.
use Rattle.std.specs.Prelude.{◌≡◌, ◌⊎◌, ℕ, List, All, Option, None, Some, option_map, Result}
use Rattle.desk_io.specs.States.{DeskState}
use Rattle.pcb_model.specs.declared.design.Design.{Design}
use Rattle.pcb_model.specs.Sound.{IsSound}
use Rattle.pcb_islands.specs.declared.net.Island.{Island}
use Rattle.dsn_design.specs.Reading.{HasDesign}
use Rattle.dsn_tree.specs.declared.fault.TreeFault.{TreeFault}
use Rattle.dsn_tree.specs.Trees.{HasFault}
use Rattle.dsn_shapes.specs.declared.refusal.Refusal.{Refusal}
use Rattle.ses_reader.specs.declared.item.SesItem.{SesItem}
use Rattle.ses_reader.specs.declared.item.SesFault.{SesFault}
use Rattle.ses_reader.specs.declared.item.SesFault.TheVariants.{Spelling, Refused, Memory}
use Rattle.ses_reader.specs.Reading.{HasSession, HasRefusal}
use Rattle.ses_reader.specs.Sound.{IsItemSound}
use Rattle.route_check.specs.declared.verdict.Verdict.{Verdict}
use Rattle.route_check.specs.declared.verdict.JudgeFault.{JudgeFault}
use Rattle.route_check.specs.Board.{board_of}
use Rattle.copper_check.specs.Checks.{AreAllIslands}
use Rattle.route_check.specs.Judged.{Case, IsVouched, Judges}
use Rattle.route_words.specs.declared.command.Command.{Command}
use Rattle.route_words.specs.declared.command.Command.TheVariants.{Route, Check, Gen}
use Rattle.session_start.specs.Starting.{started}
use Rattle.dsn_route.specs.Commands.{IsInput, IsInputOf, IsSessionOf, IsText, from_of}
use Rattle.dsn_route.specs.Texts.{tree_refusal}

-- ---- what is read
-- the file of this name has this design
pub record IsDesignIn (name : List ℕ) (desk : DeskState) (d : Design) : Type 0 where
  pub text : List ℕ
  pub is_text : IsInput name desk text
  pub reads : HasDesign text d

-- the file of this name has a session of the design with these items
pub record IsSessionIn (name : List ℕ) (desk : DeskState) (d : Design) (items : List SesItem) : Type 0 where
  pub text : List ℕ
  pub is_text : IsInput name desk text
  pub reads : HasSession text d items

-- the place of a fault of the session's tree, or of its refusal
abbrev pub tree_place : TreeFault → Option ℕ
tree_place f = option_map (λ (r : Refusal). r.at) (tree_refusal f)

abbrev pub place_of : SesFault → Option ℕ
place_of (Spelling f) = tree_place f
place_of (Refused number at) = Some at
place_of (Memory e) = None

-- the text is no session of the design: its tree has a fault at this place, or the refusal that counts is there
abbrev pub IsNoSession : List ℕ → Design → ℕ → Type 0
IsNoSession text d place =
    ((f : TreeFault) × HasFault text f × (tree_place f ≡ Some place)) ⊎ ((number : ℕ) × HasRefusal text d number place)

-- the design was read, and the session that the command reads can't be
pub record HasMisread (command : Command) (desk : DeskState) (place : ℕ) : Type 0 where
  pub input : List ℕ
  pub session : List ℕ
  pub is_input : IsInputOf command input
  pub is_session : IsSessionOf command session
  pub design : Design
  pub of_input : IsDesignIn input desk design
  pub text : List ℕ
  pub is_text : IsInput session desk text
  pub no_session : IsNoSession text design place

-- ---- the design that is routed
-- where no earlier session is named it is the one that was read, and else the one that starts from that session
abbrev pub IsStartedBy : Option (List ℕ) → DeskState → Design → Design → Type 0
IsStartedBy None desk read d = d ≡ read
IsStartedBy (Some name) desk read d =
    (items : List SesItem) × IsSessionIn name desk read items × (d ≡ started read items)

-- the design that the command routes: that of its text, or the one that starts from the earlier session
pub record IsDesignOf (command : Command) (desk : DeskState) (d : Design) : Type 0 where
  pub text : List ℕ
  pub read : Design
  pub is_text : IsText command desk text
  pub reads : HasDesign text read
  pub starts : IsStartedBy (from_of command) desk read d

-- P holds of the design's file, or that was read and P holds of the earlier session's
abbrev pub OfInputs : (List ℕ → Type 0) → List ℕ → Option (List ℕ) → DeskState → Type 0
OfInputs P input from desk =
    P input ⊎ ((old : List ℕ) × (from ≡ Some old) × (d : Design) × IsDesignIn input desk d × P old)

-- ---- what is judged
-- P holds of one of the three files, and those before it were read
abbrev pub OfOneFile : (List ℕ → Type 0) → List ℕ → List ℕ → List ℕ → DeskState → Type 0
OfOneFile P input session report desk =
    P input ⊎ ((d : Design) × IsDesignIn input desk d
    × (P session ⊎ ((items : List SesItem) × IsSessionIn session desk d items × P report)))

-- P holds of one of the files that the command reads, and those before it were read; a generated board has none
abbrev pub OfFiles : (List ℕ → Type 0) → Command → DeskState → Type 0
OfFiles P (Route input output from diagonal knobs) desk = OfInputs P input from desk
OfFiles P (Check input session report) desk = OfOneFile P input session report desk
OfFiles P (Gen n) desk = ⊥

-- the items of a session and a report by the design
abbrev pub case_of : Design → List SesItem → List ℕ → List (List Island) → Case
case_of d items report found = record { design = d; items = board_of d items; found = found; report = report }

-- the three files were read, and this was answered
pub record HasJudged (command : Command) (desk : DeskState) (answer : Result Verdict JudgeFault) : Type 0 where
  pub input : List ℕ
  pub session : List ℕ
  pub report : List ℕ
  pub command_is : command ≡ Check input session report
  pub design : Design
  pub items : List SesItem
  pub text : List ℕ
  pub of_input : IsDesignIn input desk design
  pub of_session : IsSessionIn session desk design items
  pub of_report : IsInput report desk text
  pub sound : IsSound design
  pub sound_items : All (IsItemSound design) items
  pub judges : Judges design items text answer

-- what it is worth that nothing is wrong: the copper is legal, and each net is as the report tells
pub record IsVouchedFor (input session report : List ℕ) (desk : DeskState) : Type 0 where
  pub design : Design
  pub items : List SesItem
  pub text : List ℕ
  pub of_input : IsDesignIn input desk design
  pub of_session : IsSessionIn session desk design items
  pub of_report : IsInput report desk text
  pub found : List (List Island)
  pub islands : AreAllIslands design (board_of design items) found
  pub vouched : IsVouched (case_of design items text found)
