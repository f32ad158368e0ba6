-- What a command asks for: a text, a lattice of its design, and a run; or to judge.
use Rattle.std.specs.Prelude.{◌≡◌, ◌≤◌, ℕ, Bool, true, false, List, length, unwrap_or, Option, Some, None}
use Rattle.desk_io.specs.States.{DeskState}
use Rattle.desk_io.specs.Answers.{IsFile, IsHeld}
use Rattle.pcb_model.specs.declared.design.Design.{Design}
use Rattle.route_lattice.specs.Mesh.{Mesh}
use Rattle.route_lattice.specs.Whole.{default_grid, lattice_of}
use Rattle.route_words.specs.declared.command.Command.{Command}
use Rattle.route_words.specs.declared.command.Command.TheVariants.{Route, Check, Gen}
use Rattle.route_words.specs.declared.command.Knobs.{Knobs}
use Rattle.board_gen.specs.Board.{text_of}
use Rattle.route_run.specs.Runs.{RunOf, run_from}
use Rattle.dsn_route.specs.Lines.{max_bytes}

-- a generated board is routed by one worker, and else as without an option
abbrev pub default_knobs : Knobs
default_knobs = record { grid = None; workers = 1; passes = 10; via_cost = 2000000; tries = 16; omit_fixed = false }

-- the command asks to route; `check` doesn't
abbrev pub AsksToRoute : Command → Type 0
AsksToRoute (Route input output from diagonal knobs) = Unit {0}
AsksToRoute (Check input session report) = ⊥
AsksToRoute (Gen n) = Unit {0}

-- the command reads the design in the file of this name
abbrev pub IsInputOf : Command → List ℕ → Type 0
IsInputOf (Route input output from diagonal knobs) name = name ≡ input
IsInputOf (Check input session report) name = name ≡ input
IsInputOf (Gen n) name = ⊥

-- the command reads a session of that design in the file of this name: the earlier one from which it starts, or the
-- one that it judges
abbrev pub IsSessionOf : Command → List ℕ → Type 0
IsSessionOf (Route input output from diagonal knobs) name = from ≡ Some name
IsSessionOf (Check input session report) name = name ≡ session
IsSessionOf (Gen n) name = ⊥

-- the file of the earlier session from which the command starts, if it names one
abbrev pub from_of : Command → Option (List ℕ)
from_of (Route input output from diagonal knobs) = from
from_of (Check input session report) = None
from_of (Gen n) = None

-- the knobs of a command that asks to route
abbrev pub knobs_of : Command → Knobs
knobs_of (Route input output from diagonal knobs) = knobs
knobs_of (Check input session report) = default_knobs
knobs_of (Gen n) = default_knobs

-- the lattice that is asked for: at the grid of the words, or at the design's default grid
abbrev pub mesh_at : Knobs → Design → Mesh
mesh_at knobs d = lattice_of d (unwrap_or knobs.grid (default_grid d))

abbrev pub mesh_of : Command → Design → Mesh
mesh_of command d = mesh_at (knobs_of command) d

-- whether the command asks for joins by moves at 45 degrees
abbrev pub is_diagonal : Command → Bool
is_diagonal (Route input output from diagonal knobs) = diagonal
is_diagonal (Check input session report) = false
is_diagonal (Gen n) = false

-- the run that is asked for
abbrev pub run_at : Knobs → Bool → RunOf
run_at knobs diagonal = run_from knobs.via_cost knobs.workers knobs.passes knobs.tries diagonal

abbrev pub run_of : Command → RunOf
run_of command = run_at (knobs_of command) (is_diagonal command)

-- the text is that of the file at entry, where the desk tells its files, and within the limit
pub record IsInput (name : List ℕ) (desk : DeskState) (text : List ℕ) : Type 0 where
  pub file : IsFile desk.files name text
  pub fits : length text ≤ max_bytes

-- the text of the design: that of the input, or the generated one
abbrev pub IsText : Command → DeskState → List ℕ → Type 0
IsText (Route input output from diagonal knobs) desk text = IsInput input desk text
IsText (Check input session report) desk text = IsInput input desk text
IsText (Gen n) desk text = text ≡ text_of n

-- it is told at entry which text that is
abbrev pub IsToldText : Command → DeskState → List ℕ → Type 0
IsToldText (Route input output from diagonal knobs) desk text = IsHeld desk.files input text
IsToldText (Check input session report) desk text = IsHeld desk.files input text
IsToldText (Gen n) desk text = text ≡ text_of n

-- the report of a generated board is short
abbrev pub is_short : Command → Bool
is_short (Route input output from diagonal knobs) = false
is_short (Check input session report) = false
is_short (Gen n) = true
