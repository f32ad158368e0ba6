-- Where passes stand.
use Rattle.std.specs.Prelude.{◌≡◌, ℕ, ◌<◌, ◌≤◌, ◌^◌, Bool, IsTrue, not, List, [], ◌∷◌, ◌++◌, length, Option}
use Rattle.route_lattice.specs.Mesh.{Mesh}
use Rattle.pcb_board.specs.Boards.{BoardOf}
use Rattle.pcb_board.specs.Keeping.{IsStarted}
use Rattle.searcher_pool.specs.declared.input.PassMaps.{PassMaps}
use Rattle.searcher_pool.specs.Inputs.{AreMaps}
use Rattle.searcher_pool.specs.Passes.{pass_from}
use Rattle.route_run.specs.declared.facts.PassLine.{PassLine}
use Rattle.route_run.specs.declared.connections.OpenNets.{OpenNets}
use Rattle.route_run.specs.declared.input.RunInput.{RunInput}
use Rattle.route_run.specs.Runs.{HaveEnded, RunOf, pass_at}
use Rattle.route_run.specs.Inputs.{CanRun, run_of}
use Rattle.route_run.specs.inner.Passing.{AreOpenOn, EndsBy, HasPassed, IsMade, MayFollow, Stays}

-- what contracts see of it: the lattice, the run, the board, and the lines of the passes that were made
pub record PassStateOf : Type 0 where
  pub lattice : Mesh
  pub run : RunOf
  pub board : BoardOf
  pub lines : List PassLine

-- before the first pass
abbrev pub first_state : RunInput → BoardOf → PassStateOf
first_state j b = record { lattice = j.lat.now; run = run_of j; board = b; lines = [] }

-- the run may be made on the board's design, it is known what is open on the board, and the maps are of it
pub record IsState (j : RunInput) (b : BoardOf) (nets : OpenNets) (maps : PassMaps) : Type 0 where
  pub input : CanRun j b.design
  pub open_nets : AreOpenOn b nets
  pub maps_are : AreMaps j.lat.now b maps

-- a pass with this penalty was made, with this line; and whether an offer met a full board
pub record IsMadeBy (penalty : Option ℕ) (old new : PassStateOf) (line : PassLine) (full : Bool) : Type 0 where
  pub lattice_is : new.lattice ≡ old.lattice
  pub run_is : new.run ≡ old.run
  pub lines_are : new.lines ≡ old.lines
  pub is : IsMade (pass_from old.lattice old.run.via_cost old.run.workers [] penalty) old.board new.board line full

-- the pass of this number was made, its line is the last one, and it is told whether a further one may follow
pub record IsOneMore (number : ℕ) (old new : PassStateOf) (more : Bool) : Type 0 where
  pub line : PassLine
  pub full : Bool
  pub lattice_is : new.lattice ≡ old.lattice
  pub run_is : new.run ≡ old.run
  pub lines_are : new.lines ≡ old.lines ++ line ∷ []
  pub is : IsMade (pass_at old.lattice old.run.via_cost old.run.workers number) old.board new.board line full
  pub goes_on : IsTrue more → (0 < line.parted) × (1 < number → 0 < line.commits) × IsTrue (not full)
  pub ended : IsTrue (not more) → EndsBy number line full

-- so many passes were made, and a further one may follow, or they have ended
pub record HaveGone (made : ℕ) (s : PassStateOf) (more : Bool) : Type 0 where
  pub some : 1 ≤ s.run.passes
  pub few : s.run.passes ≤ 99
  pub passed : HasPassed s.lattice s.run s.board s.lines
  pub count : length s.lines ≡ made
  pub follows : IsTrue more → MayFollow s.lattice s.run s.board s.lines
  pub ended : IsTrue (not more) → HaveEnded s.run s.board s.lines

-- the passes of a run were made from the first board on
pub record IsOnTheWay (j : RunInput) (first : BoardOf) (s : PassStateOf) : Type 0 where
  pub lattice_is : s.lattice ≡ j.lat.now
  pub run_is : s.run ≡ run_of j
  pub same : Stays first s.board

-- they are later ones of the same run
pub record IsLaterOf (old new : PassStateOf) : Type 0 where
  pub lattice_is : new.lattice ≡ old.lattice
  pub run_is : new.run ≡ old.run
  pub same : Stays old.board new.board

-- they were gone on with, until they ended or so many were made in all
pub record GoesOn (most : ℕ) (old new : PassStateOf) : Type 0 where
  pub later : IsLaterOf old new
  pub passed : HasPassed new.lattice new.run new.board new.lines
  pub ended : most ≡ new.run.passes → HaveEnded new.run new.board new.lines

-- they began from a start of the board's design
pub record HasBegun (j : RunInput) (s : PassStateOf) (dropped : List ℕ) : Type 0 where
  pub input : CanRun j s.board.design
  pub first : BoardOf
  pub begun : IsStarted s.board.design (2 ^ 19) first dropped
  pub way : IsOnTheWay j first s
