-- With moves at 45 degrees no walk leads from the island of a cut to another.
use Rattle.std.proofs.Common.{◌≡◌, ℕ, List, All, Option, Some, None, Result, Ok, IfSome, refl, subst, sym}
use Rattle.std.specs.Prelude.{true}
use Rattle.desk_io.specs.States.{DeskState, SinkState}
use Rattle.pcb_model.specs.declared.design.Design.{Design}
use Rattle.pcb_board.specs.Boards.{BoardOf}
use Rattle.route_lattice.specs.Mesh.{Mesh}
use Rattle.route_run.specs.declared.facts.Facts.{Facts}
use Rattle.route_run.specs.declared.run.Routed.{Routed}
use Rattle.route_run.specs.Runs.{IsRun, IsSomeRun, IsWideShut, RunOf}
use Rattle.route_words.specs.declared.command.Command.{Command}
use Rattle.route_words.specs.declared.command.Command.TheVariants.{Route}
use Rattle.route_words.specs.declared.command.Knobs.{Knobs}
use Rattle.dsn_route.specs.declared.status.Status.{Status}
use Rattle.dsn_route.specs.Commands.{mesh_at, mesh_of, run_of}
use Rattle.dsn_route.specs.Answers.{Answers}
use Rattle.dsn_route.specs.Due.{AreWideShut}
use Rattle.dsn_route.proofs.Dues.{one_command}

-- a run's cuts are shut
abbrev pub CutsAreShut : Type 0
CutsAreShut = (d : Design) (m : Mesh) (r : RunOf) (b : BoardOf) (facts : Facts) → IsRun d m r b facts
    → r.diagonal ≡ true → All (IsWideShut b.design m b.items r.via_cost) facts.cuts

module _ (law : CutsAreShut) (input output : List ℕ) (from : Option (List ℕ)) (knobs : Knobs) where
  abbrev asked : Command
  asked = Route input output from true knobs

  run_shut : (made : Routed) (d : Design)
      → IsSomeRun d (mesh_of asked d) (run_of asked) made.board made.facts → AreWideShut knobs made
  run_shut made d is = record {
    each = subst (λ (x : Design). All (IsWideShut made.board.design (mesh_at knobs x) made.board.items knobs.via_cost)
        made.facts.cuts) (sym is.run.design_is)
        (law d (mesh_at knobs d) (record (run_of asked) { workers = is.workers }) made.board made.facts is.run refl);
  }

  pub shut_due : (command : Command) → command ≡ asked → (desk later : DeskState) (sink after : SinkState)
      (routed : Option Routed) (status : Status)
      → Answers (Ok command) desk later sink after (record { status = status; routed = routed })
      → IfSome routed (AreWideShut knobs)
  shut_due command is desk later sink after None status answers = tt
  shut_due command is desk later sink after (Some made) status answers =
      let r = answers.0 in
      run_shut made r.design
      (subst (λ (k : Command). IsSomeRun r.design (mesh_of k r.design) (run_of k) made.board made.facts) is r.run)
