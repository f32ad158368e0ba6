use Rattle.std.proofs.Common.{◌∙◌, List, ap, subst, sym}
use Rattle.pcb_board.specs.Boards.{BoardOf}
use Rattle.route_run.specs.declared.facts.PassLine.{PassLine}
use Rattle.route_run.specs.Inputs.{CanRun, run_of}
use Rattle.route_run.specs.inner.Passing.{AreOpenOn}
use Rattle.route_run.specs.inner.States.{PassStateOf}
use Rattle.route_run.proofs.States.{no_maps_are}
use Rattle.route_run.proofs.state.PassState.under.Goals as goal

pub returns : goal.returns
returns c =
    let copied : BoardOf → List PassLine → PassStateOf = λ b ls. record {
      lattice = c.self.inside.input.lat.now;
      run = run_of c.self.inside.input;
      board = b;
      lines = ls;
    } in
    ap (copied c.in_ok-board.board) (c.in_ok-lines.ensures ∙ c.as_slice.ensures)
    ∙ (ap (λ (b : BoardOf). copied b c.self.inside.lines) c.in_ok-board.ensures ∙ c.self.view_is)

pub invariant_of-result : goal.invariant_of-result
invariant_of-result c = record {
  input = subst (λ (b : BoardOf). CanRun c.self.inside.input b.design) (sym c.in_ok-board.ensures)
      c.self.invariant.input;
  open_nets = subst (λ (b : BoardOf). AreOpenOn b c.in_ok-open_nets.open_nets) (sym c.in_ok-board.ensures)
      (c.in_ok-open_nets.ensures c.self.inside.board c.self.invariant.open_nets);
  maps_are = no_maps_are c.self.inside.input.lat.now c.in_ok-board.board c.no_maps.result c.no_maps.ensures.mapped
      c.no_maps.ensures.fixed;
}
