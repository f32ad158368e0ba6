use Rattle.std.proofs.Common.{List, ap}
use Rattle.route_run.specs.declared.facts.PassLine.{PassLine}
use Rattle.route_run.specs.Inputs.{run_of}
use Rattle.route_run.proofs.States.{no_maps_are}
use Rattle.route_run.proofs.state.PassState.start.Goals as goal

pub returns : goal.returns
returns c = ap (λ (ls : List PassLine). record {
  lattice = c.args.input.lat.now;
  run = run_of c.args.input;
  board = c.args.board;
  lines = ls;
}) c.new.ensures

pub invariant_of-result : goal.invariant_of-result
invariant_of-result c = record {
  input = c.requires;
  open_nets = c.in_ok-open_nets.ensures;
  maps_are = no_maps_are c.args.input.lat.now c.args.board c.no_maps.result c.no_maps.ensures.mapped
      c.no_maps.ensures.fixed;
}
