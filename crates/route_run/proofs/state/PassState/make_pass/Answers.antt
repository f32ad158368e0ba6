use Rattle.std.proofs.Common.{refl, subst}
use Rattle.route_run.specs.Inputs.{run_of}
use Rattle.route_run.specs.inner.States.{IsMadeBy, PassStateOf}
use Rattle.route_run.proofs.States.{can_work, state_after}
use Rattle.route_run.proofs.state.PassState.make_pass.Goals as goal

pub one_pass-passed-requires-clause-tasks : goal.one_pass-passed-requires-clause-tasks
one_pass-passed-requires-clause-tasks g c = λ κs apart.
    can_work c.self.inside.input c.self.inside.board c.self.inside.open_nets c.self.inside.maps c.as_slice.result
    c.args.penalty c.self.inside.pattern _ c.self.invariant c.keeps.ensures c.requires
    c.as_slice.ensures.value c.as_slice.ensures.len refl

pub invariant_of-state : goal.invariant_of-state
invariant_of-state g c =
    state_after c.self.inside.input c.self.inside.board c.in-Ok.made.board c.self.inside.open_nets
    c.in-Ok.made.open_nets
    c.self.inside.maps _ c.in-Ok.made.line c.in-Ok.made.full c.self.invariant c.in-Ok.ensures.made
    c.in-Ok.ensures.open_nets

pub returns-in-Ok : goal.returns-in-Ok
returns-in-Ok g c =
    let new : PassStateOf = record {
      lattice = c.self.inside.input.lat.now;
      run = run_of c.self.inside.input;
      board = c.in-Ok.made.board;
      lines = c.self.inside.lines;
    } in
    subst (λ (s : PassStateOf). IsMadeBy c.args.penalty s new c.in-Ok.made.line c.in-Ok.made.full) c.self.view_is
    (record {
      lattice_is = refl;
      run_is = refl;
      lines_are = refl;
      is = c.in-Ok.ensures.made;
    })
