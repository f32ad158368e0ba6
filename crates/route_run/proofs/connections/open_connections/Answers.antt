use Rattle.std.proofs.Common.{◌≤◌, ◌^◌, length, sym, subst, arith}
use Rattle.pcb_model.specs.Sound.{IsSound}
use Rattle.closing_pass.proofs.Counts.{few_islands}
use Rattle.route_run.proofs.connections.open_connections.Goals as goal

pub returns-clause-few : goal.returns-clause-few
returns-clause-few c =
    let sound : IsSound c.design.result.now = subst IsSound (sym c.design.ensures) c.requires.serves.0 in
    let few : length c.in_ok-found.found ≤ 2 ^ 26 =
    few_islands c.design.result.now c.args.snap.now.items c.args.net c.in_ok-found.found sound c.in_ok-found.ensures in
    grind (arith, few)
