use Rattle.std.proofs.Common.{◌*◌, ap, ◌∙◌}
use Rattle.route_lattice.specs.Mesh.{node_count}
use Rattle.route_lattice.specs.Ways.{way_count}
use Rattle.move_maps.specs.Settings.{GroupOf}
use Rattle.move_maps.proofs.group.Group.moves.Goals as goal

pub returns-clause-moves : goal.returns-clause-moves
returns-clause-moves c =
    let t = c.self.inside in
    ap (λ n. n * t.arity) c.count.ensures.nodes ∙ (ap (λ n. node_count t.lat.now * n) c.self.invariant.arity_is
    ∙ ap (λ (s : GroupOf). node_count s.lat * way_count s.d s.lat s.first) c.self.view_is)
