use Rattle.std.proofs.Common.{◌≡◌, take}
use Rattle.std.specs.List.{flat_map}
use Rattle.dsn_design.specs.Items.{edge_pieces}
use Rattle.dsn_design.proofs.edges.edges_of.Given as goal

abbrev pub invariant-loop-points : goal.invariant-loop-points
invariant-loop-points l = l.pieces ≡ flat_map (edge_pieces l.layers l.width) (take l.points-index l.loops)
