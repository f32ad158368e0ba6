use Rattle.std.proofs.Common.{ap}
use Rattle.route_lattice.specs.Ground.{GroundOf}
use Rattle.move_maps.specs.Settings.{group_of}
use Rattle.move_maps.proofs.group.Group.of.Goals as goal

pub returns : goal.returns
returns g c = ap (λ (s : GroundOf). group_of s.d s.lat c.args.first) c.on.view_is
