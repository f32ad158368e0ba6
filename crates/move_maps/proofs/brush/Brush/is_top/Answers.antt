use Rattle.std.proofs.Common.{◌<◌, length, sym, subst}
use Rattle.route_lattice.specs.Mesh.{node_count}
use Rattle.route_lattice.specs.Ways.{way_count}
use Rattle.move_maps.proofs.Painting.{place_within}
use Rattle.move_maps.proofs.brush.Brush.is_top.Goals as goal

pub get-requires : goal.get-requires
get-requires c =
    let t = c.args.self.now.group in
    subst (λ n. n < length c.args.counts.now) (sym c.place.ensures)
    (place_within (node_count t.lat) (way_count t.d t.lat t.first) c.args.node c.args.i
    (length c.args.counts.now) c.requires.node c.requires.index c.requires.size)
