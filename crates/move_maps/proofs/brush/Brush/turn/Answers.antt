use Rattle.std.proofs.Common.{◌<◌, length, sym, ap, ◌∙◌, subst}
use Rattle.route_lattice.specs.Mesh.{node_count}
use Rattle.route_lattice.specs.Ways.{way_count}
use Rattle.move_maps.specs.Paint.{turned}
use Rattle.move_maps.proofs.Painting.{place_within, shut_at}
use Rattle.move_maps.proofs.brush.Brush.turn.Goals as goal

pub get-n-requires : goal.get-n-requires
get-n-requires c =
    let t = c.args.self.now.group in
    subst (λ n. n < length c.args.counts.now) (sym c.place-place.ensures)
    (place_within (node_count t.lat) (way_count t.d t.lat t.first) c.args.node c.args.i
    (length c.args.counts.now) c.requires.node c.requires.index c.requires.size)

pub set-requires : goal.set-requires
set-requires c =
    let t = c.args.self.now.group in
    subst (λ n. n < length c.args.counts.now) (sym c.place-place.ensures)
    (place_within (node_count t.lat) (way_count t.d t.lat t.first) c.args.node c.args.i
    (length c.args.counts.now) c.requires.node c.requires.index c.requires.size)

pub returns : goal.returns
returns c =
    let s = c.args.self.now in
    let t = s.group in
    let xs = c.args.counts.now in
    let within = subst (λ n. n < length xs) (sym c.place-place.ensures)
    (place_within (node_count t.lat) (way_count t.d t.lat t.first) c.args.node c.args.i (length xs)
    c.requires.node c.requires.index c.requires.size) in
    shut_at s.stroke t.d t.lat t.first s.item c.args.node c.args.i c.place-place.result c.turned.result xs
    c.set.new.self c.place-place.ensures c.requires.index within c.requires.shut
    (c.turned.ensures ∙ ap (turned s.stroke) c.get-n.ensures) c.set.ensures
