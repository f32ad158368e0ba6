use Rattle.std.proofs.Common.{◌*◌, sym, subst}
use Rattle.pcb_model.specs.declared.item.Item.{Item}
use Rattle.route_lattice.specs.Mesh.{node_count}
use Rattle.route_lattice.specs.Ways.{way_count}
use Rattle.move_maps.specs.declared.brush.Stroke.{Stroke}
use Rattle.move_maps.specs.Paint.{Paints}
use Rattle.move_maps.specs.Settings.{GroupOf, IsTable}
use Rattle.move_maps.proofs.tally.paint_item.Goals as goal

pub paint-requires : goal.paint-requires
paint-requires c =
    subst (λ (s : GroupOf). IsTable s c.args.counts.now) (sym c.of-brush.ensures.group) c.requires.size

pub returns : goal.returns
returns c =
    let b = c.of-brush.result in let e = c.of-brush.ensures in
    let xs = c.args.counts.now in let ys = c.paint.new.counts in
    let t = c.args.group.now in
    let n = node_count t.lat * way_count t.d t.lat t.first in
    subst (λ (k : Stroke). Paints k t.d t.lat t.first c.args.item.now 0 n xs ys) e.stroke
    (subst (λ (i : Item). Paints b.stroke t.d t.lat t.first i 0 n xs ys) e.item
    (subst (λ (s : GroupOf). Paints b.stroke s.d s.lat s.first b.item 0 (node_count s.lat * way_count s.d s.lat s.first)
    xs ys) e.group c.paint.ensures))
