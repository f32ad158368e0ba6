use Rattle.std.proofs.Common.{◌<◌, arith, sym, subst}
use Rattle.move_maps.specs.declared.map.GroupMap.{GroupMap as OneMap}
use Rattle.move_maps.specs.Maps.{IsSized, Follows}
use Rattle.move_maps.proofs.Following.{follow_none, follow_next, next_sized}
use Rattle.move_maps.proofs.map.change_all.Goals as goal

pub loop-map-init : goal.loop-map-init
loop-map-init g c = follow_none c.args.on.now.d c.args.on.now.lat c.args.gone.now c.args.come.now c.args.maps.now

pub change_map-requires-clause-sized : goal.change_map-requires-clause-sized
change_map-requires-clause-sized g c =
    let within = subst (λ n. c.loop-map.map-index < n) (sym c.loop-map.invariant.size) c.loop-map-test.true in
    subst (IsSized c.args.on.now.d c.args.on.now.lat) c.map-item.is
    (next_sized c.args.on.now.d c.args.on.now.lat c.args.gone.now c.args.come.now c.args.maps.now c.loop-map.maps
    c.loop-map.map-index c.map-item.result within c.map-item.is c.requires.maps c.loop-map.invariant)

pub loop-map-preserved : goal.loop-map-preserved
loop-map-preserved g c =
    let within = subst (λ n. c.loop-map.map-index < n) (sym c.loop-map.invariant.size) c.loop-map-test.true in
    let follows = subst
    (λ (o : OneMap). Follows c.args.on.now.d c.args.on.now.lat c.args.gone.now c.args.come.now o c.change_map.new.map)
    (sym c.map-item.is) c.change_map.ensures in
    follow_next c.args.on.now.d c.args.on.now.lat c.args.gone.now c.args.come.now c.args.maps.now c.loop-map.maps
    c.loop-map.map-index c.map-item.result c.change_map.new.map within c.map-item.is follows c.loop-map.invariant

pub returns-clause-count : goal.returns-clause-count
returns-clause-count g c = c.loop-map.invariant.size

pub returns-clause-each : goal.returns-clause-each
returns-clause-each g c = λ k o h.
    let size = c.loop-map.invariant.size in
    c.loop-map.invariant.front k o (omega (arith, h, size, c.loop-map-test.false))
