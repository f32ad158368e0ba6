use Rattle.std.proofs.Common.{◌<◌, length, All, sym, subst}
use Rattle.std.proofs.lemmas.List.{take_all}
use Rattle.std.proofs.lemmas.List.Elements.{All-nil, All-more}
use Rattle.move_maps.specs.declared.map.GroupMap.{GroupMap as OneMap}
use Rattle.move_maps.specs.Maps.{IsNotFor}
use Rattle.move_maps.proofs.Painting.{not_clear}
use Rattle.move_maps.proofs.map.map_for.Goals as goal

pub loop-map-init : goal.loop-map-init
loop-map-init c = All-nil (IsNotFor c.args.d.now c.args.net)

pub are_alike-requires-clause-first : goal.are_alike-requires-clause-first
are_alike-requires-clause-first c =
    subst (λ (o : OneMap). o.first < length c.args.d.now.nets) (sym c.map-item.is)
    (c.requires.firsts c.loop-map.map-index c.map-item.result c.loop-map-test.true)

pub are_alike-requires-clause-net : goal.are_alike-requires-clause-net
are_alike-requires-clause-net c = c.requires.net

pub returns-then-are_alike-clause-there : goal.returns-then-are_alike-clause-there
returns-then-are_alike-clause-there c = (c.loop-map.map-index, c.loop-map-test.true, sym c.map-item.is)

pub returns-then-are_alike-clause-alike : goal.returns-then-are_alike-clause-alike
returns-then-are_alike-clause-alike c = c.are_alike.ensures.0 c.if-are_alike.true

pub loop-map-preserved : goal.loop-map-preserved
loop-map-preserved c =
    All-more (IsNotFor c.args.d.now c.args.net) c.args.maps.now c.loop-map.map-index c.map-item.result
    c.loop-map-test.true c.loop-map.invariant
    (subst (IsNotFor c.args.d.now c.args.net) c.map-item.is
    (not_clear c.are_alike.result _ c.are_alike.ensures c.if-are_alike.false))

pub returns-clause-none : goal.returns-clause-none
returns-clause-none c =
    subst (All (IsNotFor c.args.d.now c.args.net))
    (take_all c.loop-map.map-index c.args.maps.now c.loop-map-test.false) c.loop-map.invariant
