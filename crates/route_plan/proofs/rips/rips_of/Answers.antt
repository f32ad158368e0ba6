use Rattle.std.proofs.Common.{◌<◌, length, refl}
use Rattle.std.proofs.lemmas.List.Elements.{All-contains, All-weaker}
use Rattle.move_maps.specs.declared.map.GroupMap.{GroupMap as OneMap}
use Rattle.move_maps.specs.Maps.{IsMapOf}
use Rattle.move_maps.proofs.Mapped.{no_map}
use Rattle.route_plan.proofs.rips.rips_of.Goals as goal

pub map_of-requires-clause-firsts : goal.map_of-requires-clause-firsts
map_of-requires-clause-firsts g c =
    let P : OneMap → Type 0 = λ o. IsMapOf c.args.rips.now.legal.d.now c.args.rips.now.legal.lat.now
    c.args.rips.now.legal.d.now.fixed o in
    All-weaker P (λ (o : OneMap). o.first < length c.args.rips.now.legal.d.now.nets) (λ o h. h.net) c.args.fixed.now
    c.requires.fixed.each

pub returns-in_default-clause-none : goal.returns-in_default-clause-none
returns-in_default-clause-none g c =
    no_map c.args.rips.now.legal.d.now c.args.rips.now.legal.lat.now c.args.rips.now.legal.net
    c.args.fixed.now c.requires.fixed.mapped c.in_default.ensures.none

pub map_of-requires-clause-net : goal.map_of-requires-clause-net
map_of-requires-clause-net g c = c.requires.can_rip.can_move.net_there

pub returns-in_default-clause-mapped : goal.returns-in_default-clause-mapped
returns-in_default-clause-mapped g c = tt

pub returns-in_default-clause-lat : goal.returns-in_default-clause-lat
returns-in_default-clause-lat g c = tt

pub returns-in_default-clause-d : goal.returns-in_default-clause-d
returns-in_default-clause-d g c = tt

pub returns-in_default-clause-c : goal.returns-in_default-clause-c
returns-in_default-clause-c g c = tt

pub returns-in_default-clause-net : goal.returns-in_default-clause-net
returns-in_default-clause-net g c = tt

pub returns-in_default-clause-via_cost : goal.returns-in_default-clause-via_cost
returns-in_default-clause-via_cost g c = tt

pub returns-in_default-clause-penalty : goal.returns-in_default-clause-penalty
returns-in_default-clause-penalty g c = tt

pub returns-in_default-clause-rip_maps : goal.returns-in_default-clause-rip_maps
returns-in_default-clause-rip_maps g c = tt

pub net_moves-requires-clause-can_move : goal.net_moves-requires-clause-can_move
net_moves-requires-clause-can_move g c = c.requires.can_rip.can_move

pub net_moves-requires-clause-serves : goal.net_moves-requires-clause-serves
net_moves-requires-clause-serves g c = c.requires.serves

pub net_moves-requires-clause-maps : goal.net_moves-requires-clause-maps
net_moves-requires-clause-maps g c = c.requires.maps

pub returns-in-Ok-Some-clause-none : goal.returns-in-Ok-Some-clause-none
returns-in-Ok-Some-clause-none g c = tt

pub returns-in-Ok-Some-clause-mapped : goal.returns-in-Ok-Some-clause-mapped
returns-in-Ok-Some-clause-mapped g c =
    let is = c.in-Ok-Some.field-0-is in let e = c.in-Ok-Some.ensures in rw is at e.mapped

pub returns-in-Ok-Some-clause-lat : goal.returns-in-Ok-Some-clause-lat
returns-in-Ok-Some-clause-lat g c = let is = c.in-Ok-Some.field-0-is in let e = c.in-Ok-Some.ensures in rw is at e.lat

pub returns-in-Ok-Some-clause-d : goal.returns-in-Ok-Some-clause-d
returns-in-Ok-Some-clause-d g c = let is = c.in-Ok-Some.field-0-is in let e = c.in-Ok-Some.ensures in rw is at e.d

pub returns-in-Ok-Some-clause-c : goal.returns-in-Ok-Some-clause-c
returns-in-Ok-Some-clause-c g c = let is = c.in-Ok-Some.field-0-is in let e = c.in-Ok-Some.ensures in rw is at e.c

pub returns-in-Ok-Some-clause-net : goal.returns-in-Ok-Some-clause-net
returns-in-Ok-Some-clause-net g c = let is = c.in-Ok-Some.field-0-is in let e = c.in-Ok-Some.ensures in rw is at e.net

pub returns-in-Ok-Some-clause-via_cost : goal.returns-in-Ok-Some-clause-via_cost
returns-in-Ok-Some-clause-via_cost g c =
    let is = c.in-Ok-Some.field-0-is in let e = c.in-Ok-Some.ensures in rw is at e.via_cost

pub returns-in-Ok-Some-clause-penalty : goal.returns-in-Ok-Some-clause-penalty
returns-in-Ok-Some-clause-penalty g c = refl

pub returns-in-Ok-Some-clause-rip_maps : goal.returns-in-Ok-Some-clause-rip_maps
returns-in-Ok-Some-clause-rip_maps g c =
    let P : OneMap → Type 0 = λ o. IsMapOf c.args.rips.now.legal.d.now c.args.rips.now.legal.lat.now
    c.args.rips.now.legal.d.now.fixed o in
    let e = c.in-Ok-Some.ensures in
    let is = c.in-Ok-Some.field-0-is in
    record {
      map_is = rw is at e.map;
      alike = rw is at e.alike;
      fixed_is = All-contains P c.args.fixed.now c.in-Some.fixed.now c.requires.fixed.each c.in-Some.ensures.there;
      fixed_alike = c.in-Some.ensures.alike;
      own_is = rw is at e.own;
    }

pub returns-in-Ok-None-clause-none : goal.returns-in-Ok-None-clause-none
returns-in-Ok-None-clause-none g c = let is = c.in-Ok-None.field-0-is in let e = c.in-Ok-None.ensures in rw is at e.none

pub returns-in-Ok-None-clause-mapped : goal.returns-in-Ok-None-clause-mapped
returns-in-Ok-None-clause-mapped g c = tt

pub returns-in-Ok-None-clause-lat : goal.returns-in-Ok-None-clause-lat
returns-in-Ok-None-clause-lat g c = tt

pub returns-in-Ok-None-clause-d : goal.returns-in-Ok-None-clause-d
returns-in-Ok-None-clause-d g c = tt

pub returns-in-Ok-None-clause-c : goal.returns-in-Ok-None-clause-c
returns-in-Ok-None-clause-c g c = tt

pub returns-in-Ok-None-clause-net : goal.returns-in-Ok-None-clause-net
returns-in-Ok-None-clause-net g c = tt

pub returns-in-Ok-None-clause-via_cost : goal.returns-in-Ok-None-clause-via_cost
returns-in-Ok-None-clause-via_cost g c = tt

pub returns-in-Ok-None-clause-penalty : goal.returns-in-Ok-None-clause-penalty
returns-in-Ok-None-clause-penalty g c = tt

pub returns-in-Ok-None-clause-rip_maps : goal.returns-in-Ok-None-clause-rip_maps
returns-in-Ok-None-clause-rip_maps g c = tt
