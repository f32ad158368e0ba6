use Rattle.std.proofs.Common.{◌<◌, ◌∙◌, List, length, map, All, sym, subst}
use Rattle.std.specs.Prelude.{Contains}
use Rattle.std.proofs.lemmas.List.Elements.{All-contains, All-weaker}
use Rattle.pcb_model.proofs.Probes.{Any-map}
use Rattle.move_maps.specs.Groups.{AreAlike}
use Rattle.move_maps.specs.declared.map.GroupMap.{GroupMap as OneMap}
use Rattle.move_maps.specs.Maps.{IsMapOf, IsNotFor, first_of}
use Rattle.move_maps.proofs.Mapped.{no_map}
use Rattle.move_maps.proofs.map.MoveMaps.moves.Goals as goal

pub map_for-requires-clause-firsts : goal.map_for-requires-clause-firsts
map_for-requires-clause-firsts g c =
    let P : OneMap → Type 0 = λ o. IsMapOf c.args.d.now c.args.lat.now (g.C.Copper.items c.args.c.now) o in
    All-weaker P (λ (o : OneMap). o.first < length c.args.d.now.nets) (λ o h. h.net) c.as_slice.result.now
    (subst (All P) (sym (c.as_slice.ensures.value ∙ c.self.view_is)) c.requires.maps.each)

pub returns-in-Some-clause-map : goal.returns-in-Some-clause-map
returns-in-Some-clause-map g c =
    let P : OneMap → Type 0 = λ o. IsMapOf c.args.d.now c.args.lat.now (g.C.Copper.items c.args.c.now) o in
    All-contains P c.as_slice.result.now c.in-Some.map.now
    (subst (All P) (sym (c.as_slice.ensures.value ∙ c.self.view_is)) c.requires.maps.each) c.in-Some.ensures.there

pub returns-in-None-clause-none : goal.returns-in-None-clause-none
returns-in-None-clause-none g c =
    no_map c.args.d.now c.args.lat.now c.args.net c.args.self.now c.requires.maps.mapped
    (subst (All (IsNotFor c.args.d.now c.args.net)) (c.as_slice.ensures.value ∙ c.self.view_is) c.in-None.ensures.none)

pub map_for-requires-clause-net : goal.map_for-requires-clause-net
map_for-requires-clause-net g c = c.requires.can_move.net_there

pub of-requires : goal.of-requires
of-requires g c = record { can_move = c.requires.can_move }

pub returns-in-Some-clause-none : goal.returns-in-Some-clause-none
returns-in-Some-clause-none g c = tt

pub returns-in-Some-clause-lat : goal.returns-in-Some-clause-lat
returns-in-Some-clause-lat g c = c.of.ensures.lat

pub returns-in-Some-clause-d : goal.returns-in-Some-clause-d
returns-in-Some-clause-d g c = c.of.ensures.d

pub returns-in-Some-clause-c : goal.returns-in-Some-clause-c
returns-in-Some-clause-c g c = c.of.ensures.c

pub returns-in-Some-clause-net : goal.returns-in-Some-clause-net
returns-in-Some-clause-net g c = c.of.ensures.net

pub returns-in-Some-clause-via_cost : goal.returns-in-Some-clause-via_cost
returns-in-Some-clause-via_cost g c = c.of.ensures.via_cost

pub returns-in-Some-clause-alike : goal.returns-in-Some-clause-alike
returns-in-Some-clause-alike g c = c.in-Some.ensures.alike

pub returns-in-None-clause-mapped : goal.returns-in-None-clause-mapped
returns-in-None-clause-mapped g c = tt

pub returns-in-None-clause-lat : goal.returns-in-None-clause-lat
returns-in-None-clause-lat g c = tt

pub returns-in-None-clause-d : goal.returns-in-None-clause-d
returns-in-None-clause-d g c = tt

pub returns-in-None-clause-c : goal.returns-in-None-clause-c
returns-in-None-clause-c g c = tt

pub returns-in-None-clause-net : goal.returns-in-None-clause-net
returns-in-None-clause-net g c = tt

pub returns-in-None-clause-via_cost : goal.returns-in-None-clause-via_cost
returns-in-None-clause-via_cost g c = tt

pub returns-in-None-clause-map : goal.returns-in-None-clause-map
returns-in-None-clause-map g c = tt

pub returns-in-None-clause-alike : goal.returns-in-None-clause-alike
returns-in-None-clause-alike g c = tt

pub returns-in-Some-clause-mapped : goal.returns-in-Some-clause-mapped
returns-in-Some-clause-mapped g c =
    let maps = c.args.self.now in
    let there = subst (λ (os : List OneMap). Contains os c.in-Some.map.now) (c.as_slice.ensures.value ∙ c.self.view_is)
    c.in-Some.ensures.there in (
      map first_of maps,
      c.requires.maps.mapped,
      Any-map (λ x. AreAlike c.args.d.now x c.args.net) first_of maps
          (there.0, c.in-Some.map.now, there.1, there.2, c.in-Some.ensures.alike),
    )
