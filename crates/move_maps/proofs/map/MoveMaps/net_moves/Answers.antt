use Rattle.std.proofs.Common.{◌<◌, length, sym, subst}
use Rattle.pcb_model.specs.declared.design.Design.{Design}
use Rattle.move_maps.proofs.Tallies.{can_move_at}
use Rattle.move_maps.proofs.map.MoveMaps.net_moves.Goals as goal

pub moves-requires-clause-can_move : goal.moves-requires-clause-can_move
moves-requires-clause-can_move g c = c.requires.can_move

pub moves-requires-clause-serves : goal.moves-requires-clause-serves
moves-requires-clause-serves g c = c.requires.serves

pub moves-requires-clause-maps : goal.moves-requires-clause-maps
moves-requires-clause-maps g c = c.requires.maps

pub of-requires-clause-ready : goal.of-requires-clause-ready
of-requires-clause-ready g c =
    let h = c.in-Some.ensures in
    can_move_at c.args.d.now _ c.args.lat.now _ c.args.net _ c.args.via_cost _ h.d h.lat h.net h.via_cost
    c.requires.can_move

pub of-requires-clause-first : goal.of-requires-clause-first
of-requires-clause-first g c =
    let h = c.in-Some.ensures in
    subst (λ (x : Design). c.in-Some.by_map.map.now.first < length x.nets) (sym h.d) h.map.net

pub returns-in_ok-of-in-Some-clause-none : goal.returns-in_ok-of-in-Some-clause-none
returns-in_ok-of-in-Some-clause-none g c = tt

pub returns-in_ok-of-in-Some-clause-mapped : goal.returns-in_ok-of-in-Some-clause-mapped
returns-in_ok-of-in-Some-clause-mapped g c = c.in-Some.ensures.mapped

pub returns-in-None-clause-none : goal.returns-in-None-clause-none
returns-in-None-clause-none g c = c.in-None.ensures.none

pub returns-in-None-clause-mapped : goal.returns-in-None-clause-mapped
returns-in-None-clause-mapped g c = tt

pub returns-in-None-clause-lat : goal.returns-in-None-clause-lat
returns-in-None-clause-lat g c = tt

pub returns-in-None-clause-d : goal.returns-in-None-clause-d
returns-in-None-clause-d g c = tt

pub returns-in-None-clause-c : goal.returns-in-None-clause-c
returns-in-None-clause-c g c = tt

pub returns-in-None-clause-net : goal.returns-in-None-clause-net
returns-in-None-clause-net g c = tt

pub returns-in-None-clause-via_cost : goal.returns-in-None-clause-via_cost
returns-in-None-clause-via_cost g c = tt

pub returns-in-None-clause-map : goal.returns-in-None-clause-map
returns-in-None-clause-map g c = tt

pub returns-in-None-clause-alike : goal.returns-in-None-clause-alike
returns-in-None-clause-alike g c = tt

pub returns-in-None-clause-own : goal.returns-in-None-clause-own
returns-in-None-clause-own g c = tt
