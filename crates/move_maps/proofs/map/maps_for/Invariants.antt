use Rattle.move_maps.proofs.Following.{AreMadeTo}
use Rattle.move_maps.proofs.map.maps_for.Given as goal

-- the maps of the nets so far are made
abbrev pub invariant-loop-first : goal.invariant-loop-first
invariant-loop-first g l = AreMadeTo l.on.d l.on.lat l.on.items l.firsts l.first-index l.maps.items
