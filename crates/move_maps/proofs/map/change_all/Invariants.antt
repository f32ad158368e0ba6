use Rattle.move_maps.proofs.Following.{FollowTo}
use Rattle.move_maps.proofs.map.change_all.Given as goal

-- the maps so far follow the change
abbrev pub invariant-loop-map : goal.invariant-loop-map
invariant-loop-map g l = FollowTo l.on.d l.on.lat l.gone l.come l.fn.maps l.maps l.map-index
