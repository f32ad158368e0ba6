use Rattle.move_maps.proofs.Linking.{IsTaking}
use Rattle.move_maps.proofs.links.take_links.Given as goal

-- what is left to be taken in
abbrev pub invariant-loop-to : goal.invariant-loop-to
invariant-loop-to l = IsTaking l.group.d l.group.lat l.group.first l.piece l.points l.to-index l.from
    l.fn.windows.items l.windows.items
