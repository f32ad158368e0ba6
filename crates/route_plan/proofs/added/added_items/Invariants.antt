use Rattle.std.proofs.Common.{◌≡◌, take}
use Rattle.board_offers.specs.Items.{added_from}
use Rattle.route_plan.proofs.added.added_items.Given as goal

abbrev pub invariant-loop-i : goal.invariant-loop-i
invariant-loop-i g l = l.items ≡ added_from l.on.d l.net 0 (take l.i l.metals)
