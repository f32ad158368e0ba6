use Rattle.std.proofs.Common.{take}
use Rattle.route_plan.specs.inner.Ways.{AreMoved}
use Rattle.route_plan.proofs.fit.NewItems.moved_items.Given as goal

abbrev pub invariant-loop-id : goal.invariant-loop-id
invariant-loop-id g l = AreMoved l.self.on.d l.self.on.lat l.self.on.items l.self.new (take l.id-index l.ids) l.moved
