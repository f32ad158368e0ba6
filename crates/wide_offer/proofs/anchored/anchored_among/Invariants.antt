use Rattle.std.proofs.Common.{take, All}
use Rattle.wide_offer.specs.inner.Routes.{NoneAnchored}
use Rattle.wide_offer.proofs.anchored.anchored_among.Given as goal

abbrev pub invariant-loop-id : goal.invariant-loop-id
invariant-loop-id g l = All (NoneAnchored l.on.d l.on.lat l.on.items l.node) (take l.id-index l.ids)
