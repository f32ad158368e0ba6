use Rattle.std.proofs.Common.{take, All}
use Rattle.route_lattice.specs.Anchors.{Anchors}
use Rattle.cut_certificate.proofs.check.CutNodes.none_anchors.Given as goal

abbrev pub invariant-loop-node : goal.invariant-loop-node
invariant-loop-node g l = All (λ v. Anchors l.self.on.d l.self.on.lat v l.item → ⊥) (take l.node-index l.self.nodes.now)
