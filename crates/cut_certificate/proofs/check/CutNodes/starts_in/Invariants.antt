use Rattle.std.proofs.Common.{ℕ, ◌<◌}
use Rattle.std.specs.Prelude.{Contains}
use Rattle.route_lattice.specs.Anchors.{Anchors}
use Rattle.route_lattice.specs.Legal.{IsLegalNode}
use Rattle.cut_certificate.proofs.check.CutNodes.starts_in.Given as goal

abbrev pub invariant-loop-node : goal.invariant-loop-node
invariant-loop-node g l = (node : ℕ) → node < l.node → Anchors l.self.on.d l.self.on.lat node l.item
    → IsLegalNode l.self.on.d l.self.on.lat l.self.on.items l.self.net node → Contains l.self.nodes.now node
