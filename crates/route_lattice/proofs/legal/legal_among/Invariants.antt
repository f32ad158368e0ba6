use Rattle.std.proofs.Common.{take}
use Rattle.route_lattice.specs.Legal.{AreThoseOf, IsLegalNode}
use Rattle.route_lattice.proofs.legal.legal_among.Given as goal

abbrev pub invariant-loop-node : goal.invariant-loop-node
invariant-loop-node g l =
    AreThoseOf (IsLegalNode l.d l.lat (g.C.Copper.items l.c) l.net) (take l.node-index l.nodes) l.legal
