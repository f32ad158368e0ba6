use Rattle.std.proofs.Common.{◌≡◌, take}
use Rattle.std.specs.List.{flat_map}
use Rattle.dsn_shapes.specs.Lists.{trees_of}
use Rattle.dsn_shapes.specs.Refusals.{noted}
use Rattle.ses_reader.specs.Session.{net_items, net_refusals}
use Rattle.ses_reader.proofs.network.read_nets.Given as goal

abbrev pub invariant-loop-net : goal.invariant-loop-net
invariant-loop-net l =
    (l.first ≡ noted l.initial.first (flat_map (net_refusals l.index l.m) (trees_of (take l.net-index l.nets))))
    × (l.found ≡ flat_map (net_items l.index l.m) (trees_of (take l.net-index l.nets)))
