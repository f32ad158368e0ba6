use Rattle.std.proofs.Common.{◌≡◌, take}
use Rattle.std.specs.Prelude.{map}
use Rattle.dsn_design.specs.Counts.{counted_number}
use Rattle.dsn_design.specs.Nets.{net_of}
use Rattle.dsn_design.proofs.nets.nets_of.Given as goal

abbrev pub invariant-loop-net : goal.invariant-loop-net
invariant-loop-net l =
    l.all ≡ map (net_of l.lists.stacks.now (counted_number l.lists.firsts.now) l.lists.vias.now l.lists.classes.now)
    (take l.net-index l.nets)
