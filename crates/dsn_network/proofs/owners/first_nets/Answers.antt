use Rattle.std.proofs.Common.{arith, rules}
use Rattle.dsn_shapes.specs.declared.parts.ReadNet.{ReadNet}
use Rattle.dsn_network.specs.Nets.{first_net}
use Rattle.dsn_network.specs.Owners.{net_by}
use Rattle.dsn_network.proofs.Owning.{net_behind}
use Rattle.dsn_network.proofs.owners.first_nets.Goals as goal

pub loop-k-init : goal.loop-k-init
unfolding first_net
loop-k-init c = search rules

pub loop-k-preserved : goal.loop-k-preserved
loop-k-preserved c =
    λ q. net_behind (λ (n : ReadNet). n.pins) c.args.nets.now c.loop-k.k c.index-nets-k.result c.as_slice.result.now q
    (net_by c.loop-k.map q) (net_by c.keep_pins.new.map q) (omega arith) c.index-nets-k.is c.as_slice.ensures
    (c.loop-k.invariant q) (c.in_ok-keep_pins.ensures q)
