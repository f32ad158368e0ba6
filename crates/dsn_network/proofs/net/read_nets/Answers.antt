use Rattle.std.proofs.Common.{◌∙◌, ap}
use Rattle.std.specs.Prelude.{map}
use Rattle.dsn_network.specs.Nets.{net_pins}
use Rattle.dsn_network.specs.Owners.{pins_of}
use Rattle.dsn_network.proofs.Owning.{read_pins}
use Rattle.dsn_network.proofs.net.read_nets.Goals as goal

pub refuse_pins_taken-requires : goal.refuse_pins_taken-requires
refuse_pins_taken-requires c =
    ap pins_of (c.as_slice-2.ensures ∙ c.in_ok-read.ensures.nets)
    ∙ read_pins c.args.scale.nm c.args.pins.now.lib.now c.args.pins.now.placing.now c.args.classes.now.lists.now _
    ∙ ap (map (net_pins c.args.pins.now.lib.now c.args.pins.now.placing.now)) c.as_slice.ensures
