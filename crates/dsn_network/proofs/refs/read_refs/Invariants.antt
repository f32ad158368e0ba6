use Rattle.std.proofs.Common.{◌≡◌, take}
use Rattle.std.specs.List.{flat_map}
use Rattle.dsn_shapes.specs.Lists.{trees_of}
use Rattle.dsn_shapes.specs.Refusals.{noted}
use Rattle.dsn_network.specs.Nets.{ref_pins, ref_refusals}
use Rattle.dsn_network.proofs.refs.read_refs.Given as goal

abbrev pub invariant-loop-word : goal.invariant-loop-word
invariant-loop-word l =
    (l.first ≡ noted l.initial.first
    (flat_map (ref_refusals l.pins.lib.now l.pins.placing.now) (trees_of (take l.word-index l.words))))
    × (l.named ≡ flat_map (ref_pins l.pins.lib.now l.pins.placing.now) (trees_of (take l.word-index l.words)))
