use Rattle.std.proofs.Common.{◌≡◌, take}
use Rattle.std.specs.List.{flat_map}
use Rattle.dsn_shapes.specs.Lists.{trees_of}
use Rattle.dsn_shapes.specs.Refusals.{noted}
use Rattle.dsn_network.specs.Nets.{ref_taken}
use Rattle.dsn_network.specs.Owners.{pins_of}
use Rattle.dsn_network.proofs.owners.refuse_refs.Given as goal

abbrev pub invariant-loop-word : goal.invariant-loop-word
invariant-loop-word l =
    l.first ≡ noted l.initial.first
    (flat_map (ref_taken l.pins.lib.now l.pins.placing.now (pins_of l.owners) l.k)
    (trees_of (take l.word-index l.words)))
