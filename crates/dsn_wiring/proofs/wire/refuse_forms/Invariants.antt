use Rattle.std.proofs.Common.{◌≡◌, take}
use Rattle.std.specs.List.{flat_map}
use Rattle.dsn_shapes.specs.Lists.{trees_of}
use Rattle.dsn_shapes.specs.Refusals.{noted}
use Rattle.dsn_wiring.specs.Wires.{refused_form}
use Rattle.dsn_wiring.proofs.wire.refuse_forms.Given as goal

abbrev pub invariant-loop-form : goal.invariant-loop-form
invariant-loop-form l = l.first ≡ noted l.initial.first (flat_map refused_form (trees_of (take l.form-index l.forms)))
