-- What a map of pins keeps.
use Rattle.std.specs.Prelude.{ℕ, List, Option, map}
use Rattle.std.specs.BTreeMap.{BTreeMap, get_by}
use Rattle.std.specs.Ordering.{nat_cmp, ordering_then}
use Rattle.dsn_shapes.specs.declared.parts.PinRef.{PinRef}
use Rattle.dsn_shapes.specs.declared.parts.ReadNet.{ReadNet}

-- what it has for a pin
abbrev pub net_by : BTreeMap (ℕ × ℕ) ℕ → PinRef → Option ℕ
net_by nets p = get_by (λ (k : ℕ × ℕ). ordering_then (nat_cmp p.place k.0) (nat_cmp p.pin k.1)) nets

-- the pins of each of these nets
abbrev pub pins_of : List ReadNet → List (List PinRef)
pins_of nets = map (λ (n : ReadNet). n.pins) nets
