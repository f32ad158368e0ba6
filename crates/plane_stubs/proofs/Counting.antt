-- How many moves a node has for a net.
use Rattle.std.proofs.Common.{ℕ, ◌+◌, ◌≤◌, ◌^◌, arith, length, Option, Some, None}
use Rattle.std.specs.Prelude.{IfSome, slice_get}
use Rattle.std.proofs.Math.Nat.{mul-le-mul_left, mul-le-mul_right}
use Rattle.pcb_model.specs.declared.design.Net.{Net}
use Rattle.pcb_model.specs.declared.design.Design.{Design}
use Rattle.pcb_model.specs.Sound.{IsNetSound, IsSound}
use Rattle.pcb_model.proofs.Within.{All-at}
use Rattle.route_lattice.specs.Fits.{FitsDesign}
use Rattle.route_lattice.specs.Mesh.{Mesh}
use Rattle.route_lattice.specs.Ways.{vias_in, way_count}

few_vias : (d : Design) (o : Option Net) → IfSome o (IsNetSound d) → length (vias_in o) ≤ 2 ^ 26
few_vias d None h = omega arith
few_vias d (Some n) h = h.few_vias

pub few_ways : (d : Design) (m : Mesh) (net : ℕ) → IsSound d → FitsDesign d m → way_count d m net ≤ 2 ^ 31 + 4
few_ways d m net sound fits =
    let vias = few_vias d (slice_get d.nets net) (All-at (IsNetSound d) d.nets net sound.nets) in
    let layers = fits.few_layers in
    let by_vias = mul-le-mul_right (length m.layers) vias in
    let by_layers = mul-le-mul_left (2 ^ 26) layers in
    omega (arith, by_vias, by_layers)
