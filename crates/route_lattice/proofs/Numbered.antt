-- The via of a number: its padstack is in the list of its net, its layer is one of the lattice.
use Rattle.std.proofs.Common.{◌≡◌, ℕ, ◌<◌, ◌≤◌, ◌+◌, ◌-◌, ◌*◌, ◌/◌, ◌%◌, List, length, get_or, Option, arith}
use Rattle.std.proofs.Common.{refl, sym, ap, ap₂, ◌∙◌, subst, lt-ltb, le-ltb}
use Rattle.std.specs.Prelude.{nat_lt, slice_index}
use Rattle.std.proofs.lemmas.Nat.{mod_below, div_below}
use Rattle.pcb_model.specs.declared.design.Net.{Net}
use Rattle.pcb_model.specs.declared.design.Design.{Design}
use Rattle.route_lattice.specs.declared.moves.Move.{Move}
use Rattle.route_lattice.specs.Mesh.{Mesh}
use Rattle.route_lattice.specs.Ways.{step_at, vias_in, vias_of, via_at, way, way_count}
use Rattle.route_lattice.proofs.Gets.{at_get}
use Rattle.route_lattice.proofs.Places.{width_positive}
use Rattle.route_lattice.proofs.Steps.{yes, no}

pub way_steps : (d : Design) (m : Mesh) (net v i : ℕ) → i < 4 → step_at m v i ≡ way d m net v i
way_steps d m net v i h =
    sym (yes (nat_lt i 4) (step_at m v i)
    (via_at d m v (slice_index (vias_of d net) ((i - 4) / length m.layers)) ((i - 4) % length m.layers))
    (step_at m v i) (lt-ltb i 4 h) refl)

-- n layers, the nets, the net x, and its vias
module _ (d : Design) (m : Mesh) (net i n : ℕ) (nets : List Net) (x : Net) (vias : List ℕ) (en : n ≡ length m.layers)
    (e : nets ≡ d.nets) (f : x ≡ get_or nets net x) (g : vias ≡ (get_or nets net x).vias)
    (there : net < length d.nets) where
  net_vias : vias_of d net ≡ vias
  net_vias = ap vias_in (at_get d.nets net x there (f ∙ ap (λ xs. get_or xs net x) e))
      ∙ ap (λ (y : Net). y.vias) f ∙ sym g

  module _ (below : i < way_count d m net) (big : 4 ≤ i) where
    inside : i - 4 < length vias * n
    inside =
        let k : i < 4 + length vias * n =
        subst (λ a. i < 4 + a) (ap₂ (λ (vs : List ℕ) b. length vs * b) net_vias (sym en)) below in omega (arith, k, big)

    pub some_layers : 0 < n
    some_layers = width_positive n (length vias) (i - 4) inside

    pub via_there : (i - 4) / n < length vias
    via_there = div_below (i - 4) n (length vias) some_layers inside

    pub level_there : (i - 4) % n < length m.layers
    level_there = subst (λ k. (i - 4) % n < k) en (mod_below (i - 4) n some_layers)

  pub way_vias : (v : ℕ) (r : Option (Move × ℕ)) → 4 ≤ i → r ≡ via_at d m v (get_or vias ((i - 4) / n) 0) ((i - 4) % n)
      → r ≡ way d m net v i
  way_vias v r big h =
      h ∙ ap₂ (λ (vs : List ℕ) k. via_at d m v (slice_index vs ((i - 4) / k)) ((i - 4) % k)) (sym net_vias) en
      ∙ sym (no (nat_lt i 4) (step_at m v i)
      (via_at d m v (slice_index (vias_of d net) ((i - 4) / length m.layers)) ((i - 4) % length m.layers))
      (via_at d m v (slice_index (vias_of d net) ((i - 4) / length m.layers)) ((i - 4) % length m.layers))
      (le-ltb i 4 big) refl)
