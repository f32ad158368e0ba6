-- What via moves lay, and whether it touches a rib.
use Rattle.std.proofs.Common.{◌≡◌, ℕ, ◌<◌, ◌≤◌, ◌-◌, ◌/◌, ◌%◌, arith, refl, sym, ap, ◌∙◌, subst, Bool, true, false}
use Rattle.std.proofs.Common.{cond, Option, Some, None, length}
use Rattle.std.specs.Prelude.{◌↔◌, IsTrue, nat_lt, slice_index}
use Rattle.std.specs.Option.{option_map}
use Rattle.std.proofs.lemmas.Bool.{le-ltb, ltb-false, ltb-true}
use Rattle.std.proofs.lemmas.Option.{none-some, same_Some}
use Rattle.pcb_model.specs.declared.item.Item.{Item}
use Rattle.pcb_model.specs.declared.item.Probe.{Probe}
use Rattle.pcb_model.specs.declared.item.Probe.TheVariants as probe
use Rattle.pcb_model.specs.Copper.{Finds}
use Rattle.pcb_model.specs.Pairs.{AreTouching}
use Rattle.pcb_model.specs.Pieces.{item_of, metal_of, padstack_pieces, probe_item}
use Rattle.route_lattice.specs.declared.moves.Move.{Move}
use Rattle.route_lattice.specs.declared.moves.Move.TheVariants.{Via}
use Rattle.route_lattice.specs.Fits.{FitsDesign}
use Rattle.route_lattice.specs.Legal.{probe_at, probe_of}
use Rattle.route_lattice.specs.Mesh.{column, layer_of, node_at, node_count, point_of, row}
use Rattle.route_lattice.specs.Ways.{can_join, step_at, via_at, vias_of, way}
use Rattle.route_lattice.proofs.Fitting.{point_within}
use Rattle.plane_joins.specs.Stubs.{RibGround, TouchesRib}
use Rattle.plane_stubs.specs.inner.Landings.{IsNearVia}

-- ---- from index 4 on a move lays a via at its node
module _ (g : RibGround) (net node i : ℕ) (far : 4 ≤ i) where
  abbrev stack : ℕ
  stack = slice_index (vias_of g.d net) ((i - 4) / length g.lat.layers)

  abbrev to_place : ℕ
  to_place = (i - 4) % length g.lat.layers

  abbrev landing : Move × ℕ
  landing = (Via stack (slice_index g.lat.layers to_place), node_at g.lat to_place (row g.lat node) (column g.lat node))

  abbrev joins : Bool
  joins = can_join (padstack_pieces g.d stack) (point_of g.lat node) (layer_of g.lat node)
      (slice_index g.lat.layers to_place)

  way_is : way g.d g.lat net node i ≡ cond joins (Some landing) None
  way_is = ap (λ (b : Bool). cond b (step_at g.lat node i) (via_at g.d g.lat node stack to_place)) (le-ltb i 4 far)

  abbrev laid : Option (Move × ℕ) → Option Probe
  laid o = option_map (λ (w : Move × ℕ). probe_of g.d g.lat net node w.0 w.1) o

  pub via_laid : (q : Probe) → probe_at g.d g.lat net node i ≡ Some q → q ≡ probe.Via stack (point_of g.lat node)
  via_laid q e = by joins (sym (ap laid way_is) ∙ e)
    where
      by : (b : Bool) → laid (cond b (Some landing) None) ≡ Some q → q ≡ probe.Via stack (point_of g.lat node)
      by true f = sym (same_Some (probe.Via stack (point_of g.lat node)) q f)
      by false f = absurd (none-some q f)

  pub near_via : FitsDesign g.d g.lat → node < node_count g.lat → (q : Probe)
      → probe_at g.d g.lat net node i ≡ Some q → IsNearVia q
  near_via fits there q e = subst IsNearVia (sym (via_laid q e)) (point_within g.d g.lat node fits there)

-- ---- what a search for touching items tells
module _ (g : RibGround) (net most : ℕ) (few : g.last ≤ most) (p : Probe) (a : Item)
    (is : a ≡ item_of g.d most (Some net) false (metal_of p)) where
  abbrev Touched : Item → Type 0
  Touched b = AreTouching a b

  touch_on : (b : Item) → AreTouching a b → AreTouching (probe_item g.d net p) b
  touch_on b h =
      let k = subst (λ (x : Item). AreTouching x b) is h in record { same_net = k.same_net; touch = k.touch }

  touch_back : (b : Item) → AreTouching (probe_item g.d net p) b → AreTouching a b
  touch_back b h =
      subst (λ (x : Item). AreTouching x b) (sym is) (record { same_net = h.same_net; touch = h.touch })

  other : (b : Item) → b.id < g.last → Some a.id ≡ Some b.id → ⊥
  other b below e =
      let same = same_Some a.id b.id e in
      let own = ap (λ (x : Item). x.id) is in
      absurd (omega (arith, same, own, below, few))

  pub told_none : Finds Touched (λ b. AreTouching a b → ⊥) g.first (Some a.id) g.items None → TouchesRib g net p → ⊥
  told_none h t = h t.rib t.there (t.from_first, other t.rib t.below_last) (touch_back t.rib t.touch)

  pub told_some : (id : ℕ) → Finds Touched (λ b. AreTouching a b → ⊥) g.first (Some a.id) g.items (Some id)
      → IsTrue (nat_lt id g.last) ↔ TouchesRib g net p
  told_some id h = (λ e. touches (ltb-true id g.last e), λ t. by t (nat_lt id g.last) refl)
    where
      touches : id < g.last → TouchesRib g net p
      touches below =
          let same = h.id_is in
          let from_on = h.looked_at.0 in record {
            rib = h.item;
            there = h.there;
            from_first = from_on;
            below_last = omega (arith, same, below);
            touch = touch_on h.item h.holds;
          }

      by : TouchesRib g net p → (b : Bool) → nat_lt id g.last ≡ b → nat_lt id g.last ≡ true
      by t true e = e
      by t false e =
          let past = ltb-false id g.last e in
          let below = t.below_last in
          absurd (h.before t.rib t.there (t.from_first, other t.rib t.below_last) (omega (arith, past, below))
          (touch_back t.rib t.touch))
