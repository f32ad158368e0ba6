-- The nodes of a window, and those in a box.
use Rattle.std.proofs.Common.{◌≡◌, ℕ, ◌*◌, ◌<◌, List, [], length, Bool, ⊎_elim, sym, subst, arith}
use Rattle.std.specs.Prelude.{slice_get}
use Rattle.std.proofs.lemmas.Nat.{mod_below}
use Rattle.geo_kernel.specs.declared.point.Point.{Point}
use Rattle.geo_kernel.specs.Boxes.{IsIn}
use Rattle.pcb_model.specs.declared.item.Metal.{Metal}
use Rattle.pcb_model.specs.declared.item.Metal.TheVariants.{Wire, Via, Pad, Ban}
use Rattle.pcb_model.specs.declared.design.Pin.{Pin}
use Rattle.pcb_model.specs.Scale.{scale_of}
use Rattle.std.specs.Option.{IsSomeAnd}
use Rattle.pcb_model.specs.declared.item.Item.{Item}
use Rattle.pcb_model.specs.declared.design.Design.{Design}
use Rattle.route_lattice.specs.declared.found.Window.{Window}
use Rattle.route_lattice.specs.Mesh.{Mesh, node_count, column, row, level, point_of}
use Rattle.route_lattice.specs.Anchors.{IsAnchorOf, AreAnchorsOf, rounded}
use Rattle.route_lattice.specs.Found.{Gains, IsAnchorNode, IsInWindow, IsWindowOf, IsWindowIn, IsAnchorIn}
use Rattle.route_lattice.specs.Found.{IsAnchorAlong, AreSorted, box_between}
use Rattle.route_lattice.proofs.Covering.{on_chain, at_itself}
use Rattle.route_lattice.proofs.Gets.{one_value}
use Rattle.route_lattice.proofs.Places.{back, width_positive, level_below, row_below}

pub column_below : (m : Mesh) (v : ℕ) → v < node_count m → column m v < length m.xs
column_below m v h = mod_below v (length m.xs) (width_positive (length m.xs) (length m.layers * length m.ys) v h)

-- a node in a box is in the window of the box
pub in_window : (d : Design) (m : Mesh) (item : Item) (w : Window) (a b : Point) (v : ℕ)
    → IsWindowOf m (box_between a b) w → IsAnchorIn d m item a b v → IsInWindow d m item w v
in_window d m item w a b v o h =
    let i = o.columns.complete (column m v) (column_below m v h.node) h.is_in.left h.is_in.right in
    let j = o.rows.complete (row m v) (row_below (length m.xs) (length m.ys) (length m.layers) v h.node) h.is_in.bottom
    h.is_in.top in
    record {
      index = level m v;
      from = omega arith;
      below = level_below (length m.xs) (length m.ys) (length m.layers) v h.node;
      holds =
          record {
            index = row m v;
            from = j.0;
            below = j.1;
            holds =
                record {
                  index = column m v;
                  from = i.0;
                  below = i.1;
                  holds =
                      record { is = sym (back (length m.xs) (length m.ys) v); anchors = h.anchors };
                };
          };
    }

pub window_in : (m : Mesh) (a b : Point) (w : Window) → IsWindowOf m (box_between a b) w → IsWindowIn m w
window_in m a b w o = record { columns = o.columns.within; rows = o.rows.within }

-- what was gained from nothing, in order
pub anchors_are : (d : Design) (m : Mesh) (item : Item) (found nodes : List ℕ)
    → Gains (IsAnchorNode d m item) (IsAnchorNode d m item) [] found → AreSorted found nodes
    → AreAnchorsOf d m item nodes
anchors_are d m item found nodes g s = record {
  ascends = s.ascends;
  exact = λ v. (
    λ c. ⊎_elim (λ n. absurd (let l = n.1 in omega arith)) (λ a. (a.node, a.anchors)) (g.exact v (s.sound v c)),
    λ h. s.complete v (g.gains v (record { node = h.0; anchors = h.1 })),
  );
}

-- ---- where the anchors of each metal lie
module _ (d : Design) (m : Mesh) (item : Item) (v : ℕ) (h : IsAnchorNode d m item v) where
  is_anchor : (x : Metal) → item.metal ≡ x → IsAnchorOf d x (point_of m v)
  is_anchor x e = let M : Metal → Type 0 = λ y. IsAnchorOf d y (point_of m v) in subst M e h.anchors.is_anchor

  pub along : (layer width : ℕ) (chain : List Point) → item.metal ≡ Wire layer width chain
      → IsAnchorAlong d m item chain v
  along layer width chain e =
      let on = on_chain (point_of m v) chain (is_anchor (Wire layer width chain) e) in
      record {
        index = on.0;
        from = omega arith;
        below = on.1;
        holds = record { node = h.node; is_in = on.2; anchors = h.anchors };
      }

  at_point : (at : Point) → at ≡ point_of m v → IsAnchorIn d m item at at v
  at_point at e =
      record { node = h.node; is_in = subst (IsIn (box_between at at)) e (at_itself at); anchors = h.anchors }

  pub at_via : (padstack : ℕ) (at : Point) → item.metal ≡ Via padstack at → IsAnchorIn d m item at at v
  at_via padstack at e = at_point at (is_anchor (Via padstack at) e)

  pub at_pad : (pin unit : ℕ) (at : Point) → item.metal ≡ Pad pin → unit ≡ (scale_of d).nm
      → IsSomeAnd (slice_get d.pins pin) (λ (q : Pin). rounded unit q.centre ≡ at) → IsAnchorIn d m item at at v
  at_pad pin unit at e u is =
      let At : ℕ → Type 0 = λ n. IsSomeAnd (slice_get d.pins pin) (λ (q : Pin). rounded n q.centre ≡ at) in
      at_point at (one_value (λ (q : Pin). rounded (scale_of d).nm q.centre) (slice_get d.pins pin) at (point_of m v)
      (subst At u is) (is_anchor (Pad pin) e))

  pub at_ban : (wires vias : Bool) → item.metal ≡ Ban wires vias → ⊥
  at_ban wires vias e = is_anchor (Ban wires vias) e
