-- Where a via leads that is there.
use Rattle.std.proofs.Common.{◌≡◌, ℕ, ◌-◌, ◌/◌, ◌%◌, ◌<◌, ◌≤◌, Bool, true, false, cond, List, length, Some, None}
use Rattle.std.proofs.Common.{sym, ap, ◌∙◌, subst, slice_index_or}
use Rattle.std.specs.Prelude.{slice_index}
use Rattle.pcb_model.specs.declared.design.Net.{Net}
use Rattle.pcb_model.specs.declared.design.Design.{Design}
use Rattle.pcb_model.specs.Pieces.{padstack_pieces}
use Rattle.route_lattice.specs.declared.moves.Move.{Move}
use Rattle.route_lattice.specs.declared.moves.Move.TheVariants.{Via}
use Rattle.route_lattice.specs.Mesh.{Mesh, node_at, column, row, point_of, layer_of}
use Rattle.route_lattice.specs.Ways.{vias_of, way, can_join}
use Rattle.move_maps.proofs.Covering.{vias_at}
use Rattle.move_maps.proofs.Foreign.{way_via}

-- a choice that gives something gave its first value
chosen : (b : Bool) (x w : Move × ℕ) → cond b (Some x) None ≡ Some w → x ≡ w
chosen true x w e = inner x w e
  where
    inner : (x w : Move × ℕ) → Some x ≡ Some w → x ≡ w
    inner x w e = cc
chosen false x w e = cc

module _ (d : Design) (m : Mesh) (net v i led padstack layer to : ℕ) (four : 4 ≤ i)
    (is : way d m net v i ≡ Some (Via padstack layer, to)) where
  -- what the code makes of a list of padstacks and one of layers is the move
  abbrev LedBy : List ℕ → List ℕ → Type 0
  LedBy vias layers = led ≡ node_at m ((i - 4) % length layers) (row m v) (column m v)
      → ◌≡◌ {A = Move × ℕ}
      (Via (slice_index_or vias ((i - 4) / length layers) 0) (slice_index_or layers ((i - 4) % length layers) 0), led)
      (Via padstack layer, to)

  -- it is so of the net's own padstacks and the lattice's own layers
  own_led : LedBy (vias_of d net) m.layers
  own_led e =
      let p = slice_index (vias_of d net) ((i - 4) / length m.layers) in
      let t = (i - 4) % length m.layers in
      ap (λ (n : ℕ). (Via p (slice_index m.layers t), n)) e
      ∙ chosen (can_join (padstack_pieces d p) (point_of m v) (layer_of m v) (slice_index m.layers t))
      (Via p (slice_index m.layers t), node_at m t (row m v) (column m v)) (Via padstack layer, to)
      (sym (way_via d m net v i four) ∙ is)

  -- and of copies of them
  pub via_led : (nets : List Net) (n : Net) (vias layers : List ℕ) → nets ≡ d.nets → net < length d.nets
      → vias ≡ (slice_index_or nets net n).vias → layers ≡ m.layers → LedBy vias layers
  via_led nets n vias layers e h vias_are layers_are =
      let own : vias ≡ vias_of d net =
      vias_are ∙ (ap (λ (ns : List Net). (slice_index_or ns net n).vias) e ∙ sym (vias_at d.nets net n h)) in
      subst (λ (vs : List ℕ). LedBy vs layers) (sym own)
      (subst (λ (ls : List ℕ). LedBy (vias_of d net) ls) (sym layers_are) own_led)
