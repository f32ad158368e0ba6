-- The copper of a walk is laid as its net wants it, and fits the design.
use Rattle.std.proofs.Common.{◌≡◌, ℕ, ◌<◌, ◌^◌, Bool, true, false, not, ◌&&◌, ◌==◌, Option, Some, None, List, [], ◌∷◌}
use Rattle.std.proofs.Common.{map, length, All, Any, refl, ◌∙◌, subst, arith, le_refl}
use Rattle.std.specs.Prelude.{slice_index, slice_get, IfSome}
use Rattle.std.specs.Option.{IsSomeAnd}
use Rattle.std.proofs.lemmas.Grind.{get_or_default_zero}
use Rattle.std.proofs.lemmas.Option.{slice_get_within}
use Rattle.std.proofs.lemmas.List.Elements.{All-nil, All-cons, All-head, All-tail, All-map}
use Rattle.geo_kernel.specs.declared.point.Point.{Point}
use Rattle.geo_kernel.specs.Plane.{IsWithin}
use Rattle.pcb_model.specs.declared.item.Piece.{Piece}
use Rattle.pcb_model.specs.declared.item.Metal.TheVariants as metal
use Rattle.pcb_model.specs.declared.item.Probe.{Probe}
use Rattle.pcb_model.specs.declared.design.BoardLayer.{BoardLayer}
use Rattle.pcb_model.specs.declared.design.Padstack.{Padstack}
use Rattle.pcb_model.specs.declared.design.Net.{Net}
use Rattle.pcb_model.specs.declared.design.Design.{Design}
use Rattle.pcb_model.specs.Rules.{width_for}
use Rattle.pcb_model.specs.Bounds.{IsFit}
use Rattle.pcb_model.specs.Pieces.{wire_piece, moved_piece, pieces_in, padstack_pieces}
use Rattle.pcb_model.specs.Board.{IsSignal}
use Rattle.pcb_model.specs.Sound.{IsSound, IsNetSound, IsUsable, IsLayerOf}
use Rattle.pcb_model.proofs.Within.{All-at}
use Rattle.route_lattice.specs.declared.moves.Move.{Move}
use Rattle.route_lattice.specs.declared.moves.Move.TheVariants as move
use Rattle.route_lattice.specs.Mesh.{Mesh, node_count, level, point_of, layer_of}
use Rattle.route_lattice.specs.Fits.{FitsDesign}
use Rattle.route_lattice.specs.Near.{are_near_at}
use Rattle.route_lattice.specs.Ways.{has_copper, vias_in, can_join}
use Rattle.route_lattice.proofs.Places.{level_below}
use Rattle.route_lattice.proofs.Fitting.{point_within, width_small, wire_fit, both, via_probe_fit}
use Rattle.path_wire.specs.Wires.{IsNetWalk, unless_straight, goes_on, corners, copper_from, copper_of}
use Rattle.path_wire.specs.Lays.{IsWellLaid}
use Rattle.path_wire.proofs.Walking.{each_metal, Walks, none_left, walks_on, IsViaOf, move_via}

-- ---- look-ups
there : {X : Type 0} (P : X → Type 0) (xs : List X) (i : ℕ) (o : Option X) → slice_get xs i ≡ o → IsSomeAnd o P
    → i < length xs
there P xs i None e h = absurd h
there P xs i (Some x) e h = slice_get_within xs i x e

-- ---- wires
module _ (d : Design) (m : Mesh) (net id : ℕ) (sound : IsSound d) (fits : FitsDesign d m)
    (net_there : net < length d.nets) where
  node_signal : (v : ℕ) → v < node_count m → IsSignal d (layer_of m v)
  node_signal v h = fits.signal (level m v) 0 (level_below (length m.xs) (length m.ys) (length m.layers) v h)

  wire_laid : (v : ℕ) (p : Point) (ps : List Point) → v < node_count m → All (IsWithin (2 ^ 29)) (p ∷ ps)
      → IsWellLaid d net id (metal.Wire (layer_of m v) (width_for d net) (p ∷ ps))
  wire_laid v p ps h within =
      let small = width_small d net sound in
      let layer_there =
      there (λ (l : BoardLayer). l.power ≡ false) d.layers (layer_of m v) (slice_get d.layers (layer_of m v)) refl
      (node_signal v h) in
      let piece = wire_piece (layer_of m v) (width_for d net) (p ∷ ps) in record {
        laid = (node_signal v h, le_refl (width_for d net));
        fits = record {
          fits = record {
            pieces_fit = All-cons IsFit piece []
                (wire_fit (layer_of m v) (width_for d net) p ps small within) (All-nil IsFit);
          };
          metal_fits = (omega arith, within, small);
          metal_in_range = layer_there;
          layers_in_range = All-cons (IsLayerOf d) piece [] layer_there (All-nil (IsLayerOf d));
          net_in_range = net_there;
        };
      }

  nodes_within : (vs : List ℕ) → All (λ x. x < node_count m) vs → All (IsWithin (2 ^ 29)) (map (point_of m) vs)
  nodes_within [] h = All-nil (IsWithin (2 ^ 29))
  nodes_within (v ∷ vs) h =
      All-cons (IsWithin (2 ^ 29)) (point_of m v) (map (point_of m) vs)
      (point_within d m v fits (All-head (λ x. x < node_count m) v vs h))
      (nodes_within vs (All-tail (λ x. x < node_count m) v vs h))

  -- ---- vias
  via_listed : (o : Option Net) (place padstack : ℕ) → place < length (vias_in o)
      → slice_index (vias_in o) place ≡ padstack → IsSomeAnd o (λ (n : Net). Any (λ v. v ≡ padstack) n.vias)
  via_listed None place padstack h e = absurd (omega arith)
  via_listed (Some n) place padstack h e = (place, padstack, h, get_or_default_zero n.vias place padstack h ∙ e, refl)

  via_there : (o : Option Net) (place padstack : ℕ) → IfSome o (IsNetSound d) → place < length (vias_in o)
      → slice_index (vias_in o) place ≡ padstack → padstack < length d.padstacks
  via_there None place padstack s h e = absurd (omega arith)
  via_there (Some n) place padstack s h e =
      subst (λ (x : ℕ). x < length d.padstacks) e
      (there (λ (k : Padstack). IsUsable k.pieces) d.padstacks (slice_index n.vias place)
      (slice_get d.padstacks (slice_index n.vias place)) refl (s.vias_usable place 0 h))

  layers_of : (o : Option Padstack) → IfSome o (λ (s : Padstack). All (IsLayerOf d) s.pieces)
      → All (IsLayerOf d) (pieces_in o)
  layers_of None h = All-nil (IsLayerOf d)
  layers_of (Some s) h = h

  via_near : (ps : List Piece) (at : Point) (from to : ℕ) → can_join ps at from to ≡ true → are_near_at at ps ≡ true
  via_near ps at from to e =
      (both (has_copper ps to) (are_near_at at ps)
      (both (has_copper ps from) (has_copper ps to && are_near_at at ps)
      (both (not (from == to)) (has_copper ps from && (has_copper ps to && are_near_at at ps)) e).1).1).1

  via_laid : (v padstack layer w : ℕ) → v < node_count m → IsViaOf d m net v padstack layer w
      → IsWellLaid d net id (metal.Via padstack (point_of m v))
  via_laid v padstack layer w h via = record {
    laid = via_listed (slice_get d.nets net) via.place padstack via.place_below via.listed;
    fits = record {
      fits = record {
        pieces_fit = via_probe_fit d padstack (point_of m v) sound.fits
            (via_near (padstack_pieces d padstack) (point_of m v) (layer_of m v) layer via.joins);
      };
      metal_fits = point_within d m v fits h;
      metal_in_range =
          via_there (slice_get d.nets net) via.place padstack (All-at (IsNetSound d) d.nets net sound.nets)
          via.place_below via.listed;
      layers_in_range = All-map (IsLayerOf d) (moved_piece (point_of m v)) (padstack_pieces d padstack)
          (layers_of (slice_get d.padstacks padstack)
          (All-at (λ (s : Padstack). All (IsLayerOf d) s.pieces) d.padstacks padstack sound.padstack_layers));
      net_in_range = net_there;
    };
  }

  -- ---- all copper
  corners_there : (vs : List ℕ) (ms : List Move) → All (λ x. x < node_count m) vs
      → All (λ x. x < node_count m) (corners vs ms)
  corners_there [] ms h = All-nil (λ x. x < node_count m)
  corners_there (v ∷ vs) [] h = All-nil (λ x. x < node_count m)
  corners_there (v ∷ vs) (move.Via padstack layer ∷ ms) h = All-nil (λ x. x < node_count m)
  corners_there (v ∷ vs) (move.Step dir ∷ ms) h =
      either (goes_on dir ms) v (corners vs ms) (All-head (λ x. x < node_count m) v vs h)
      (corners_there vs ms (All-tail (λ x. x < node_count m) v vs h))
    where
      either : (t : Bool) (v : ℕ) (rest : List ℕ) → v < node_count m → All (λ x. x < node_count m) rest
          → All (λ x. x < node_count m) (unless_straight t v rest)
      either true v rest h k = k
      either false v rest h k = All-cons (λ x. x < node_count m) v rest h k

  laid_from : (v : ℕ) (vs : List ℕ) (ms : List Move) → Walks d m net (λ (p : Probe). Unit {0}) v vs ms
      → All (IsWellLaid d net id) (copper_from m (width_for d net) true (v ∷ vs) ms)
  laid_from v vs ms g =
      let R : Probe → Type 0 = λ p. Unit {0} in
      let first = λ (v : ℕ) (vs : List ℕ) (h : All (λ x. x < node_count m) (v ∷ vs)). All-head (λ x. x < node_count m) v
      vs h in
      each_metal m (width_for d net) (IsWellLaid d net id) (Walks d m net R) (none_left d m net R) (walks_on d m net R)
      (λ v w vs padstack layer ms g. via_laid v padstack layer w (first v (w ∷ vs) g.there)
      (move_via d m net v padstack layer w g.leads.0))
      (λ v w vs dir ms g. wire_laid v (point_of m v) (map (point_of m) (corners (w ∷ vs) (move.Step dir ∷ ms)))
      (first v (w ∷ vs) g.there)
      (nodes_within (v ∷ corners (w ∷ vs) (move.Step dir ∷ ms))
      (All-cons (λ x. x < node_count m) v (corners (w ∷ vs) (move.Step dir ∷ ms)) (first v (w ∷ vs) g.there)
      (corners_there (w ∷ vs) (move.Step dir ∷ ms) (All-tail (λ x. x < node_count m) v (w ∷ vs) g.there)))))
      true v vs ms g

  pub walk_laid : (nodes : List ℕ) (ms : List Move) → IsNetWalk d m net nodes ms
      → All (IsWellLaid d net id) (copper_of d m net nodes ms)
  walk_laid [] [] w = absurd w.leads
  walk_laid [] (a ∷ ms) w = absurd w.leads
  walk_laid (v ∷ vs) [] w =
      let h = All-head (λ x. x < node_count m) v vs w.there in
      let p = point_within d m v fits h in
      All-cons (IsWellLaid d net id) (metal.Wire (layer_of m v) (width_for d net) (point_of m v ∷ point_of m v ∷ [])) []
      (wire_laid v (point_of m v) (point_of m v ∷ []) h
      (All-cons (IsWithin (2 ^ 29)) (point_of m v) (point_of m v ∷ []) p
      (All-cons (IsWithin (2 ^ 29)) (point_of m v) [] p (All-nil (IsWithin (2 ^ 29))))))
      (All-nil (IsWellLaid d net id))
  walk_laid (v ∷ vs) (a ∷ ms) w =
      laid_from v vs (a ∷ ms) (record { there = w.there; leads = w.leads; laid = λ k p l. tt })
