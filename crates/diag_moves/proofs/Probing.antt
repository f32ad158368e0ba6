-- What a diagonal lays.
use Rattle.std.proofs.Common.{◌≡◌, ℕ, ◌<◌, ◌^◌, Some, [], ◌∷◌, sym, ap, ◌∙◌}
use Rattle.std.proofs.lemmas.List.Elements.{All-nil, All-cons}
use Rattle.geo_kernel.specs.declared.point.Point.{Point}
use Rattle.geo_kernel.specs.Plane.{IsWithin}
use Rattle.pcb_model.specs.declared.item.Probe.TheVariants as probe
use Rattle.pcb_model.specs.declared.design.Design.{Design}
use Rattle.pcb_model.specs.Bounds.{IsFit, IsProbeFit}
use Rattle.pcb_model.specs.Pieces.{wire_piece}
use Rattle.pcb_model.specs.Rules.{width_for}
use Rattle.pcb_model.specs.Sound.{IsSound}
use Rattle.route_lattice.specs.declared.moves.Move.{Move}
use Rattle.route_lattice.specs.Mesh.{Mesh, node_count, point_of, layer_of}
use Rattle.route_lattice.specs.Fits.{FitsDesign}
use Rattle.route_lattice.proofs.Fitting.{point_within, width_small, wire_fit}
use Rattle.path_wire.specs.Diagonals.{diagonal_at}
use Rattle.path_wire.proofs.Dirs.{node_in}
use Rattle.path_wire.proofs.Diagonals.{legs}
use Rattle.diag_moves.specs.Slopes.{diagonal_probe}

-- the probe that is made of a diagonal is what it lays
pub probe_is : (d : Design) (m : Mesh) (net v k : ℕ) (step : Move) (to layer width : ℕ) (a b : Point)
    → layer ≡ layer_of m v → width ≡ width_for d net → a ≡ point_of m v → b ≡ point_of m to
    → Some (step, to) ≡ diagonal_at m v k
    → Some (probe.Step layer width a b) ≡ diagonal_probe d m net v (diagonal_at m v k)
probe_is d m net v k step to layer width a b el ew ea eb e =
    let l = legs m v k (step, to) (sym e) in
    (λ i. Some (probe.Step (el i) (ew i) (ea i) (eb i)))
    ∙ ap (λ (n : ℕ). Some (probe.Step (layer_of m v) (width_for d net) (point_of m v) (point_of m n)))
    (sym (ap node_in l.result))
    ∙ ap (diagonal_probe d m net v) (l.result ∙ e)

-- a wire between two nodes fits
pub slope_fits : (d : Design) (m : Mesh) (net v to : ℕ) → IsSound d → FitsDesign d m → v < node_count m
    → to < node_count m
    → IsProbeFit d (probe.Step (layer_of m v) (width_for d net) (point_of m v) (point_of m to))
slope_fits d m net v to s f h k =
    let a = point_of m v in let b = point_of m to in
    let W = IsWithin (2 ^ 29) in record {
      pieces_fit = All-cons IsFit (wire_piece (layer_of m v) (width_for d net) (a ∷ b ∷ [])) []
          (wire_fit (layer_of m v) (width_for d net) a (b ∷ []) (width_small d net s)
          (All-cons W a (b ∷ []) (point_within d m v f h)
          (All-cons W b [] (point_within d m to f k) (All-nil W)))) (All-nil IsFit);
    }
