-- A session's wires and vias are wiring of the design.
use Rattle.std.proofs.Common.{◌≡◌, ℕ, ◌<◌, ◌≤◌, zero, suc, Option, Some, None, List, [], ◌∷◌, length, map, arith}
use Rattle.std.specs.Prelude.{All, IfSome, slice_get}
use Rattle.std.specs.Option.{IsSomeAnd}
use Rattle.std.proofs.lemmas.List.{length-map}
use Rattle.std.proofs.lemmas.List.Elements.{All-cons, All-nil, All-map, All-weaker}
use Rattle.geo_kernel.specs.declared.point.Point.{Point}
use Rattle.geo_kernel.specs.declared.spine.Spine.{Spine}
use Rattle.geo_kernel.specs.declared.spine.Spine.TheVariants.{Chain, Area}
use Rattle.geo_kernel.specs.Spine.{IsWellFormed}
use Rattle.geo_kernel.specs.Moved.{moved, moved_spine}
use Rattle.pcb_model.specs.declared.item.Metal.{Metal}
use Rattle.pcb_model.specs.declared.item.Metal.TheVariants.{Wire, Via, Pad, Ban}
use Rattle.pcb_model.specs.declared.design.Padstack.{Padstack}
use Rattle.pcb_model.specs.declared.design.Design.{Design}
use Rattle.pcb_model.specs.Pieces.{pieces_in, pieces_of, wire_piece, moved_piece}
use Rattle.pcb_model.specs.Bounds.{IsFit, IsMetalFit, IsDesignFit}
use Rattle.pcb_model.specs.Sound.{IsCopper, IsFreeSound, IsMetalInRange}
use Rattle.pcb_model.proofs.Within.{All-at}
use Rattle.ses_reader.specs.declared.item.SesItem.{SesItem}
use Rattle.ses_reader.specs.Sound.{IsCopperSound, IsItemSound, IsStackNear}
use Rattle.ses_reader.specs.Wiring.{wire_of}

-- ---- pieces of a via
still_formed : (by : Point) (s : Spine) → IsWellFormed s → IsWellFormed (moved_spine by s)
still_formed by (Chain ps) h = let e = length-map ps (moved by) in omega (arith, h, e)
still_formed by (Area loops) h =
    let e = length-map loops (map (moved by)) in (
      let k = h.0 in omega (arith, k, e),
      All-map (λ ps. 3 ≤ length ps) (map (moved by)) loops
          (All-weaker (λ ps. 3 ≤ length ps) (λ ps. 3 ≤ length (map (moved by) ps))
          (λ ps k. let f = length-map ps (moved by) in omega (arith, k, f)) loops h.1),
    )

moved_fit : (at : Point) (s : Padstack) → All IsFit s.pieces → IsStackNear at s
    → All IsFit (map (moved_piece at) s.pieces)
moved_fit at s fit near = All-map IsFit (moved_piece at) s.pieces (λ k p within.
    let f = fit k p within in
    record {
      well_formed = still_formed at _ f.well_formed;
      within = near k p within;
      width_within = f.width_within;
    })

-- the padstack is there, and its pieces fit at the place
stack_there : (at : Point) (o : Option Padstack) → IfSome o (λ (s : Padstack). All IsFit s.pieces)
    → IsSomeAnd o (IsStackNear at) → All IsFit (map (moved_piece at) (pieces_in o))
stack_there at None fit near = absurd near
stack_there at (Some s) fit near = moved_fit at s fit near

there : {X : Type 0} (P : X → Type 0) (xs : List X) (i : ℕ) → IsSomeAnd (slice_get xs i) P → i < length xs
there P [] i h = absurd h
there P (x ∷ xs) zero h = omega arith
there P (x ∷ xs) (suc i) h = let k = there P xs i h in omega (arith, k)

-- ---- a session's copper
copper_is : (d : Design) (m : Metal) → IsCopperSound d m → IsCopper m
copper_is d (Wire layer width chain) h = tt
copper_is d (Via padstack at) h = tt
copper_is d (Pad pin) h = h
copper_is d (Ban wires vias) h = h

copper_fits : (d : Design) (m : Metal) → IsCopperSound d m → IsMetalFit m
copper_fits d (Wire layer width chain) h =
    ((let long = h.2 in let some : 0 < length chain = omega (arith, long) in some), h.3, h.1)
copper_fits d (Via padstack at) h = h.0
copper_fits d (Pad pin) h = absurd h
copper_fits d (Ban wires vias) h = absurd h

copper_in_range : (d : Design) (m : Metal) → IsCopperSound d m → IsMetalInRange d m
copper_in_range d (Wire layer width chain) h = h.0
copper_in_range d (Via padstack at) h = there (IsStackNear at) d.padstacks padstack h.1
copper_in_range d (Pad pin) h = absurd h
copper_in_range d (Ban wires vias) h = absurd h

copper_pieces : (d : Design) (m : Metal) → IsDesignFit d → IsCopperSound d m → All IsFit (pieces_of d m)
copper_pieces d (Wire layer width chain) fit h =
    All-cons IsFit (wire_piece layer width chain) [] (record {
      well_formed = (let long = h.2 in let some : 0 < length chain = omega (arith, long) in some);
      within = h.3;
      width_within = h.1;
    }) (All-nil IsFit)
copper_pieces d (Via padstack at) fit h =
    stack_there at (slice_get d.padstacks padstack)
    (All-at (λ (s : Padstack). All IsFit s.pieces) d.padstacks padstack fit.padstacks_fit) h.1
copper_pieces d (Pad pin) fit h = All-nil IsFit
copper_pieces d (Ban wires vias) fit h = All-nil IsFit

free_of : (d : Design) (x : SesItem) → IsDesignFit d → IsItemSound d x → IsFreeSound d (wire_of x)
free_of d x fit h = record {
  copper = copper_is d x.metal h.copper;
  fits = copper_fits d x.metal h.copper;
  in_range = copper_in_range d x.metal h.copper;
  pieces_fit = copper_pieces d x.metal fit h.copper;
  net_in_range = h.net_in_range;
}

-- a session's items as wires
pub wires_sound : (d : Design) (items : List SesItem) → IsDesignFit d → All (IsItemSound d) items
    → All (IsFreeSound d) (map wire_of items)
wires_sound d items fit all = All-map (IsFreeSound d) wire_of items
    (All-weaker (IsItemSound d) (λ (x : SesItem). IsFreeSound d (wire_of x)) (λ x h. free_of d x fit h) items all)
