-- A wire and its shoved chain.
use Rattle.std.proofs.Common.{◌≡◌, ℕ, ◌+◌, ◌<◌, ◌^◌, Bool, false, List, [], length, get_or, sym, ◌∙◌, ap, subst, arith}
use Rattle.std.specs.Prelude.{All}
use Rattle.std.proofs.lemmas.Option.{slice_get-get_or, get_or_from_slice_get}
use Rattle.std.proofs.lemmas.List.Elements.{All-nil, All-cons}
use Rattle.geo_kernel.specs.declared.point.Point.{Point}
use Rattle.geo_kernel.specs.Plane.{IsWithin}
use Rattle.pcb_model.specs.declared.item.Item.{Item}
use Rattle.pcb_model.specs.declared.item.Metal.{Metal}
use Rattle.pcb_model.specs.declared.item.Metal.TheVariants as metal
use Rattle.pcb_model.specs.declared.design.Design.{Design}
use Rattle.pcb_model.specs.Pieces.{wire_piece, item_of}
use Rattle.pcb_model.specs.Bounds.{IsFit, IsItemFit, IsMetalFit}
use Rattle.route_lattice.specs.Mesh.{Mesh}
use Rattle.route_lattice.specs.Fits.{FitsDesign}
use Rattle.shove.specs.Shoves.{MovesRun, IsShovedChain, without_repeats, with_points, chain_of, with_chain, reshaped}
use Rattle.shove.specs.Shoves.{CanReplace, IsShove}
use Rattle.shove.proofs.Shoving.{one_chain, enough_points, chain_within}

module _ (d : Design) (m : Mesh) (items : List Item) (a : Item) (r : ℕ) (up : Bool) (layer width : ℕ)
    (chain : List Point) (metal_is : a.metal ≡ metal.Wire layer width chain) (o : Point) where
  chain_is : chain_of a.metal ≡ chain
  chain_is = ap chain_of metal_is

  -- no line, or no run parallel to an axis
  pub none : ((p q : Point) → MovesRun m up (get_or chain r o) (get_or chain (r + 1) o) p q → ⊥) → (s : List Point)
      → ¬ (IsShove d m items a r up s)
  none never s h =
      let c = subst (λ (ps : List Point). IsShovedChain m ps r up s) chain_is h.shoved in
      never c.to_a c.to_b (subst (λ (p : Point
      × Point). MovesRun m up p.0 p.1 c.to_a c.to_b) (λ i. (
        sym (get_or_from_slice_get chain r c.a o c.a_is) i,
        sym
            (get_or_from_slice_get chain (r + 1) c.b o c.b_is) i,
      )) c.moves)

  pub shoved_by : (p q : Point) (s : List Point) → r + 1 < length chain
      → MovesRun m up (get_or chain r o) (get_or chain (r + 1) o) p q → s ≡ without_repeats (with_points chain r p q)
      → IsShovedChain m (chain_of a.metal) r up s
  shoved_by p q s within moves is =
      subst (λ (ps : List Point). IsShovedChain m ps r up s) (sym chain_is)
      (record {
        a = get_or chain r o;
        a_is = slice_get-get_or chain r o (omega arith);
        b = get_or chain
            (r + 1) o;
        b_is = slice_get-get_or chain
            (r + 1) o within;
        to_a = p;
        to_b = q;
        moves = moves;
        shoved_is = is;
      })

  module _ (s : List Point) (shoved : IsShovedChain m (chain_of a.metal) r up s) (fits : FitsDesign d m)
      (fit : IsMetalFit a.metal) where
    wire_fit : IsMetalFit (metal.Wire layer width chain)
    wire_fit = subst IsMetalFit metal_is fit

    pub new_metal_fits : IsMetalFit (metal.Wire layer width s)
    new_metal_fits =
        let two = enough_points m (chain_of a.metal) r up s shoved in (
          omega (arith, two),
          chain_within d m (chain_of a.metal) r up s fits
              (subst (λ (ps : List Point). All (IsWithin (2 ^ 29)) ps) (sym chain_is) wire_fit.1) shoved,
          wire_fit.2,
        )

    pub new_fits : (new : Item) → new ≡ item_of d a.id a.net false (metal.Wire layer width s) → IsItemFit new
    new_fits new is =
        let two = enough_points m (chain_of a.metal) r up s shoved in
        subst IsItemFit (sym is) (record {
          pieces_fit = All-cons IsFit (wire_piece layer width s) []
              (record { well_formed = omega (arith, two); within = new_metal_fits.1; width_within = wire_fit.2 })
              (All-nil IsFit);
        })

    new_is : reshaped d a.id s a ≡ item_of d a.id a.net false (metal.Wire layer width s)
    new_is = ap (λ (mt : Metal). item_of d a.id a.net false (with_chain s mt)) metal_is

    pub fits_not : (new : Item) → new ≡ item_of d a.id a.net false (metal.Wire layer width s)
        → ¬ (CanReplace d items a new) → (t : List Point) → ¬ (IsShove d m items a r up t)
    fits_not new is not t h =
        let same = one_chain m (chain_of a.metal) r up t s h.shoved shoved in
        not (subst (CanReplace d items a) (new_is
        ∙ sym is) (subst (λ (ps : List Point). CanReplace d items a (reshaped d a.id ps a)) same h.fits))

    pub is_shove : (new : Item) (t : List Point) (l w : ℕ) → new
        ≡ item_of d a.id a.net false (metal.Wire layer width s) → new.metal ≡ metal.Wire l w t
        → CanReplace d items a new → IsShove d m items a r up t
    is_shove new t l w is metal_now can =
        let same : s ≡ t = ap chain_of (sym (ap (λ (x : Item). x.metal) is) ∙ metal_now) in
        subst (IsShove d m items a r up) same (record {
          shoved = shoved;
          fits = subst (CanReplace d items a) (is
              ∙ sym new_is) can;
        })
