-- Ribs, one candidate after another.
use Rattle.std.proofs.Common.{◌≡◌, ℕ, zero, suc, ◌<◌, ◌≤◌, ◌+◌, ◌^◌, arith, refl, sym, ap, ◌∙◌, subst, List, [], ◌∷◌}
use Rattle.std.proofs.Common.{length, drop, get_or, drop-cons, add-one, Bool, true, All, inl, inr}
use Rattle.std.specs.Prelude.{slice_get}
use Rattle.std.specs.Option.{IsSomeAnd}
use Rattle.std.proofs.lemmas.List.Elements.{All-append, All-cons, All-head, All-nil}
use Rattle.geo_kernel.specs.declared.point.Point.{Point}
use Rattle.geo_kernel.specs.Plane.{IsWithin}
use Rattle.geo_kernel.specs.Spine.{closed}
use Rattle.pcb_model.specs.declared.item.Item.{Item}
use Rattle.pcb_model.specs.declared.item.Probe.TheVariants as probe
use Rattle.pcb_model.specs.declared.design.BoardLayer.{BoardLayer}
use Rattle.pcb_model.specs.declared.design.Design.{Design}
use Rattle.pcb_model.specs.Bounds.{IsFit, IsProbeFit}
use Rattle.pcb_model.specs.Pieces.{wire_piece}
use Rattle.pcb_model.specs.Rules.{width_for}
use Rattle.pcb_model.specs.Sound.{IsItemOf, IsLayerOf, IsSound}
use Rattle.route_lattice.proofs.Fitting.{width_small, wire_fit}
use Rattle.plane_joins.specs.declared.area.PlaneArea.{PlaneArea}
use Rattle.plane_joins.specs.declared.candidate.Candidate.{Candidate}
use Rattle.plane_joins.specs.Planes.{IsPlaneOf, candidates}
use Rattle.plane_joins.specs.Ribs.{TakesRibs, rib_item}
use Rattle.plane_joins.specs.inner.Laying.{IsCandidateFit, LeadsPlanes, LeadsRibs, TakesOne}

-- ---- one candidate more
pub leads_on : (d : Design) (p : PlaneArea) (first : List Item) (all : List Candidate) (items after : List Item) (k : ℕ)
    (c : Candidate) → k < length all → c ≡ get_or all k c → LeadsRibs d p first all items (drop k all)
    → TakesOne d p items c after → LeadsRibs d p first all after (drop (k + 1) all)
leads_on d p first all items after k c within is leads one =
    let at : drop k all ≡ get_or all k c ∷ drop (k + 1) all = drop-cons all k c within ∙ rw add-one refl in
    let cons : drop k all ≡ c ∷ drop (k + 1) all = at ∙ ap (λ (x : Candidate). x ∷ drop (k + 1) all) (sym is) in
    record {
      on = λ end rest. leads.on end
          (subst (λ (cs : List Candidate). TakesRibs d p items cs end) (sym cons) (taken one end rest));
    }
  where
    taken : TakesOne d p items c after → (end : List Item) → TakesRibs d p after (drop (k + 1) all) end
        → TakesRibs d p items (c ∷ drop (k + 1) all) end
    taken (inl (rib, e)) end rest =
        inl (rib, subst (λ (xs : List Item). TakesRibs d p xs (drop (k + 1) all) end) e rest)
    taken (inr (none, e)) end rest =
        inr (none, subst (λ (xs : List Item). TakesRibs d p xs (drop (k + 1) all) end) e rest)

pub leads_plane : (d : Design) (first : List Item) (all : List PlaneArea) (items after : List Item) (p : PlaneArea)
    (later : List PlaneArea) → LeadsPlanes d first all items (p ∷ later) → TakesRibs d p items (candidates d p) after
    → LeadsPlanes d first all after later
leads_plane d first all items after p later leads one = record { on = λ end rest. leads.on end (after, one, rest) }

-- ---- the wire of a candidate
on_list : {X : Type 0} (xs : List X) (i : ℕ) (P : X → Type 0) → IsSomeAnd (slice_get xs i) P → i < length xs
on_list [] i P h = absurd h
on_list (x ∷ xs) zero P h = omega arith
on_list (x ∷ xs) (suc i) P h = let rest = on_list xs i P h in omega (arith, rest)

abbrev pub wire_as : Design → PlaneArea → ℕ → Bool → Candidate → Item
wire_as d p id fixed c = record (rib_item d p id c) { fixed = fixed }

pub two_within : (c : Candidate) → IsCandidateFit c → All (IsWithin (2 ^ 29)) (c.from ∷ c.to ∷ [])
two_within c h =
    All-cons (IsWithin (2 ^ 29)) c.from (c.to ∷ []) h.from_within
    (All-cons (IsWithin (2 ^ 29)) c.to [] h.to_within (All-nil (IsWithin (2 ^ 29))))

pub probe_fit : (d : Design) (layer width : ℕ) (c : Candidate) → width ≤ 2 ^ 28 → IsCandidateFit c
    → IsProbeFit d (probe.Step layer width c.from c.to)
probe_fit d layer width c w h = record {
  pieces_fit = All-cons IsFit (wire_piece layer width (c.from ∷ c.to ∷ [])) []
      (wire_fit layer width c.from (c.to ∷ []) w (two_within c h)) (All-nil IsFit);
}

pub wire_of_design : (d : Design) (p : PlaneArea) (id : ℕ) (fixed : Bool) (c : Candidate) → IsSound d → IsPlaneOf d p
    → IsCandidateFit c → IsItemOf d (wire_as d p id fixed c)
wire_of_design d p id fixed c s plane h =
    let w = width_small d p.net s in
    let layer = on_list d.layers p.layer (λ (l : BoardLayer). l.power ≡ true) plane.on_power in record {
      fits = record { pieces_fit = (probe_fit d p.layer (width_for d p.net) c w h).pieces_fit };
      metal_fits = (omega arith, two_within c h, w);
      metal_in_range = layer;
      layers_in_range = All-cons (IsLayerOf d) (wire_piece p.layer (width_for d p.net) (c.from ∷ c.to ∷ [])) [] layer
          (All-nil (IsLayerOf d));
      net_in_range = plane.net_there;
    }

-- the edge of a rim
pub closed_within : (ps : List Point) → All (IsWithin (2 ^ 29)) ps → All (IsWithin (2 ^ 29)) (closed ps)
closed_within [] h = h
closed_within (p ∷ ps) h =
    All-append (IsWithin (2 ^ 29)) (p ∷ ps) (p ∷ []) h
    (All-cons (IsWithin (2 ^ 29)) p [] (All-head (IsWithin (2 ^ 29)) p ps h) (All-nil (IsWithin (2 ^ 29))))
