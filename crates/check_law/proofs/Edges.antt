-- A design that was read has each boundary's edge among its fixed items.
use Rattle.std.proofs.Common.{◌≡◌, inl, inr, ℕ, ◌+◌, List, [], ◌∷◌, ◌++◌, All, arith, get_or}
use Rattle.std.proofs.Common.{length}
use Rattle.std.proofs.Common.{map, refl, subst, sym}
use Rattle.std.specs.Prelude.{Contains}
use Rattle.std.specs.List.{flat_map}
use Rattle.std.proofs.lemmas.List.{length-map}
use Rattle.std.proofs.lemmas.List.Elements.{All-cons, All-contains_itself, All-nil, Contains-append_left}
use Rattle.geo_kernel.specs.declared.point.Point.{Point}
use Rattle.geo_kernel.specs.Spine.{closed}
use Rattle.pcb_model.specs.declared.design.Design.{Design}
use Rattle.pcb_model.specs.declared.design.Padstack.{Padstack}
use Rattle.pcb_model.specs.declared.item.Item.{Item}
use Rattle.pcb_model.specs.Pieces.{wire_piece}
use Rattle.pcb_islands.proofs.Elements.{in_cons, in_here, in_later, in_none}
use Rattle.dsn_shapes.specs.declared.parts.LayerShape.{LayerShape}
use Rattle.dsn_design.specs.declared.parts.Parts.{Parts}
use Rattle.dsn_design.specs.Copper.{below}
use Rattle.dsn_design.specs.Items.{ban_item, component_items, edge_item, edge_pieces, fixed_wiring, loops_of}
use Rattle.dsn_design.specs.Items.{numbered_from, with_id}
use Rattle.dsn_design.specs.Made.{board_layer, bounds_of, design_from, design_with}
use Rattle.dsn_design.specs.Pins.{layer_count, placed_components}
use Rattle.dsn_design.specs.Reading.{HasDesign}
use Rattle.dsn_design.proofs.FixedItems.{unnumbered}
use Rattle.dsn_design.proofs.FixedSound.{fixed_are}
use Rattle.copper_alike.specs.Twins.{HasEdges, IsEdge}
use Rattle.check_law.proofs.Lists.{flat, in_range, mapped}

-- an item stands in the list, with some id
record HasNumbered (xs : List Item) (a : Item) : Type 0 where
  id : ℕ
  there : Contains xs (with_id id a)

-- each of the items that are numbered does
has_numbered : (id : ℕ) (xs : List Item) (a : Item) → Contains xs a → HasNumbered (numbered_from id xs) a
has_numbered id [] a h = absurd (in_none a h)
has_numbered id (b ∷ xs) a h = elim (in_cons b a xs h) [
  | inl same ↦ record {
    id = id;
    there = subst (λ (x : Item). Contains (numbered_from id (b ∷ xs)) (with_id id x)) same
        (in_here (with_id id b) (numbered_from (id + 1) xs));
  }
  | inr more ↦ let r = has_numbered (id + 1) xs a more in
      record { id = r.id; there = in_later (with_id id b) (with_id r.id a) (numbered_from (id + 1) xs) r.there }
]

-- the edge of a boundary is one
edge_of : (n id : ℕ) (s : LayerShape) → IsEdge n (loops_of s.spine) (with_id id (edge_item n s))
unfolding edge_item
edge_of n id s = record {
  no_net = refl;
  bans = refl;
  edges = λ layer within i x lt. (
    s.width,
    flat (edge_pieces (below n) s.width) (loops_of s.spine) (get_or (loops_of s.spine) i x)
        (wire_piece layer s.width (closed (get_or (loops_of s.spine) i x)))
        (All-contains_itself (loops_of s.spine) i x lt)
        (mapped (λ (l : ℕ). wire_piece l s.width (closed (get_or (loops_of s.spine) i x))) (below n) layer
        (in_range 0 n layer (omega arith) (omega (arith, within)))),
  );
}

-- where the edge of each boundary is among the items
each_edge : (n : ℕ) (bs : List LayerShape) (fixed : List Item)
    → ((b : LayerShape) → Contains bs b → HasNumbered fixed (edge_item n b))
    → All (λ loops. (e : Item) × Contains fixed e × IsEdge n loops e) (bounds_of bs)
each_edge n [] fixed h = All-nil (λ loops. (e : Item) × Contains fixed e × IsEdge n loops e)
each_edge n (b ∷ bs) fixed h =
    let r = h b (in_here b bs) in
    All-cons (λ loops. (e : Item) × Contains fixed e × IsEdge n loops e)
    (loops_of b.spine) (bounds_of bs) (with_id r.id (edge_item n b), r.there, edge_of n r.id b)
    (each_edge n bs fixed (λ c k. h c (in_later b c bs k)))

-- ---- a design of parts
-- its boundaries are those of the structure
bounds_made : (p : Parts) (stacks : List Padstack) → (design_from p stacks).bounds ≡ bounds_of p.structure.bounds
unfolding design_with
bounds_made p stacks = refl

-- so are its layers
layers_made : (p : Parts) (stacks : List Padstack) → length (design_from p stacks).layers ≡ layer_count p
unfolding design_with
layers_made p stacks = length-map p.structure.layers board_layer

-- the edge of each boundary is a fixed item
edge_there : (p : Parts) (stacks : List Padstack) (b : LayerShape) → Contains p.structure.bounds b
    → HasNumbered (design_from p stacks).fixed (edge_item (layer_count p) b)
edge_there p stacks b h =
    let n = layer_count p in
    let r = has_numbered 0 (unnumbered p stacks) (edge_item n b)
    (Contains-append_left (map (edge_item n) p.structure.bounds)
    (map (ban_item n) p.structure.bans
    ++ (flat_map (component_items p stacks) (placed_components p.placing.places)
    ++ fixed_wiring stacks p.wiring.wires)) (edge_item n b) (mapped (edge_item n) p.structure.bounds b h)) in
    record {
      id = r.id;
      there = subst (λ (xs : List Item). Contains xs (with_id r.id (edge_item n b)))
          (sym (fixed_are p stacks)) r.there;
    }

-- so a design that was read has edges
pub edges_of_read : (text : List ℕ) (d : Design) → HasDesign text d → HasEdges d
edges_of_read text d h = subst HasEdges (sym h.design.design) (record {
  each = subst (λ (n : ℕ). All (λ loops. (e : Item) × Contains (design_from h.parts d.padstacks).fixed e
      × IsEdge n loops e)
      (design_from h.parts d.padstacks).bounds) (sym (layers_made h.parts d.padstacks))
      (subst (All (λ loops. (e : Item) × Contains (design_from h.parts d.padstacks).fixed e
      × IsEdge (layer_count h.parts) loops e)) (sym (bounds_made h.parts d.padstacks))
      (each_edge (layer_count h.parts) h.parts.structure.bounds (design_from h.parts d.padstacks).fixed
      (edge_there h.parts d.padstacks)));
})
