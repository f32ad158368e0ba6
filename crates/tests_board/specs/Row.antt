-- The worked row: six items of a board by their pieces, in nm, and the area of its tiles.
use Rattle.std.specs.Prelude.{ℕ, pos, None, true, List, [], ◌∷◌}
use Rattle.geo_kernel.specs.declared.point.Point.{Point}
use Rattle.geo_kernel.specs.declared.point.Rect4.{Rect4}
use Rattle.geo_kernel.specs.declared.spine.Spine.TheVariants.{Chain}
use Rattle.pcb_model.specs.declared.item.Item.{Item}
use Rattle.pcb_model.specs.declared.item.Kind.TheVariants.{Wire}
use Rattle.pcb_model.specs.declared.item.Metal.TheVariants.{Ban}

abbrev pub at : ℕ → ℕ → Point
at x y = record { x = pos x; y = pos y }

-- an item of one chain; a row of tiles asks for no more of it than its pieces
abbrev pub chain_item : ℕ → ℕ → List Point → Item
chain_item id width chain = record {
  id = id;
  net = None;
  fixed = true;
  kind = Wire;
  metal = Ban true true;
  pieces = record { layer = 0; spine = Chain chain; width = width } ∷ [];
}

-- the board's edge
abbrev pub edge : Item
edge =
    chain_item 0 0
    (at 0 0 ∷ (at 10000000 0 ∷ (at 10000000 10000000 ∷ (at 0 10000000 ∷ (at 0 0 ∷ [])))))

-- a round pad of 1 mm
abbrev pub pad : ℕ → Point → Item
pad id p = chain_item id 1000000 (p ∷ [])

-- the straight wire from the first pad to the second
abbrev pub wire_of_a : Item
wire_of_a = chain_item 5 200000 (at 1000000 5000000 ∷ (at 9000000 5000000 ∷ []))

-- the wire between the two other pads, which crosses it
abbrev pub wire_of_b : Item
wire_of_b = chain_item 6 200000 (at 5000000 2000000 ∷ (at 5000000 8000000 ∷ []))

abbrev pub row_items : List Item
row_items =
    edge ∷ (pad 1 (at 1000000 5000000) ∷ (pad 2 (at 9000000 5000000) ∷ (pad 3 (at 5000000 2000000)
    ∷ (pad 4 (at 5000000 8000000) ∷ (wire_of_a ∷ [])))))

abbrev pub row_area : Rect4
row_area = record { x0 = pos 0; y0 = pos 0; x1 = pos 10000000; y1 = pos 10000000 }
