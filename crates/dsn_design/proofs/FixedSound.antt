-- The fixed items of sound sections are sound: they count up, their copper fits, and their indices are in range.
use Rattle.std.proofs.Common.{◌≡◌, ◌<◌, ◌≤◌, ◌+◌, ◌^◌, ◌∙◌, ap, sym, subst, ℕ, zero, suc, Bool, true, List, [], ◌∷◌}
use Rattle.std.proofs.Common.{Option, Some, None, length, get_or, map, refl, arith}
use Rattle.std.specs.Prelude.{All, IfSome, slice_get, unwrap_or}
use Rattle.std.specs.List.{flat_map}
use Rattle.std.specs.Option.{IsSomeAnd, option_map_or}
use Rattle.std.proofs.lemmas.List.{length-map}
use Rattle.std.proofs.lemmas.List.Elements.{All-cons, All-head, All-map, All-nil, All-push, All-tail, All-weaker}
use Rattle.geo_kernel.specs.declared.point.Point.{Point}
use Rattle.geo_kernel.specs.declared.spine.Spine.{Spine}
use Rattle.geo_kernel.specs.declared.spine.Spine.TheVariants.{Chain, Area}
use Rattle.geo_kernel.specs.Plane.{IsWithin}
use Rattle.geo_kernel.specs.Spine.{IsSpineWithin, IsWellFormed, closed}
use Rattle.pcb_model.specs.declared.item.Item.{Item}
use Rattle.pcb_model.specs.declared.item.Metal.{Metal}
use Rattle.pcb_model.specs.declared.item.Metal.TheVariants.{Wire, Via, Pad, Ban}
use Rattle.pcb_model.specs.declared.item.Piece.{Piece}
use Rattle.pcb_model.specs.declared.design.Design.{Design}
use Rattle.pcb_model.specs.declared.design.Padstack.{Padstack}
use Rattle.pcb_model.specs.Bounds.{IsFit, IsMetalFit}
use Rattle.pcb_model.specs.Pieces.{moved_piece, pieces_in, wire_piece}
use Rattle.pcb_model.specs.Sound.{IsFixedSound, IsItemOf, IsMetalInRange, IsNetOf}
use Rattle.pcb_model.proofs.Within.{All-at}
use Rattle.dsn_shapes.specs.declared.parts.BanShape.{BanShape}
use Rattle.dsn_shapes.specs.declared.parts.Image.{Image}
use Rattle.dsn_shapes.specs.declared.parts.ImagePin.{ImagePin}
use Rattle.dsn_shapes.specs.declared.parts.LayerShape.{LayerShape}
use Rattle.dsn_shapes.specs.declared.parts.Place.{Place}
use Rattle.dsn_shapes.specs.declared.parts.ReadNet.{ReadNet}
use Rattle.dsn_shapes.specs.declared.parts.ReadWire.{ReadWire}
use Rattle.dsn_shapes.specs.declared.parts.Stack.{Stack}
use Rattle.dsn_shapes.specs.Fits.{IsBoundShape, IsShapeFit}
use Rattle.dsn_structure.specs.Sound.{IsStructureSound}
use Rattle.dsn_library.specs.Sound.{IsImageSound, IsLibrarySound, IsStackSound}
use Rattle.dsn_placement.specs.Copper.{ban_copper, pin_copper, stand_of}
use Rattle.dsn_placement.proofs.Fits.{ban_fit, pin_fit, stack_shapes_all}
use Rattle.dsn_wiring.specs.Layers.{layers_below}
use Rattle.dsn_wiring.specs.Sound.{IsCopperSound, IsStackNear, IsWireSound, IsWiringSound}
use Rattle.dsn_wiring.proofs.Sound.{at_place, copper_fit, shapes_at_place}
use Rattle.dsn_design.specs.declared.parts.Parts.{Parts}
use Rattle.dsn_design.specs.Copper.{below, piece_on, pieces_of, stack_pieces}
use Rattle.dsn_design.specs.Items.{ban_item, edge_item, edge_pieces, loops_of, pad_item, pad_pieces, placed_ban}
use Rattle.dsn_design.specs.Items.{wiring_item, wiring_pieces, with_id, numbered_from}
use Rattle.dsn_design.specs.Made.{ArePadstacksOf, board_layer, design_from, design_with}
use Rattle.dsn_design.specs.Pins.{image_bans, layer_count, net_of_pin, pin_ref}
use Rattle.dsn_design.specs.Usable.{AreUsable, padstacks_of, usables}
use Rattle.dsn_design.proofs.Got.{got}
use Rattle.dsn_design.proofs.Padstacks.{layers_in_range, range_below}
use Rattle.dsn_design.proofs.Stands.{net_below}
use Rattle.dsn_design.proofs.FixedItems.{all_made, fixed_all, item_at, items_numbered, unnumbered}

-- ---- pieces
-- a piece that fits, on one of n layers
pub record IsFitOn (n : ℕ) (q : Piece) : Type 0 where
  pub fit : IsFit q
  pub on : q.layer < n

shape_on : (n : ℕ) (s : LayerShape) → IsShapeFit s → All (IsFitOn n) (pieces_of n s)
unfolding pieces_of
shape_on n s h = All-map (IsFitOn n) (piece_on s) (layers_below n s.layers) (λ k d l. record {
  fit = record { well_formed = h.well_formed; within = h.within; width_within = h.width_within };
  on = layers_in_range n s.layers k d l;
})

-- the pieces of shapes that fit
pub shapes_on : (n : ℕ) (ss : List LayerShape) → All IsShapeFit ss → All (IsFitOn n) (flat_map (pieces_of n) ss)
shapes_on n ss h = all_made (IsFitOn n) IsShapeFit (pieces_of n) (λ s k. shape_on n s k) ss h

-- ---- items
-- a fixed item that fits the design
pub record IsFixedOf (d : Design) (a : Item) : Type 0 where
  pub fixed : a.fixed ≡ true
  pub item : IsItemOf d a

pub item_of_pieces : (d : Design) (n : ℕ) (a : Item) → length d.layers ≡ n → a.fixed ≡ true → IsMetalFit a.metal
    → IsMetalInRange d a.metal → IfSome a.net (IsNetOf d) → All (IsFitOn n) a.pieces → IsFixedOf d a
item_of_pieces d n a e fixed fit range net pieces = record {
  fixed = fixed;
  item = record {
    fits = record { pieces_fit = All-weaker (IsFitOn n) IsFit (λ q h. h.fit) a.pieces pieces };
    metal_fits = fit;
    metal_in_range = range;
    layers_in_range =
        All-weaker (IsFitOn n) (λ (q : Piece). q.layer < length d.layers) (λ q h. let on : q.layer < n = h.on in
        omega arith) a.pieces pieces;
    net_in_range = net;
  };
}

-- ---- edges
record IsLoopFit (loop : List Point) : Type 0 where
  some : 0 < length loop
  within : All (IsWithin (2 ^ 29)) loop

loops_fit : (s : Spine) → IsWellFormed s → IsSpineWithin (2 ^ 29) s → All IsLoopFit (loops_of s)
loops_fit (Chain ps) w h = All-cons IsLoopFit ps [] (record { some = w; within = h }) (All-nil IsLoopFit)
loops_fit (Area loops) w h =
    λ k d l. record { some = let three : 3 ≤ length (get_or loops k d) = w.1 k d l in omega arith; within = h k d l }

closed_fit : (loop : List Point) → IsLoopFit loop → IsLoopFit (closed loop)
closed_fit [] h = absurd (omega (arith, h.some))
closed_fit (p ∷ ps) h =
    record {
      some = omega arith;
      within = All-push (IsWithin (2 ^ 29)) (p ∷ ps) p h.within (All-head (IsWithin (2 ^ 29)) p ps h.within);
    }

loop_on : (n width : ℕ) → width ≤ 2 ^ 28 → (loop : List Point) → IsLoopFit loop
    → All (IsFitOn n) (edge_pieces (below n) width loop)
loop_on n width few loop h =
    let c = closed_fit loop h in
    All-map (IsFitOn n) (λ layer. wire_piece layer width (closed loop)) (below n) (λ k d l. record {
      fit = record { well_formed = c.some; within = c.within; width_within = few };
      on = range_below 0 n n (omega arith) k d l;
    })

edge_sound : (d : Design) (n : ℕ) → length d.layers ≡ n → (s : LayerShape) → IsShapeFit s → IsFixedOf d (edge_item n s)
unfolding edge_item
edge_sound d n e s h = item_of_pieces d n (edge_item n s) e refl tt tt tt
    (all_made (IsFitOn n) IsLoopFit (edge_pieces (below n) s.width) (loop_on n s.width h.width_within)
    (loops_of s.spine) (loops_fit s.spine h.well_formed h.within))

-- ---- keepouts
ban_sound : (d : Design) (n : ℕ) → length d.layers ≡ n → (b : BanShape) → IsShapeFit b.shape
    → IsFixedOf d (ban_item n b)
unfolding ban_item
ban_sound d n e b h = item_of_pieces d n (ban_item n b) e refl tt tt tt (shape_on n b.shape h)

ban_on : (n : ℕ) (o : Option LayerShape) → ((s : LayerShape) → o ≡ Some s → IsShapeFit s)
    → All (IsFitOn n) (option_map_or (pieces_of n) o [])
ban_on n None h = All-nil (IsFitOn n)
ban_on n (Some s) h = shape_on n s (h s refl)

placed_ban_sound : (d : Design) (parts : Parts) → length d.layers ≡ layer_count parts → (p : Place) (b : BanShape)
    → IsShapeFit b.shape → IsFixedOf d (placed_ban parts p b)
unfolding placed_ban
placed_ban_sound d parts e p b h =
    let n = layer_count parts in
    let stand = stand_of parts.structure.flip_last p in
    item_of_pieces d n (placed_ban parts p b) e refl tt tt tt
    (ban_on n (ban_copper n stand b) (λ s f. ban_fit n stand b s h f))

bans_at : (stacks : ℕ) (o : Option Image) → IfSome o (IsImageSound stacks)
    → All (λ (b : BanShape). IsShapeFit b.shape) (option_map_or (λ (i : Image). i.bans) o [])
bans_at stacks None h = All-nil (λ (b : BanShape). IsShapeFit b.shape)
bans_at stacks (Some i) h = h.bans

placed_bans_sound : (d : Design) (parts : Parts) → length d.layers ≡ layer_count parts → IsLibrarySound parts.library
    → (p : Place) → All (λ (b : BanShape). IsFixedOf d (placed_ban parts p b)) (image_bans parts.library p)
placed_bans_sound d parts e lib p =
    let images = parts.library.images in
    let sound = IsImageSound (length parts.library.stacks) in
    All-weaker (λ (b : BanShape). IsShapeFit b.shape) (λ (b : BanShape). IsFixedOf d (placed_ban parts p b))
    (λ b h. placed_ban_sound d parts e p b h) (image_bans parts.library p)
    (bans_at (length parts.library.stacks) (slice_get images p.image) (All-at sound images p.image lib.images))

-- ---- pins
shapes_given : (o : Option (List LayerShape)) → ((ss : List LayerShape) → o ≡ Some ss → All IsShapeFit ss)
    → All IsShapeFit (unwrap_or o [])
shapes_given None h = All-nil IsShapeFit
shapes_given (Some ss) h = h ss refl

pad_on : (parts : Parts) → IsLibrarySound parts.library → (p : Place) (i : ImagePin)
    → All (IsFitOn (layer_count parts)) (pad_pieces parts p i)
unfolding pad_pieces
pad_on parts lib p i =
    let n = layer_count parts in
    let stand = stand_of parts.structure.flip_last p in
    let stacks = parts.library.stacks in
    let fit = stack_shapes_all IsShapeFit stacks i
    (All-weaker IsStackSound (λ (s : Stack). All IsShapeFit s.shapes) (λ s h. h.shapes_fit) stacks lib.stacks) in
    shapes_on n (unwrap_or (pin_copper n stand stacks i) [])
    (shapes_given (pin_copper n stand stacks i) (λ ss f. pin_fit n stand stacks i ss fit f))

pad_net : (d : Design) (nets : List ReadNet) (o : Option ℕ) → length d.nets ≡ length nets
    → IfSome o (λ n. n < length nets) → IfSome o (IsNetOf d)
pad_net d nets None e h = tt
pad_net d nets (Some n) e h = omega arith

pad_sound : (d : Design) (parts : Parts) (stacks : List Padstack) → length d.layers ≡ layer_count parts
    → length d.nets ≡ length parts.network.nets → IsLibrarySound parts.library
    → (place : ℕ) (p : Place) (pin number : ℕ) (i : ImagePin) → number < length d.pins
    → IsFixedOf d (pad_item parts stacks number (pin_ref place pin) p i)
unfolding pad_item
pad_sound d parts stacks e f lib place p pin number i h =
    let nets = parts.network.nets in
    let net = net_of_pin nets (pin_ref place pin) in
    item_of_pieces d (layer_count parts) (pad_item parts stacks number (pin_ref place pin) p i) e refl tt h
    (pad_net d nets net f (net_below nets (pin_ref place pin))) (pad_on parts lib p i)

-- ---- wiring
of_made : {X Y : Type 0} (P : Y → Type 0) (f : X → Y) (xs : List X) → All P (map f xs) → All (λ x. P (f x)) xs
of_made P f [] h = All-nil (λ x. P (f x))
of_made P f (x ∷ xs) h =
    All-cons (λ y. P (f y)) x xs (All-head P (f x) (map f xs) h) (of_made P f xs (All-tail P (f x) (map f xs) h))

moved_shape_on : (n : ℕ) (at : Point) (s : LayerShape) → IsShapeFit (at_place at s)
    → All (λ q. IsFitOn n (moved_piece at q)) (pieces_of n s)
unfolding pieces_of
moved_shape_on n at s h =
    All-map (λ q. IsFitOn n (moved_piece at q)) (piece_on s) (layers_below n s.layers) (λ k d l. record {
      fit = record { well_formed = h.well_formed; within = h.within; width_within = h.width_within };
      on = layers_in_range n s.layers k d l;
    })

moved_stack_on : (n : ℕ) (at : Point) (s : Stack) → IsStackSound s → IsStackNear at s
    → All (IsFitOn n) (map (moved_piece at) (stack_pieces n s))
unfolding stack_pieces
moved_stack_on n at s h near =
    All-map (IsFitOn n) (moved_piece at) (flat_map (pieces_of n) s.shapes)
    (all_made (λ q. IsFitOn n (moved_piece at q)) (λ (t : LayerShape). IsShapeFit (at_place at t)) (pieces_of n)
    (moved_shape_on n at) s.shapes
    (of_made IsShapeFit (at_place at) s.shapes (shapes_at_place at s h.shapes_fit near)))

-- the pieces of a via, and that its padstack is there
record IsViaOn (n v : ℕ) (at : Point) (stacks : List Padstack) : Type 0 where
  there : v < length stacks
  on : All (IsFitOn n) (map (moved_piece at) (pieces_in (slice_get stacks v)))

via_on : (n : ℕ) (at : Point) (us : List Bool) (ss : List Stack) (v : ℕ) → AreUsable n us ss → All IsStackSound ss
    → IsSomeAnd (slice_get ss v) (IsStackNear at) → IsViaOn n v at (padstacks_of n us ss)
unfolding padstacks_of
via_on n at [] [] v u a h = absurd h
via_on n at [] (s ∷ ss) v u a h = absurd u
via_on n at (b ∷ us) [] v u a h = absurd u
via_on n at (b ∷ us) (s ∷ ss) zero u a h =
    record { there = omega arith; on = moved_stack_on n at s (All-head IsStackSound s ss a) h }
via_on n at (b ∷ us) (s ∷ ss) (suc v) u a h = let w = via_on n at us ss v u.1 (All-tail IsStackSound s ss a) h in
    record { there = omega (arith, w.there); on = w.on }

via_at : (parts : Parts) (stacks : List Padstack) (v : ℕ) (at : Point) → ArePadstacksOf parts stacks
    → All IsStackSound parts.library.stacks → IsSomeAnd (slice_get parts.library.stacks v) (IsStackNear at)
    → IsViaOn (layer_count parts) v at stacks
via_at parts stacks v at own a h =
    subst (IsViaOn (layer_count parts) v at) (sym own.are)
    (via_on (layer_count parts) at (usables stacks) parts.library.stacks v own.usable a h)

pub copper_on : (parts : Parts) (stacks : List Padstack) (m : Metal) → ArePadstacksOf parts stacks
    → All IsStackSound parts.library.stacks → IsCopperSound parts.structure parts.library m
    → All (IsFitOn (layer_count parts)) (wiring_pieces stacks m)
copper_on parts stacks (Wire layer width chain) own a h =
    let few : width ≤ 2 ^ 28 = h.1 in
    let two : 2 ≤ length chain = h.2 in
    All-cons (IsFitOn (layer_count parts)) (wire_piece layer width chain) []
    (record { fit = record { well_formed = omega arith; within = h.3; width_within = few }; on = h.0 })
    (All-nil (IsFitOn (layer_count parts)))
copper_on parts stacks (Via v at) own a h = (via_at parts stacks v at own a h.1).on
copper_on parts stacks (Pad pin) own a h = absurd h
copper_on parts stacks (Ban wires vias) own a h = absurd h

pub copper_in_range : (d : Design) (parts : Parts) (m : Metal) → length d.layers ≡ layer_count parts
    → ArePadstacksOf parts d.padstacks → All IsStackSound parts.library.stacks
    → IsCopperSound parts.structure parts.library m → IsMetalInRange d m
copper_in_range d parts (Wire layer width chain) e own a h = let l : layer < layer_count parts = h.0 in omega arith
copper_in_range d parts (Via v at) e own a h = (via_at parts d.padstacks v at own a h.1).there
copper_in_range d parts (Pad pin) e own a h = absurd h
copper_in_range d parts (Ban wires vias) e own a h = absurd h

wire_sound : (d : Design) (parts : Parts) → length d.layers ≡ layer_count parts
    → length d.nets ≡ length parts.network.nets → ArePadstacksOf parts d.padstacks → IsLibrarySound parts.library
    → (w : ReadWire) → IsWireSound parts.structure parts.library parts.network w
    → IsFixedOf d (wiring_item d.padstacks w)
unfolding wiring_item
wire_sound d parts e f own lib w h =
    item_of_pieces d (layer_count parts) (wiring_item d.padstacks w) e refl
    (copper_fit parts.structure parts.library w.metal h.copper)
    (copper_in_range d parts w.metal e own lib.stacks h.copper)
    (pad_net d parts.network.nets w.net f h.net_in_range) (copper_on parts d.padstacks w.metal own lib.stacks h.copper)

-- ---- the whole
-- how many parts the design has
pub layers_are : (parts : Parts) (stacks : List Padstack) → length (design_from parts stacks).layers ≡ layer_count parts
unfolding design_with
layers_are parts stacks = length-map parts.structure.layers board_layer

pub nets_are : (parts : Parts) (stacks : List Padstack) → length (design_from parts stacks).nets
    ≡ length parts.network.nets
unfolding design_with
nets_are parts stacks = length-map parts.network.nets _

numbered_sound : (d : Design) (i : ℕ) (a b : Item) → with_id i b ≡ a → IsFixedOf d b → IsFixedSound d i a
numbered_sound d i a b e h = subst (IsFixedSound d i) e (record {
  numbered = refl;
  fixed = h.fixed;
  item = record {
    fits = record { pieces_fit = h.item.fits.pieces_fit };
    metal_fits = h.item.metal_fits;
    metal_in_range = h.item.metal_in_range;
    layers_in_range = h.item.layers_in_range;
    net_in_range = h.item.net_in_range;
  };
})

all_sound : (parts : Parts) (stacks : List Padstack) → ArePadstacksOf parts stacks → IsStructureSound parts.structure
    → IsLibrarySound parts.library → IsWiringSound parts.structure parts.library parts.network parts.wiring
    → All (IsFixedOf (design_from parts stacks)) (unnumbered parts stacks)
unfolding design_with
all_sound parts stacks own st lib wires =
    let d = design_from parts stacks in
    let e = layers_are parts stacks in
    let f = nets_are parts stacks in
    fixed_all (IsFixedOf d) parts stacks
    (All-weaker IsBoundShape (λ (s : LayerShape). IsFixedOf d (edge_item (layer_count parts) s))
    (λ s h. edge_sound d (layer_count parts) e s h.fits) parts.structure.bounds st.bounds_fit)
    (All-weaker (λ (b : BanShape). IsShapeFit b.shape) (λ (b : BanShape). IsFixedOf d (ban_item (layer_count parts) b))
    (λ b h. ban_sound d (layer_count parts) e b h) parts.structure.bans st.bans_fit)
    (record {
      bans = placed_bans_sound d parts e lib;
      pads = pad_sound d parts stacks e f lib;
    })
    (All-weaker (IsWireSound parts.structure parts.library parts.network)
    (λ (w : ReadWire). IsFixedOf d (wiring_item stacks w)) (λ w h. wire_sound d parts e f own lib w h)
    parts.wiring.wires wires.wires)

-- they are those of the parts, numbered
pub fixed_are : (parts : Parts) (stacks : List Padstack) → (design_from parts stacks).fixed
    ≡ numbered_from 0 (unnumbered parts stacks)
unfolding design_with
fixed_are parts stacks = items_numbered parts stacks

-- fixed item i is item i, and fits the design
pub fixed_sound : (parts : Parts) (stacks : List Padstack) → ArePadstacksOf parts stacks
    → IsStructureSound parts.structure → IsLibrarySound parts.library
    → IsWiringSound parts.structure parts.library parts.network parts.wiring → (i : ℕ) (a : Item)
    → slice_get (design_from parts stacks).fixed i ≡ Some a → IsFixedSound (design_from parts stacks) i a
fixed_sound parts stacks own st lib wires i a e =
    let w = item_at 0 (unnumbered parts stacks) i a
    (ap (λ items. slice_get items i) (sym (fixed_are parts stacks)) ∙ e) in
    let n : 0 + i ≡ i = omega arith in
    numbered_sound (design_from parts stacks) i a w.from (ap (λ k. with_id k w.from) (sym n) ∙ w.is)
    (got (IsFixedOf (design_from parts stacks)) (unnumbered parts stacks) i w.from
    (all_sound parts stacks own st lib wires) (sym w.there))
