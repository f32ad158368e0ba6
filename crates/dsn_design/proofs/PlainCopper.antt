-- The copper of sound sections is plain: each piece of a padstack, and of a fixed item with a net, is a chain or an
-- area of one loop.
use Rattle.std.proofs.Common.{◌≡◌, ◌+◌, sym, subst, ℕ, List, [], ◌∷◌, Option, Some, None, get_or, map, refl}
use Rattle.std.specs.Prelude.{All, IfSome, slice_get, unwrap_or}
use Rattle.std.specs.List.{flat_map}
use Rattle.std.proofs.lemmas.List.Elements.{All-cons, All-head, All-map, All-nil, All-tail, All-weaker}
use Rattle.geo_kernel.specs.declared.point.Point.{Point}
use Rattle.geo_kernel.specs.declared.spine.Spine.{Spine}
use Rattle.geo_kernel.specs.declared.spine.Spine.TheVariants.{Chain, Area}
use Rattle.geo_kernel.specs.Moved.{moved_spine}
use Rattle.geo_kernel.specs.Solid.{IsSimple}
use Rattle.pcb_model.specs.declared.item.Item.{Item}
use Rattle.pcb_model.specs.declared.item.Metal.{Metal}
use Rattle.pcb_model.specs.declared.item.Metal.TheVariants.{Wire, Via, Pad, Ban}
use Rattle.pcb_model.specs.declared.design.Design.{Design}
use Rattle.pcb_model.specs.declared.design.Padstack.{Padstack}
use Rattle.pcb_model.specs.Plain.{IsPlain, IsPlainCopper, IsPlainItem}
use Rattle.pcb_model.specs.Pieces.{moved_piece, pieces_in, wire_piece}
use Rattle.pcb_model.proofs.Within.{All-at}
use Rattle.dsn_shapes.specs.declared.parts.BanShape.{BanShape}
use Rattle.dsn_shapes.specs.declared.parts.ImagePin.{ImagePin}
use Rattle.dsn_shapes.specs.declared.parts.LayerShape.{LayerShape}
use Rattle.dsn_shapes.specs.declared.parts.Place.{Place}
use Rattle.dsn_shapes.specs.declared.parts.ReadWire.{ReadWire}
use Rattle.dsn_shapes.specs.declared.parts.Stack.{Stack}
use Rattle.dsn_shapes.specs.Fits.{IsPlainShape}
use Rattle.dsn_library.specs.Sound.{IsLibrarySound, IsStackSound}
use Rattle.dsn_placement.specs.Copper.{pin_copper, stand_of}
use Rattle.dsn_placement.proofs.Fits.{pin_plain, stack_shapes_all}
use Rattle.dsn_wiring.specs.Layers.{layers_below}
use Rattle.dsn_design.specs.declared.parts.Parts.{Parts}
use Rattle.dsn_design.specs.Copper.{piece_on, pieces_of, stack_pieces}
use Rattle.dsn_design.specs.Items.{ban_item, edge_item, numbered_from, pad_item, pad_pieces, placed_ban, wiring_item}
use Rattle.dsn_design.specs.Items.{wiring_pieces, with_id}
use Rattle.dsn_design.specs.Made.{ArePadstacksOf, IsDesignOf, design_from, design_with}
use Rattle.dsn_design.specs.Pins.{image_bans, layer_count, pin_ref}
use Rattle.dsn_design.specs.Usable.{usables}
use Rattle.dsn_design.proofs.Padstacks.{each_padstack}
use Rattle.dsn_design.proofs.FixedItems.{all_made, fixed_all, unnumbered}
use Rattle.dsn_design.proofs.FixedSound.{fixed_are}

-- ---- padstacks
shape_plain : (n : ℕ) (s : LayerShape) → IsPlainShape s → All IsPlain (pieces_of n s)
unfolding pieces_of
shape_plain n s h = All-map IsPlain (piece_on s) (layers_below n s.layers) (λ k d l. h)

shapes_plain : (n : ℕ) (ss : List LayerShape) → All IsPlainShape ss → All IsPlain (flat_map (pieces_of n) ss)
shapes_plain n ss h = all_made IsPlain IsPlainShape (pieces_of n) (λ s k. shape_plain n s k) ss h

stack_plain : (n : ℕ) (s : Stack) → IsStackSound s → All IsPlain (stack_pieces n s)
unfolding stack_pieces
stack_plain n s h = shapes_plain n s.shapes h.shapes_plain

stacks_plain : (parts : Parts) (stacks : List Padstack) → ArePadstacksOf parts stacks → IsLibrarySound parts.library
    → All (λ (s : Padstack). All IsPlain s.pieces) stacks
stacks_plain parts stacks own lib =
    let n = layer_count parts in
    subst (All (λ (s : Padstack). All IsPlain s.pieces)) (sym own.are)
    (each_padstack IsStackSound (λ (s : Padstack). All IsPlain s.pieces) n (λ b s h. stack_plain n s h) (usables stacks)
    parts.library.stacks lib.stacks)

-- the design's padstacks are plain
pub padstacks_plain : (parts : Parts) (stacks : List Padstack) → ArePadstacksOf parts stacks
    → IsLibrarySound parts.library → All (λ (s : Padstack). All IsPlain s.pieces) (design_from parts stacks).padstacks
unfolding design_with
padstacks_plain parts stacks own lib = stacks_plain parts stacks own lib

-- ---- items
edge_plain : (n : ℕ) (s : LayerShape) → IsPlainItem (edge_item n s)
unfolding edge_item
edge_plain n s = record { plain = λ net e. absurd (cc) }

ban_plain : (n : ℕ) (b : BanShape) → IsPlainItem (ban_item n b)
unfolding ban_item
ban_plain n b = record { plain = λ net e. absurd (cc) }

placed_ban_plain : (parts : Parts) (p : Place) (b : BanShape) → IsPlainItem (placed_ban parts p b)
unfolding placed_ban
placed_ban_plain parts p b = record { plain = λ net e. absurd (cc) }

plain_given : (o : Option (List LayerShape)) → ((ss : List LayerShape) → o ≡ Some ss → All IsPlainShape ss)
    → All IsPlainShape (unwrap_or o [])
plain_given None h = All-nil IsPlainShape
plain_given (Some ss) h = h ss refl

pieces_plain : (parts : Parts) → IsLibrarySound parts.library → (p : Place) (i : ImagePin)
    → All IsPlain (pad_pieces parts p i)
unfolding pad_pieces
pieces_plain parts lib p i =
    let n = layer_count parts in
    let stand = stand_of parts.structure.flip_last p in
    let stacks = parts.library.stacks in
    let plain = stack_shapes_all IsPlainShape stacks i
    (All-weaker IsStackSound (λ (s : Stack). All IsPlainShape s.shapes) (λ s h. h.shapes_plain) stacks
    lib.stacks) in
    shapes_plain n (unwrap_or (pin_copper n stand stacks i) [])
    (plain_given (pin_copper n stand stacks i) (λ ss f. pin_plain n stand stacks i ss plain f))

pad_plain : (parts : Parts) (stacks : List Padstack) → IsLibrarySound parts.library
    → (place : ℕ) (p : Place) (pin number : ℕ) (i : ImagePin)
    → IsPlainItem (pad_item parts stacks number (pin_ref place pin) p i)
unfolding pad_item
pad_plain parts stacks lib place p pin number i = record { plain = λ net e. pieces_plain parts lib p i }

moved_plain : (at : Point) (s : Spine) → IsSimple s → IsSimple (moved_spine at s)
moved_plain at (Chain ps) h = tt
moved_plain at (Area []) h = absurd h
moved_plain at (Area (loop ∷ [])) h = tt
moved_plain at (Area (loop ∷ more ∷ loops)) h = absurd h

via_plain : (at : Point) (o : Option Padstack) → IfSome o (λ (s : Padstack). All IsPlain s.pieces)
    → All IsPlain (map (moved_piece at) (pieces_in o))
via_plain at None h = All-nil IsPlain
via_plain at (Some s) h =
    All-map IsPlain (moved_piece at) s.pieces
    (All-weaker IsPlain (λ q. IsPlain (moved_piece at q)) (λ q k. moved_plain at q.spine k) s.pieces h)

copper_plain : (stacks : List Padstack) (m : Metal) → All (λ (s : Padstack). All IsPlain s.pieces) stacks
    → All IsPlain (wiring_pieces stacks m)
copper_plain stacks (Wire layer width chain) h = All-cons IsPlain (wire_piece layer width chain) [] tt (All-nil IsPlain)
copper_plain stacks (Via v at) h =
    via_plain at (slice_get stacks v) (All-at (λ (s : Padstack). All IsPlain s.pieces) stacks v h)
copper_plain stacks (Pad pin) h = All-nil IsPlain
copper_plain stacks (Ban wires vias) h = All-nil IsPlain

wire_plain : (stacks : List Padstack) → All (λ (s : Padstack). All IsPlain s.pieces) stacks → (w : ReadWire)
    → IsPlainItem (wiring_item stacks w)
unfolding wiring_item
wire_plain stacks h w = record { plain = λ net e. copper_plain stacks w.metal h }

all_plain : (parts : Parts) (stacks : List Padstack) → ArePadstacksOf parts stacks → IsLibrarySound parts.library
    → All IsPlainItem (unnumbered parts stacks)
all_plain parts stacks own lib =
    let n = layer_count parts in
    let plain = stacks_plain parts stacks own lib in
    fixed_all IsPlainItem parts stacks
    (λ k d l. edge_plain n (get_or parts.structure.bounds k d))
    (λ k d l. ban_plain n (get_or parts.structure.bans k d))
    (record {
      bans = λ p k d l. placed_ban_plain parts p (get_or (image_bans parts.library p) k d);
      pads = λ place p pin number i h. pad_plain parts stacks lib place p pin number i;
    })
    (λ k d l. wire_plain stacks plain (get_or parts.wiring.wires k d))

numbered_plain : (id : ℕ) (items : List Item) → All IsPlainItem items → All IsPlainItem (numbered_from id items)
numbered_plain id [] h = All-nil IsPlainItem
numbered_plain id (a ∷ items) h =
    All-cons IsPlainItem (with_id id a) (numbered_from (id + 1) items)
    (record { plain = (All-head IsPlainItem a items h).plain })
    (numbered_plain (id + 1) items (All-tail IsPlainItem a items h))

-- the pieces of a fixed item that has a net are plain
pub fixed_plain : (parts : Parts) (stacks : List Padstack) → ArePadstacksOf parts stacks → IsLibrarySound parts.library
    → All IsPlainItem (design_from parts stacks).fixed
fixed_plain parts stacks own lib =
    subst (All IsPlainItem) (sym (fixed_are parts stacks))
    (numbered_plain 0 (unnumbered parts stacks) (all_plain parts stacks own lib))

-- a design of a sound library has plain copper
pub design_plain : (parts : Parts) (d : Design) → IsLibrarySound parts.library → IsDesignOf parts d → IsPlainCopper d
design_plain parts d lib h = subst IsPlainCopper (sym h.design) (record {
  padstacks = padstacks_plain parts d.padstacks h.padstacks lib;
  fixed = fixed_plain parts d.padstacks h.padstacks lib;
})
