-- Sound designs, and the items that fit one.
use Rattle.std.specs.Prelude.{◌≡◌, ◌≢◌, ◌↔◌, ℕ, ◌≤◌, ◌<◌, ◌^◌, pos, true, List, [], ◌∷◌, length, filter, All, AllPairs}
use Rattle.std.specs.Prelude.{Any, Contains, IfSome, Some, slice_get}
use Rattle.std.specs.Option.{IsSomeAnd}
use Rattle.geo_kernel.specs.declared.point.Point.{Point}
use Rattle.geo_kernel.specs.declared.spine.Spine.TheVariants.{Chain}
use Rattle.geo_kernel.specs.Plane.{IsWithin}
use Rattle.geo_kernel.specs.Spine.{SpinesTouch}
use Rattle.pcb_model.specs.declared.item.Piece.{Piece}
use Rattle.pcb_model.specs.declared.item.Item.{Item}
use Rattle.pcb_model.specs.declared.item.Metal.{Metal}
use Rattle.pcb_model.specs.declared.item.Metal.TheVariants.{Wire, Via, Pad, Ban}
use Rattle.pcb_model.specs.declared.design.BoardLayer.{BoardLayer}
use Rattle.pcb_model.specs.declared.design.Padstack.{Padstack}
use Rattle.pcb_model.specs.declared.design.Component.{Component}
use Rattle.pcb_model.specs.declared.design.Pin.{Pin}
use Rattle.pcb_model.specs.declared.design.Net.{Net}
use Rattle.pcb_model.specs.declared.design.RuleSet.{RuleSet}
use Rattle.pcb_model.specs.declared.design.ClassPair.{ClassPair}
use Rattle.pcb_model.specs.declared.design.FreeWire.{FreeWire}
use Rattle.pcb_model.specs.declared.design.Design.{Design}
use Rattle.pcb_model.specs.Pieces.{pieces_of}
use Rattle.pcb_model.specs.Bounds.{IsFit, IsItemFit, IsMetalFit, IsDesignFit}
use Rattle.pcb_model.specs.Board.{is_fixed}
use Rattle.pcb_model.specs.declared.limits.TheConstants.{MOST_LAYERS, MOST_PER}

-- ---- indices
abbrev pub IsMetalInRange : Design → Metal → Type 0
IsMetalInRange d (Wire layer width chain) = layer < length d.layers
IsMetalInRange d (Via padstack at) = padstack < length d.padstacks
IsMetalInRange d (Pad pin) = pin < length d.pins
IsMetalInRange d (Ban wires vias) = Unit {0}

abbrev pub IsLayerOf : Design → Piece → Type 0
IsLayerOf d p = p.layer < length d.layers

abbrev pub IsNetOf : Design → ℕ → Type 0
IsNetOf d net = net < length d.nets

-- an item's numbers are within the bounds, and its indices are in range for the design
pub record IsItemOf (d : Design) (a : Item) : Type 0 where
  pub fits : IsItemFit a
  pub metal_fits : IsMetalFit a.metal
  pub metal_in_range : IsMetalInRange d a.metal
  pub layers_in_range : All (IsLayerOf d) a.pieces
  pub net_in_range : IfSome a.net (IsNetOf d)

-- ---- padstacks
-- the point lies in the piece's copper
abbrev pub Covers : Point → Piece → Type 0
Covers at p = SpinesTouch (Chain (at ∷ [])) p.spine p.width

abbrev pub origin : Point
origin = record { x = pos 0; y = pos 0 }

-- copper on at least two layers, and at the origin on each layer that has copper
pub record IsUsable (ps : List Piece) : Type 0 where
  pub two_layers : Any (λ (p : Piece). Any (λ (r : Piece). p.layer ≢ r.layer) ps) ps
  pub covered : All (λ (p : Piece). Any (λ (r : Piece). (r.layer ≡ p.layer) × Covers origin r) ps) ps

-- ---- pins and nets
-- just one fixed item is the pad of pin i, and it has the pin's net
pub record HasOnePad (d : Design) (i : ℕ) (p : Pin) : Type 0 where
  pub pad : Item
  pub there : Contains d.fixed pad
  pub is_pad : pad.metal ≡ Pad i
  pub net_is : pad.net ≡ p.net
  pub only : (b : Item) → Contains d.fixed b → b.metal ≡ Pad i → b.id ≡ pad.id

-- the pins of net n, each once
pub record ArePinsOf (d : Design) (n : ℕ) (pins : List ℕ) : Type 0 where
  pub once : AllPairs (λ (i j : ℕ). i ≢ j) pins
  pub exact : (i : ℕ) → Contains pins i ↔ IsSomeAnd (slice_get d.pins i) (λ (p : Pin). p.net ≡ Some n)

-- a net's indices are in range, its vias are few and usable
pub record IsNetSound (d : Design) (n : Net) : Type 0 where
  pub class_in_range : IfSome n.class (λ c. c < length d.classes)
  pub few_vias : length n.vias ≤ 2 ^ 26
  pub vias_usable : All (λ v. IsSomeAnd (slice_get d.padstacks v) (λ (s : Padstack). IsUsable s.pieces)) n.vias
  pub width_within : IfSome n.rules.width (λ w. w ≤ 2 ^ 28)

-- a class pair's classes are in range
pub record IsPairSound (d : Design) (p : ClassPair) : Type 0 where
  pub a_in_range : p.a < length d.classes
  pub b_in_range : p.b < length d.classes

pub record IsPinSound (d : Design) (p : Pin) : Type 0 where
  pub within : IsWithin (2 ^ 29) p.centre
  pub component_in_range : p.component < length d.components
  pub net_in_range : IfSome p.net (IsNetOf d)

pub record IsComponentSound (c : Component) : Type 0 where
  pub within : IsWithin (2 ^ 29) c.at
  pub angle : c.microdegrees < 360000000

-- ---- wiring
abbrev pub IsCopper : Metal → Type 0
IsCopper (Wire layer width chain) = Unit {0}
IsCopper (Via padstack at) = Unit {0}
IsCopper (Pad pin) = ⊥
IsCopper (Ban wires vias) = ⊥

-- a free wire or via
pub record IsFreeSound (d : Design) (f : FreeWire) : Type 0 where
  pub copper : IsCopper f.metal
  pub fits : IsMetalFit f.metal
  pub in_range : IsMetalInRange d f.metal
  pub pieces_fit : All IsFit (pieces_of d f.metal)
  pub net_in_range : IsNetOf d f.net

-- fixed item i
pub record IsFixedSound (d : Design) (i : ℕ) (a : Item) : Type 0 where
  pub numbered : a.id ≡ i
  pub fixed : a.fixed ≡ true
  pub item : IsItemOf d a

-- ---- names
-- no byte is the quotation mark
abbrev pub IsPrintable : List ℕ → Type 0
IsPrintable name = All (λ b. b ≢ 34) name

-- names differ among their kind
pub record HasDistinctNames (d : Design) : Type 0 where
  pub layers : AllPairs (λ (a b : BoardLayer). a.name ≢ b.name) d.layers
  pub padstacks : AllPairs (λ (a b : Padstack). a.name ≢ b.name) d.padstacks
  pub components : AllPairs (λ (a b : Component). a.name ≢ b.name) d.components
  pub nets : AllPairs (λ (a b : Net). a.name ≢ b.name) d.nets

-- a session can print them
pub record HasPrintableNames (d : Design) : Type 0 where
  pub design : IsPrintable d.name
  pub host_cad : IfSome d.host_cad IsPrintable
  pub host_version : IfSome d.host_version IsPrintable
  pub layers : All (λ (a : BoardLayer). IsPrintable a.name) d.layers
  pub padstacks : All (λ (a : Padstack). IsPrintable a.name) d.padstacks
  pub components : All (λ (a : Component). IsPrintable a.name × IsPrintable a.image) d.components
  pub nets : All (λ (a : Net). IsPrintable a.name) d.nets

-- ---- the whole design
-- how many parts it has
pub record HasFewParts (d : Design) : Type 0 where
  pub some_layers : 1 ≤ length d.layers
  pub few_layers : length d.layers ≤ MOST_LAYERS
  pub some_bounds : 1 ≤ length d.bounds
  pub few_padstacks : length d.padstacks ≤ 2 ^ 26
  pub few_components : length d.components ≤ 2 ^ 26
  pub few_pins : length d.pins ≤ 2 ^ 26
  pub few_nets : length d.nets ≤ 2 ^ 26
  pub few_classes : length d.classes ≤ 2 ^ 26

pub record IsSound (d : Design) : Type 0 where
  pub parts : HasFewParts d
  pub fits : IsDesignFit d
  pub some_per : 1 ≤ d.per
  pub few_per : d.per ≤ MOST_PER
  pub width_within : IfSome d.rules.width (λ w. w ≤ 2 ^ 28)
  pub class_widths_within : All (λ (rs : RuleSet). IfSome rs.width (λ w. w ≤ 2 ^ 28)) d.classes
  pub pairs : All (IsPairSound d) d.pairs
  pub padstack_layers : All (λ (s : Padstack). All (IsLayerOf d) s.pieces) d.padstacks
  pub components : All IsComponentSound d.components
  pub pins : All (IsPinSound d) d.pins
  pub nets : All (IsNetSound d) d.nets
  pub net_pins : (n : ℕ) (net : Net) → slice_get d.nets n ≡ Some net → ArePinsOf d n net.pins
  pub pads : (i : ℕ) (p : Pin) → slice_get d.pins i ≡ Some p → HasOnePad d i p
  pub fixed : (i : ℕ) (a : Item) → slice_get d.fixed i ≡ Some a → IsFixedSound d i a
  pub free : All (IsFreeSound d) d.free
  pub distinct_names : HasDistinctNames d
  pub printable_names : HasPrintableNames d

-- copper serves a design where its list holds the design's fixed items, in order, and all its items fit the design
pub record Serves (items : List Item) (d : Design) : Type 0 where
  pub design_fits : IsDesignFit d
  pub fixed_there : filter is_fixed items ≡ d.fixed
  pub items_fit : All (IsItemOf d) items
