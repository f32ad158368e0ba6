-- Sound networks: nets whose names and pins differ, classes whose vias have their padstacks, and pairs of classes
-- that are there.
use Rattle.std.specs.Prelude.{◌≡◌, ◌≢◌, ◌<◌, ◌≤◌, ◌^◌, ℕ, true, All, AllPairs, Contains, IfSome, is_some, length}
use Rattle.std.specs.Prelude.{slice_get}
use Rattle.std.specs.Option.{IsSomeAnd}
use Rattle.pcb_model.specs.Sound.{IsPrintable}
use Rattle.pcb_model.specs.declared.design.ClassPair.{ClassPair}
use Rattle.dsn_shapes.specs.declared.parts.Image.{Image}
use Rattle.dsn_shapes.specs.declared.parts.Library.{Library}
use Rattle.dsn_shapes.specs.declared.parts.Network.{Network}
use Rattle.dsn_shapes.specs.declared.parts.PinRef.{PinRef}
use Rattle.dsn_shapes.specs.declared.parts.Place.{Place}
use Rattle.dsn_shapes.specs.declared.parts.Placing.{Placing}
use Rattle.dsn_shapes.specs.declared.parts.ReadClass.{ReadClass}
use Rattle.dsn_shapes.specs.declared.parts.ReadNet.{ReadNet}
use Rattle.dsn_shapes.specs.Fits.{IsRuleSetFit}
use Rattle.pcb_model.specs.declared.limits.TheConstants.{MOST_NETS}

-- each component's place among all is an index of 32 bits
pub record HasFewPlaces (placing : Placing) : Type 0 where
  pub places : length placing.places ≤ 2 ^ 32

-- the pin is one of the component's image
abbrev pub IsImagePin : Library → PinRef → Place → Type 0
IsImagePin lib r p = IsSomeAnd (slice_get lib.images p.image) (λ (i : Image). r.pin < length i.pins)

-- and the component is placed
abbrev pub IsPlacedPin : Library → Placing → PinRef → Type 0
IsPlacedPin lib placing r =
    IsSomeAnd (slice_get placing.places r.place) (λ (p : Place). (is_some p.at ≡ true) × IsImagePin lib r p)

-- a net's name can be printed, its pins are of placed components and differ, and its class is one of so many
pub record IsReadNetSound (lib : Library) (placing : Placing) (classes : ℕ) (n : ReadNet) : Type 0 where
  pub name : IsPrintable n.name
  pub pins : All (IsPlacedPin lib placing) n.pins
  pub once : AllPairs (λ (a b : PinRef). a ≢ b) n.pins
  pub class : IfSome n.class (λ c. c < classes)
  pub rules : IsRuleSetFit n.rules

-- a class's vias are of so many padstacks
pub record IsReadClassSound (stacks : ℕ) (c : ReadClass) : Type 0 where
  pub vias : IfSome c.vias (λ vs. All (λ v. v < stacks) vs)
  pub rules : IsRuleSetFit c.rules

-- a class pair's classes are two of so many
pub record IsReadPairSound (classes : ℕ) (p : ClassPair) : Type 0 where
  pub a_in_range : p.a < classes
  pub b_in_range : p.b < classes
  pub rules : IsRuleSetFit p.rules

-- the names of nets differ, and no two nets have one pin
pub record IsNetworkSound (lib : Library) (placing : Placing) (network : Network) : Type 0 where
  pub nets : All (IsReadNetSound lib placing (length network.classes)) network.nets
  pub names : AllPairs (λ (a b : ReadNet). a.name ≢ b.name) network.nets
  pub few : length network.nets ≤ MOST_NETS
  pub apart : AllPairs (λ (a b : ReadNet). (r : PinRef) → Contains a.pins r → Contains b.pins r → ⊥) network.nets
  pub classes : All (IsReadClassSound (length lib.stacks)) network.classes
  pub pairs : All (IsReadPairSound (length network.classes)) network.pairs
