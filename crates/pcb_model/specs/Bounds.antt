-- How large the numbers of a design and of its items may be.
use Rattle.std.specs.Prelude.{◌≡◌, ℕ, ◌≤◌, ◌<◌, ◌^◌, List, Option, Some, length, All, IfSome}
use Rattle.geo_kernel.specs.declared.point.Point.{Point}
use Rattle.geo_kernel.specs.Plane.{IsWithin}
use Rattle.geo_kernel.specs.Spine.{IsWellFormed, IsSpineWithin}
use Rattle.pcb_model.specs.declared.item.Piece.{Piece}
use Rattle.pcb_model.specs.declared.item.Item.{Item}
use Rattle.pcb_model.specs.declared.item.Probe.{Probe}
use Rattle.pcb_model.specs.declared.item.Metal.{Metal}
use Rattle.pcb_model.specs.declared.item.Metal.TheVariants.{Wire, Via, Pad, Ban}
use Rattle.pcb_model.specs.declared.design.Padstack.{Padstack}
use Rattle.pcb_model.specs.declared.design.Typed.{Typed}
use Rattle.pcb_model.specs.declared.design.RuleSet.{RuleSet}
use Rattle.pcb_model.specs.declared.design.ClassPair.{ClassPair}
use Rattle.pcb_model.specs.declared.design.Net.{Net}
use Rattle.pcb_model.specs.declared.design.Design.{Design}
use Rattle.pcb_model.specs.declared.item.Kind.{Kind}
use Rattle.pcb_model.specs.Pieces.{pieces_of, metal_of}
use Rattle.pcb_model.specs.Rules.{value_of, value_to, clearance_of, class_of, pair_value}

-- no clearance of the rules is above m
pub record AreRulesWithin (m : ℕ) (rs : RuleSet) : Type 0 where
  pub plain_within : IfSome rs.plain (λ c. c ≤ m)
  pub typed_within : All (λ (t : Typed). t.value ≤ m) rs.typed

-- no clearance of the design is above m
pub record HasRulesWithin (m : ℕ) (d : Design) : Type 0 where
  pub structure : AreRulesWithin m d.rules
  pub classes_within : All (AreRulesWithin m) d.classes
  pub nets_within : All (λ (n : Net). AreRulesWithin m n.rules) d.nets
  pub pairs_within : All (λ (p : ClassPair). AreRulesWithin m p.rules) d.pairs

-- no clearance between two nets is above m
pub record HasClearancesWithin (m : ℕ) (d : Design) : Type 0 where
  pub each : (a b : Option ℕ) (ka kb : Kind) → clearance_of d a ka b kb ≤ m

-- some net, or none, has the value towards some net, or none, for some pair of kinds
pub record IsValue (d : Design) (m : ℕ) : Type 0 where
  pub net : Option ℕ
  pub to : Option ℕ
  pub one : Kind
  pub other : Kind
  pub is : value_to d net to one other ≡ m

-- no value of the net is above m
pub record AreValuesWithin (d : Design) (net : Option ℕ) (m : ℕ) : Type 0 where
  pub each : (one other : Kind) → value_of d net one other ≤ m

-- where some nets are of the pair's two classes, no value that the class pairs give them is above m
pub record IsPairWithin (d : Design) (m : ℕ) (p : ClassPair) : Type 0 where
  pub each : (a b : ℕ) → class_of d (Some a) ≡ Some p.a → class_of d (Some b) ≡ Some p.b → (one other : Kind)
      → pair_value d p one other ≤ m

-- no clearance between two nets is above m, and there is one of m
pub record IsGreatestClearance (d : Design) (m : ℕ) : Type 0 where
  pub within : HasClearancesWithin m d
  pub reached : (a b : Option ℕ) × (ka : Kind) × (kb : Kind) × (clearance_of d a ka b kb ≡ m)

-- a well formed piece with coordinates up to 2^29 and a width up to 2^28
pub record IsFit (p : Piece) : Type 0 where
  pub well_formed : IsWellFormed p.spine
  pub within : IsSpineWithin (2 ^ 29) p.spine
  pub width_within : p.width ≤ 2 ^ 28

-- a boundary's loops
pub record IsBoundFit (loops : List (List Point)) : Type 0 where
  pub some : 0 < length loops
  pub loops_close : All (λ points. 3 ≤ length points) loops
  pub loops_within : All (All (IsWithin (2 ^ 29))) loops

pub record IsDesignFit (d : Design) : Type 0 where
  pub rules_within : HasRulesWithin (2 ^ 28) d
  pub bounds_fit : All IsBoundFit d.bounds
  pub padstacks_fit : All (λ (s : Padstack). All IsFit s.pieces) d.padstacks

pub record IsItemFit (a : Item) : Type 0 where
  pub pieces_fit : All IsFit a.pieces

-- the pieces of what a probe stands for
pub record IsProbeFit (d : Design) (p : Probe) : Type 0 where
  pub pieces_fit : All IsFit (pieces_of d (metal_of p))

-- a wire's chain and width, or a via's place
abbrev pub IsMetalFit : Metal → Type 0
IsMetalFit (Wire layer width chain) = (0 < length chain) × All (IsWithin (2 ^ 29)) chain × (width ≤ 2 ^ 28)
IsMetalFit (Via padstack at) = IsWithin (2 ^ 29) at
IsMetalFit (Pad pin) = Unit {0}
IsMetalFit (Ban wires vias) = Unit {0}
