-- Ribs: the wires that stand for planes.
use Rattle.std.specs.Prelude.{◌≡◌, ℕ, ◌≤◌, ◌<◌, ◌⊎◌, max, true, List, [], ◌∷◌, ◌++◌, length, Contains, Some, Result, Ok}
use Rattle.std.specs.Prelude.{Err}
use Rattle.geo_kernel.specs.declared.spine.Spine.TheVariants.{Chain}
use Rattle.geo_kernel.specs.Spine.{IsInside, SpinesKeep, closed}
use Rattle.pcb_model.specs.declared.item.Item.{Item}
use Rattle.pcb_model.specs.declared.item.Probe.{Probe}
use Rattle.pcb_model.specs.declared.item.Probe.TheVariants as probe
use Rattle.pcb_model.specs.declared.design.Design.{Design}
use Rattle.pcb_model.specs.declared.limits.TheConstants.{MOST_ITEMS}
use Rattle.pcb_model.specs.Pairs.{ProbeAgrees}
use Rattle.pcb_model.specs.Pieces.{item_of, metal_of}
use Rattle.pcb_model.specs.Rules.{width_for}
use Rattle.plane_joins.specs.declared.area.PlaneArea.{PlaneArea}
use Rattle.plane_joins.specs.declared.candidate.Candidate.{Candidate}
use Rattle.plane_joins.specs.declared.fault.RibFault.{RibFault}
use Rattle.plane_joins.specs.declared.fault.RibFault.TheVariants.{TooMany, Memory}
use Rattle.plane_joins.specs.Planes.{candidates, load_of}

-- the wire of a candidate: it has its net's width
abbrev pub rib_probe : Design → PlaneArea → Candidate → Probe
rib_probe d p c = probe.Step p.layer (width_for d p.net) c.from c.to

abbrev pub rib_item : Design → PlaneArea → ℕ → Candidate → Item
rib_item d p id c = item_of d id (Some p.net) true (metal_of (rib_probe d p c))

-- a candidate begins inside the rim, keeps its width from the rim's edge, and agrees with all items so far
pub record IsRib (d : Design) (p : PlaneArea) (items : List Item) (c : Candidate) : Type 0 where
  pub begins : IsInside c.from (p.rim ∷ [])
  pub keeps : SpinesKeep (Chain (c.from ∷ c.to ∷ [])) (Chain (closed p.rim)) (max 1 (width_for d p.net))
  pub agrees : (b : Item) → Contains items b → ProbeAgrees d p.net (rib_probe d p c) b

-- candidates one after another, behind some items: each rib is one more item, whose id is its place
abbrev pub TakesRibs : Design → PlaneArea → List Item → List Candidate → List Item → Type 0
TakesRibs d p items [] after = after ≡ items
TakesRibs d p items (c ∷ cs) after =
    (IsRib d p items c × TakesRibs d p (items ++ rib_item d p (length items) c ∷ []) cs after)
    ⊎ (¬ (IsRib d p items c) × TakesRibs d p items cs after)

-- planes one after another
abbrev pub TakesPlanes : Design → List Item → List PlaneArea → List Item → Type 0
TakesPlanes d items [] after = after ≡ items
TakesPlanes d items (p ∷ ps) after =
    (next : List Item) × TakesRibs d p items (candidates d p) next × TakesPlanes d next ps after

-- the ribs of planes stand behind the design's fixed items
abbrev pub AreRibs : Design → List PlaneArea → List Item → Type 0
AreRibs d planes found = TakesPlanes d d.fixed planes (d.fixed ++ found)

-- the ribs, or how many items there would be at most where these are too many
abbrev pub AnswersRibs : Design → List PlaneArea → Result (List Item) RibFault → Type 0
AnswersRibs d planes (Ok found) = AreRibs d planes found × (load_of d planes ≤ MOST_ITEMS)
AnswersRibs d planes (Err (TooMany count)) = (count ≡ load_of d planes) × (MOST_ITEMS < load_of d planes)
AnswersRibs d planes (Err (Memory e)) = Unit {0}
