-- What is added to a design: its ribs, and behind them its stubs.
use Rattle.std.specs.Prelude.{◌≡◌, ℕ, ◌<◌, ◌≤◌, List, ◌++◌, map, Result, Ok, Err}
use Rattle.pcb_model.specs.declared.item.Item.{Item}
use Rattle.pcb_model.specs.declared.design.Design.{Design}
use Rattle.pcb_model.specs.declared.limits.TheConstants.{MOST_ITEMS}
use Rattle.pcb_model.specs.Bounds.{HasClearancesWithin}
use Rattle.route_lattice.specs.Mesh.{Mesh}
use Rattle.plane_joins.specs.declared.area.PlaneArea.{PlaneArea}
use Rattle.plane_joins.specs.declared.fault.RibFault.{RibFault}
use Rattle.plane_joins.specs.declared.fault.RibFault.TheVariants.{TooMany, Memory}
use Rattle.plane_joins.specs.Changed.{MayFollow, with_fixed}
use Rattle.plane_joins.specs.Planes.{load_of}
use Rattle.plane_stubs.specs.declared.held.Held.{Held}
use Rattle.plane_joins.specs.Planned.{IsPlaned, TriesNets}
use Rattle.plane_joins.specs.Stubs.{RibGround, with_items, loose}

-- what the rest of the nets take from here, all of them take from the first copper
pub record LeadsNets (g : RibGround) (all : List ℕ) (items : List Item) (rest : List ℕ) : Type 0 where
  pub on : (after : List Item) → TriesNets (with_items g items) rest after → TriesNets g all after

-- further items with which the design is one with planes, or how many there would be at most where these are too many
abbrev pub AnswersAdded : Design → Mesh → List PlaneArea → ℕ → Result (List Item) RibFault → Type 0
AnswersAdded d lat planes via_cost (Ok more) =
    IsPlaned d lat planes via_cost (with_fixed d more) × MayFollow d more × (load_of d planes ≤ MOST_ITEMS)
AnswersAdded d lat planes via_cost (Err (TooMany count)) = (count ≡ load_of d planes) × (MOST_ITEMS < load_of d planes)
AnswersAdded d lat planes via_cost (Err (Memory e)) = Unit {0}

-- the copper at first: the ribs alone were added
pub record IsFirstHeld (d : Design) (ribs : List Item) (h : Held) : Type 0 where
  pub held : h.tiles.items ≡ d.fixed ++ map loose ribs
  pub reach : HasClearancesWithin h.tiles.reach d
  pub added : h.added ≡ ribs
