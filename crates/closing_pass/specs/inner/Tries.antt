-- What the tries of settled moves answer: a board after one that helps, or that none does.
use Rattle.std.specs.Prelude.{◌≡◌, ◌≢◌, ◌⊎◌, ℕ, ◌<◌, false, List, [], ◌∷◌, length, remove, Contains, Option, Some, None}
use Rattle.std.specs.Prelude.{slice_get, Bool}
use Rattle.geo_kernel.specs.declared.point.Point.{Point}
use Rattle.pcb_model.specs.declared.item.Item.{Item}
use Rattle.pcb_islands.specs.declared.net.Island.{Island}
use Rattle.pcb_islands.specs.Islands.{AreIslands}
use Rattle.route_lattice.specs.declared.moves.Walk.{Walk}
use Rattle.route_lattice.specs.Mesh.{Mesh}
use Rattle.route_plan.specs.Plans.{StandsAt}
use Rattle.cut_certificate.specs.declared.cut.Cut.{Cut}
use Rattle.cut_certificate.specs.declared.cut.Block.{Block}
use Rattle.cut_certificate.specs.declared.cut.Blocker.TheVariants as blocker
use Rattle.cut_certificate.specs.Cuts.{Cuts, IsCut, LeadsOn}
use Rattle.shove.specs.Shoves.{IsShove, IsWire}
use Rattle.route_lattice.specs.Ground.{ground_of}
use Rattle.route_plan.specs.Searches.{NetSearchOf}
use Rattle.route_plan.specs.Routes.{FindsPast}
use Rattle.route_plan.specs.declared.route.Route.{Route}
use Rattle.board_offers.specs.declared.offer.Shoved.{Shoved}
use Rattle.board_offers.specs.declared.offer.Offer.{Offer}
use Rattle.pcb_board.specs.Boards.{BoardOf}
use Rattle.closing_pass.specs.Closing.{CanClose, Closes}
use Rattle.closing_pass.specs.OpenCount.{FewerOpen}
use Rattle.closing_pass.specs.Settled.{Helps, IsCloserOffer, IsCutSettled, IsSettled, LaysStated, MovesAside, TakesOut}
use Rattle.closing_pass.specs.inner.Rooms.{IsPast}
use Rattle.closing_pass.specs.inner.Steps.{IsShutAt}

-- what contracts see of an island that is shut in: the lattice, the price of a via in nm, of how many items settled
-- moves are tried, the board, the island and the others, and the island's cut
pub record ShutIslandOf : Type 0 where
  pub lat : Mesh
  pub via_cost : ℕ
  pub tries : ℕ
  pub board : BoardOf
  pub island : Island
  pub others : List Island
  pub cut : Cut

-- the board may be closed, the island is one of its net, and no legal walk leads from it to another, as its cut shows
pub record IsShutIsland (m : Mesh) (via_cost : ℕ) (b : BoardOf) (island : Island) (others : List Island)
    (cut : Cut) : Type 0 where
  pub can : CanClose m via_cost b.design
  pub net_there : island.net < length b.design.nets
  pub place : ℕ
  pub stands : StandsAt b.design b.items island.net place island others
  pub shut : ¬ (LeadsOn b.design m b.items via_cost island others)
  pub is_cut : IsCut b.design m b.items island others cut

-- the board with joins of the closing pass, after which fewer connections are open
pub record IsHelped (m : Mesh) (via_cost : ℕ) (old new : BoardOf) : Type 0 where
  pub closes : Closes m via_cost old new
  pub longer : length old.history < length new.history
  pub fewer : FewerOpen old new

-- none of the settled moves that make way so helps
abbrev pub NoneHelps : ShutIslandOf → ℕ → (Offer → Type 0) → Type 0
NoneHelps s id Way = (o : Offer) (walks : List Walk) → Way o
    → ¬ (Helps s.lat s.via_cost s.board s.island s.others id o walks)

abbrev pub AnswersBy : ShutIslandOf → ℕ → (Offer → Type 0) → Option BoardOf → Type 0
AnswersBy s id Way (Some c) = IsHelped s.lat s.via_cost s.board c
AnswersBy s id Way None = NoneHelps s id Way

-- the item's run r moved up or down to the chain
abbrev pub MovesRunTo : ShutIslandOf → Item → ℕ → Bool → Offer → Type 0
MovesRunTo s item r up o = (a : MovesAside s.lat s.board o item.id) × (a.r ≡ r) × (a.up ≡ up)

-- the wire with this id moved to the chain
pub record MovesTo (id : ℕ) (chain : List Point) (o : Offer) : Type 0 where
  pub shoves_are : o.shoves ≡ record { id = id; chain = chain } ∷ []
  pub no_rip : o.rip ≡ []

-- ---- copper and offers past an item
-- the item has a net, which is another than this one
pub record IsOfOther (item : Item) (net : ℕ) : Type 0 where
  pub own : ℕ
  pub own_is : item.net ≡ Some own
  pub apart : own ≢ net

-- a routed item of the board, of another net than the island's
pub record IsTriedItem (s : ShutIslandOf) (item : Item) : Type 0 where
  pub there : Contains s.board.items item
  pub routed : item.fixed ≡ false
  pub other : IsOfOther item s.island.net

-- a routed item of the board has the id
pub record HasRouted (s : ShutIslandOf) (id : ℕ) : Type 0 where
  pub item : Item
  pub there : Contains s.board.items item
  pub routed : item.fixed ≡ false
  pub id_is : item.id ≡ id

-- some run of the wire, moved up or down, gives the chain, and the wire may lie so
pub record IsShoveTo (s : ShutIslandOf) (item : Item) (chain : List Point) : Type 0 where
  pub wire : IsWire item.metal
  pub r : ℕ
  pub up : Bool
  pub shove : IsShove s.board.design s.lat s.board.items item r up chain

-- the search from the island on some items
abbrev pub search_on : ShutIslandOf → List Item → NetSearchOf
search_on s items = record {
  on = ground_of s.board.design s.lat items;
  island = s.island;
  others = s.others;
  via_cost = s.via_cost;
  penalty = None;
}

-- what is found without the item of the id, and with the other in its place
pub record FindsRoute (s : ShutIslandOf) (id : ℕ) (moved : Option Item) (found : Option Route) : Type 0 where
  pub items : List Item
  pub past : IsPast s.board.items id moved items
  pub finds : FindsPast (search_on s items) found

-- the offer of the closing pass for a route
pub record IsPastOffer (s : ShutIslandOf) (route : Route) (rip : List ℕ) (shoves : List Shoved) (o : Offer) : Type 0
  where
    pub closer : IsCloserOffer s.board s.island.net o
    pub from_is : o.from ≡ route.from
    pub to_is : o.to ≡ route.to
    pub add_is : o.add ≡ route.metals
    pub rip_is : o.rip ≡ rip
    pub shoves_are : o.shoves ≡ shoves

-- it lays the stated walk past the item, which it takes out or moves aside
pub record IsPastTrial (s : ShutIslandOf) (item : Item) (o : Offer) : Type 0 where
  pub closer : IsCloserOffer s.board s.island.net o
  pub aside : TakesOut o item.id ⊎ MovesAside s.lat s.board o item.id
  pub lays : LaysStated s.lat s.via_cost s.board o s.island s.others

-- a board that is helped, or no offer that makes way as this one does helps
abbrev pub AnswersTrial : ShutIslandOf → Item → Offer → Option BoardOf → Type 0
AnswersTrial s item o (Some c) = IsHelped s.lat s.via_cost s.board c
AnswersTrial s item o None = (p : Offer) (walks : List Walk) → p.add ≡ o.add → p.rip ≡ o.rip → p.shoves ≡ o.shoves
    → ¬ (Helps s.lat s.via_cost s.board s.island s.others item.id p walks)

-- ---- an item, an island, a net
abbrev pub AnswersItem : ShutIslandOf → ℕ → Option BoardOf → Type 0
AnswersItem s id (Some c) = IsHelped s.lat s.via_cost s.board c
AnswersItem s id None = IsSettled s.lat s.via_cost s.board s.island s.others id

abbrev pub AnswersIsland : ShutIslandOf → Option BoardOf → Type 0
AnswersIsland s (Some c) = IsHelped s.lat s.via_cost s.board c
AnswersIsland s None = IsCutSettled s.lat s.via_cost s.tries s.board s.island s.others s.cut

-- each island of the net that has a cut is settled
pub record AreCutsSettled (m : Mesh) (via_cost tries : ℕ) (b : BoardOf) (found : List Island) (cuts : List Cut) :
    Type 0 where
  pub each : (place : ℕ) (island : Island) (cut : Cut) → slice_get found place ≡ Some island
      → slice_get cuts place ≡ Some cut → IsCutSettled m via_cost tries b island (remove found place) cut

abbrev pub AnswersNet : Mesh → ℕ → ℕ → BoardOf → List Island → List Cut → Option BoardOf → Type 0
AnswersNet m via_cost tries b found cuts (Some c) = IsHelped m via_cost b c
AnswersNet m via_cost tries b found cuts None = AreCutsSettled m via_cost tries b found cuts

-- ---- the islands of a net, and what cuts name
-- the block names the id, and it is that of a routed item
pub record NamesRouted (items : List Item) (block : Block) (id : ℕ) : Type 0 where
  pub item : Item
  pub there : Contains items item
  pub id_is : item.id ≡ id
  pub routed : item.fixed ≡ false
  pub by_is : block.by ≡ blocker.Item id

-- these are the islands of a net of the design, on a board that may be closed, and no legal walk leads from one of them
-- to another
pub record AreShutOn (m : Mesh) (via_cost : ℕ) (b : BoardOf) (found : List Island) : Type 0 where
  pub can : CanClose m via_cost b.design
  pub net : ℕ
  pub net_there : net < length b.design.nets
  pub islands : AreIslands b.design b.items net found
  pub shut : (place : ℕ) → IsShutAt b.design m via_cost b.items found place

-- it is the cut of the island at the place
abbrev pub HasCutAt : Mesh → ℕ → BoardOf → List Island → ℕ → Cut → Type 0
HasCutAt m via_cost b found place cut = (island : Island) → slice_get found place ≡ Some island
    → Cuts b.design m b.items via_cost island (remove found place) (Some cut)

-- the island at the place
abbrev pub AnswersAt : Mesh → ℕ → ℕ → BoardOf → List Island → ℕ → Cut → Option BoardOf → Type 0
AnswersAt m via_cost tries b found place cut (Some c) = IsHelped m via_cost b c
AnswersAt m via_cost tries b found place cut None =
    (island : Island) → slice_get found place ≡ Some island
    → IsCutSettled m via_cost tries b island (remove found place) cut

-- the id that the block names is listed, where it is that of a routed item
pub record NamesMore (items : List Item) (block : Block) (old new : List ℕ) : Type 0 where
  pub kept : (id : ℕ) → Contains old id → Contains new id
  pub only : (id : ℕ) → Contains new id → Contains old id ⊎ NamesRouted items block id
  pub listed : (id : ℕ) → NamesRouted items block id → Contains new id
