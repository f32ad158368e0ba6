-- Trials of settled moves.
use Rattle.std.specs.Prelude.{◌≡◌, ℕ, ◌<◌, Bool, true, false, List, ◌++◌, length, Option, Some, None}
use Rattle.pcb_model.specs.declared.item.Item.{Item}
use Rattle.pcb_islands.specs.declared.net.Island.{Island}
use Rattle.pcb_islands.specs.Islands.{AreIslands}
use Rattle.route_lattice.specs.declared.moves.Walk.{Walk}
use Rattle.route_lattice.specs.Mesh.{Mesh}
use Rattle.board_offers.specs.declared.offer.Offer.{Offer}
use Rattle.path_wire.specs.Wires.{copper_of}
use Rattle.board_offers.specs.Items.{added_from}
use Rattle.board_offers.specs.Offers.{IsWellFormed}
use Rattle.pcb_board.specs.Boards.{BoardOf, given}
use Rattle.pcb_board.specs.Answers.{known, joined}
use Rattle.least_offer.specs.Least.{IsLeastOffer, MayBeMade}
use Rattle.closing_pass.specs.Settled.{HasAtMost, IsCloserOffer, JoinsFirst, Rejoins, TakesOne}
use Rattle.closing_pass.specs.inner.Steps.{JoinsNet}

-- a least offer of the closing pass for another net, which takes out or moves aside at most one item, and which may be
-- made where it is well formed
pub record IsTrial (m : Mesh) (via_cost : ℕ) (b : BoardOf) (o : Offer) (net : ℕ) : Type 0 where
  pub net_there : net < length b.design.nets
  pub closer : IsCloserOffer b o.net o
  pub least : IsLeastOffer m via_cost b o
  pub takes : TakesOne m b o
  pub may : IsWellFormed (known b) o → MayBeMade b o

-- the first island of the net is joined to another by the stated walk; or no legal walk leads on from it, and the board
-- stays
pub record HasJoinedFirst (m : Mesh) (via_cost net : ℕ) (old new : BoardOf) : Type 0 where
  pub walk : Walk
  pub first : JoinsFirst old.design m via_cost old.items net walk
  pub added : List Item
  pub added_are : added
      ≡ added_from old.design net (length (given old)) (copper_of old.design m net walk.nodes walk.moves)
  pub items_are : new.items ≡ old.items ++ added
  pub given_are : given new ≡ given old ++ added
  pub joins : JoinsNet m via_cost net old new

abbrev pub JoinsFirstOf : Mesh → ℕ → ℕ → BoardOf → BoardOf → Bool → Type 0
JoinsFirstOf m via_cost net old new true = HasJoinedFirst m via_cost net old new
JoinsFirstOf m via_cost net old new false =
    (new ≡ old) × ((walk : Walk) → ¬ (JoinsFirst old.design m via_cost old.items net walk))

-- Further walks, from a board on: joined, the net has at most so many islands; or no list of walks joins it so.
abbrev pub Rejoined : Mesh → ℕ → ℕ → ℕ → BoardOf → BoardOf → Bool → Type 0
Rejoined m via_cost net most old new true =
    ((walks : List Walk) × Rejoins old.design m via_cost net most old.items (length (given old)) walks)
    × HasAtMost new.design new.items net most × JoinsNet m via_cost net old new
Rejoined m via_cost net most old new false =
    ((walks : List Walk) → ¬ (Rejoins old.design m via_cost net most old.items (length (given old)) walks))
    × JoinsNet m via_cost net old new

-- such walks, where the board comes, and else that there are none
abbrev pub Retried : Mesh → ℕ → ℕ → ℕ → BoardOf → Option BoardOf → Type 0
Retried m via_cost net most old (Some c) = Rejoined m via_cost net most old c true
Retried m via_cost net most old None =
    (walks : List Walk) → ¬ (Rejoins old.design m via_cost net most old.items (length (given old)) walks)

-- the walks after the offer join the net until it has no more islands than before
pub record Follows (m : Mesh) (via_cost : ℕ) (b : BoardOf) (o : Offer) (net : ℕ) (walks : List Walk) : Type 0 where
  pub before : List Island
  pub islands : AreIslands b.design b.items net before
  pub rejoins : Rejoins b.design m via_cost net (length before) (joined b o).items (length (given (joined b o))) walks

-- The board with the offer and such walks; or the offer isn't well formed, or there are no such walks.
pub record HasTried (m : Mesh) (via_cost : ℕ) (b : BoardOf) (o : Offer) (net : ℕ) (c : BoardOf) : Type 0 where
  pub formed : IsWellFormed (known b) o
  pub walks : List Walk
  pub follows : Follows m via_cost b o net walks
  pub few : HasAtMost c.design c.items net (length follows.before)
  pub joins : JoinsNet m via_cost net (joined b o) c

abbrev pub TriesOffer : Mesh → ℕ → BoardOf → Offer → ℕ → Option BoardOf → Type 0
TriesOffer m via_cost b o net (Some c) = HasTried m via_cost b o net c
TriesOffer m via_cost b o net None =
    IsWellFormed (known b) o → (walks : List Walk) → ¬ (Follows m via_cost b o net walks)

-- the board after it, where there is one, and else the one before
abbrev pub after_trial : BoardOf → Option BoardOf → BoardOf
after_trial b None = b
after_trial b (Some c) = c
