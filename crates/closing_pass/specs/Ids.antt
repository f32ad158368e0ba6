-- What the id of a wire that was moved aside changes: nothing.
use Rattle.std.specs.Prelude.{ℕ, List, [], ◌∷◌, ◌++◌}
use Rattle.geo_kernel.specs.declared.point.Point.{Point}
use Rattle.pcb_model.specs.declared.item.Item.{Item}
use Rattle.pcb_model.specs.declared.design.Design.{Design}
use Rattle.board_offers.specs.Items.{reshaped}
use Rattle.route_lattice.specs.Mesh.{Mesh}
use Rattle.route_lattice.specs.Legal.{IsLegalNode, legal_graph}
use Rattle.route_lattice.specs.declared.moves.Walk.{Walk}
use Rattle.route_lattice.specs.Walks.{MoveGraph}
use Rattle.wave_search.specs.Stated.{IsStated}
use Rattle.cut_certificate.specs.Same.{SameMoves}

-- the items, and behind them one with another chain and this id
abbrev pub beside : Design → List Item → Item → List Point → ℕ → List Item
beside d xs a chain i = xs ++ reshaped d i chain a ∷ []

-- the moves and the legal nodes are the same whatever the id
abbrev pub IdsChangeNothing : Type 0
IdsChangeNothing = (d : Design) (m : Mesh) (net via_cost : ℕ) (xs : List Item) (a : Item) (chain : List Point) (i k : ℕ)
    → SameMoves (legal_graph d m (beside d xs a chain i) net via_cost)
    (legal_graph d m (beside d xs a chain k) net via_cost)
    × ((node : ℕ) → IsLegalNode d m (beside d xs a chain i) net node → IsLegalNode d m (beside d xs a chain k) net node)

-- a stated walk over the one moves is one over the others
abbrev pub StatedAlike : MoveGraph → MoveGraph → Type 0
StatedAlike g h = (starts goals : List ℕ) (w : Walk) → IsStated g starts goals w → IsStated h starts goals w
