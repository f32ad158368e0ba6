-- What loading a design's items keeps: what private functions give.
use Rattle.std.specs.Prelude.{◌≡◌, ℕ, ◌⊎◌, List, [], ◌∷◌, ◌++◌}
use Rattle.pcb_model.specs.declared.item.Item.{Item}
use Rattle.pcb_model.specs.declared.design.FreeWire.{FreeWire}
use Rattle.pcb_model.specs.declared.design.Design.{Design}
use Rattle.pcb_model.specs.Board.{IsLegal}
use Rattle.board_offers.specs.Given.{AreGiven}
use Rattle.pcb_board.specs.declared.load.Loaded.{Loaded}
use Rattle.pcb_board.specs.Boards.{Loads, free_item}
use Rattle.pcb_board.specs.Snaps.{AreTilesOf}

-- what is loaded is legal, and each item has its place as id
pub record IsLoaded (d : Design) (items : List Item) : Type 0 where
  pub legal : IsLegal d items
  pub given : AreGiven d items

-- the tiles hold what is loaded
pub record IsKept (d : Design) (l : Loaded) : Type 0 where
  pub held : l.tiles.items ≡ l.given.items
  pub loaded : IsLoaded d l.given.items
  pub spread : AreTilesOf d l.tiles.area l.tiles.reach

-- one free item is kept where the list with it is legal, and else its place is listed
abbrev pub LoadsOne : Design → Loaded → FreeWire → Loaded → Type 0
LoadsOne d l w n =
    let more = l.given.items ++ free_item d l.given.items w ∷ [] in
    (IsLegal d more × (n.given.items ≡ more) × (n.dropped ≡ l.dropped))
    ⊎ (¬ (IsLegal d more) × (n.given.items ≡ l.given.items) × (n.dropped ≡ l.dropped ++ w.at ∷ []))

-- what loading says of the rest from here, it says of the whole
pub record AreLoaded (d : Design) (rest : List FreeWire) (l : Loaded) : Type 0 where
  pub kept : IsKept d l
  pub so_far : (others : List ℕ) (start : List Item) → Loads d l.given.items rest others start
      → Loads d d.fixed d.free (l.dropped ++ others) start
