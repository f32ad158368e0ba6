-- What laying wires keeps; for private functions alone.
use Rattle.std.specs.Prelude.{◌≡◌, List, filter}
use Rattle.pcb_model.specs.declared.item.Item.{Item}
use Rattle.pcb_model.specs.declared.design.Design.{Design}
use Rattle.pcb_model.specs.Board.{is_fixed}
use Rattle.board_offers.specs.Given.{AreGiven}

-- each item fits the design and has its place as id, and the fixed ones are the design's
pub record IsGrown (d : Design) (items : List Item) : Type 0 where
  pub given : AreGiven d items
  pub fixed_there : filter is_fixed items ≡ d.fixed
