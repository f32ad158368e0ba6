use Rattle.std.proofs.Common.{◌≡◌, sym}
use Rattle.std.proofs.lemmas.List.Elements.{All-contains}
use Rattle.pcb_model.specs.declared.item.Item.{Item}
use Rattle.board_offers.specs.Items.{is_on}
use Rattle.board_offers.proofs.Lists.{on_item}
use Rattle.board_offers.proofs.Troubles.{is_on_in}
use Rattle.pcb_board.proofs.Index.{is_false}
use Rattle.pcb_board.proofs.marks.is_held.Goals as goal

pub returns-in-Some : goal.returns-in-Some
returns-in-Some c =
    let h = c.in-Some.ensures in sym (is_on_in c.args.tiles.now.items c.args.id c.in-Some.field-0.now h.0 h.1)

pub returns-in-None : goal.returns-in-None
returns-in-None c = sym (is_false (is_on c.args.id c.args.tiles.now.items) (λ e.
    let h = on_item c.args.tiles.now.items c.args.id e in
    All-contains (λ (b : Item). b.id ≡ c.args.id → ⊥) c.args.tiles.now.items h.item c.in-None.ensures h.there h.id_is))
