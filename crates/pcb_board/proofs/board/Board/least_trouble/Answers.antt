use Rattle.std.proofs.Common.{◌≡◌, ◌<◌, List, sym, ◌∙◌, subst}
use Rattle.std.specs.Prelude.{All, IfOk, Some, slice_get}
use Rattle.pcb_model.specs.declared.item.Item.{Item}
use Rattle.pcb_model.specs.declared.design.Design.{Design}
use Rattle.pcb_model.specs.Sound.{Serves}
use Rattle.pcb_board.specs.Boards.{BoardOf, given}
use Rattle.board_offers.specs.Troubles.{FailsLeast, IsClear}
use Rattle.pcb_board.specs.Answers.{IsClearOn}
use Rattle.pcb_board.specs.Keeping.{IsBoard}
use Rattle.pcb_board.specs.Indexing.{board_of}
use Rattle.board_offers.specs.Given.{AreGiven}
use Rattle.pcb_board.proofs.Standing.{found_now, serves_now}
use Rattle.pcb_board.proofs.Committing.{new_fit, new_above}
use Rattle.pcb_model.specs.Bounds.{IsItemFit, HasClearancesWithin}
use Rattle.board_offers.specs.Items.{new_items}
use Rattle.pcb_board.proofs.board.Board.least_trouble.Goals as goal

pub least_trouble-requires-clause-serves : goal.least_trouble-requires-clause-serves
least_trouble-requires-clause-serves c = record {
  serves = subst (Serves c.self.inside.tiles.items) (sym c.get.ensures)
      (serves_now (board_of c.self.inside) c.self.invariant.board);
  reaches = subst (HasClearancesWithin c.self.inside.tiles.reach) (sym c.get.ensures)
      c.self.invariant.spread.greatest.within;
}

pub least_trouble-requires-clause-fit : goal.least_trouble-requires-clause-fit
least_trouble-requires-clause-fit c =
    subst (All IsItemFit) (sym c.requires.new)
    (new_fit c.args.self.now c.args.offer.now
    (subst IsBoard c.self.view_is c.self.invariant.board) c.requires.formed)

pub least_trouble-requires-clause-above : goal.least_trouble-requires-clause-above
least_trouble-requires-clause-above c =
    let above = new_above c.args.self.now c.args.offer.now
    (subst IsBoard c.self.view_is c.self.invariant.board) c.requires.formed in
    subst (λ (ns : List Item). All (λ (n : Item). All (λ (a : Item). a.id < n.id) c.self.inside.tiles.items) ns)
    (sym c.requires.new)
    (subst (λ (b : BoardOf). All (λ (n : Item). All (λ (a : Item). a.id < n.id) b.items)
    (new_items c.args.self.now.design (given c.args.self.now) c.args.offer.now)) (sym c.self.view_is) above)

pub least_trouble-requires-clause-given : goal.least_trouble-requires-clause-given
least_trouble-requires-clause-given c =
    subst (λ (d : Design). AreGiven d c.as_slice.result.now) (sym c.get.ensures)
    (subst (AreGiven c.self.inside.design) (sym c.self.invariant.indexed.items_are ∙ sym c.as_slice.ensures.value)
    c.self.invariant.board.given_are)

pub least_trouble-requires-clause-stand : goal.least_trouble-requires-clause-stand
least_trouble-requires-clause-stand c =
    subst (λ (g : List Item). All (λ (a : Item). slice_get g a.id ≡ Some a) c.self.inside.tiles.items)
    (sym c.self.invariant.indexed.items_are ∙ sym c.as_slice.ensures.value)
    (found_now (board_of c.self.inside) c.self.invariant.board)

pub returns : goal.returns
returns c =
    let r = c.least_trouble.result in
    let o = c.args.offer.now in
    subst (λ (b : BoardOf). IfOk r (FailsLeast (IsClearOn b o))) c.self.view_is
    (subst (λ (g : List Item). IfOk r (FailsLeast (IsClear c.self.inside.design g c.self.inside.tiles.items o)))
    (c.as_slice.ensures.value ∙ c.self.invariant.indexed.items_are)
    (subst (λ (d : Design). IfOk r (FailsLeast (IsClear d c.as_slice.result.now c.self.inside.tiles.items o)))
    c.get.ensures c.least_trouble.ensures))
