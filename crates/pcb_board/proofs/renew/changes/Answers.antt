use Rattle.std.proofs.Common.{◌<◌, ◌++◌, ℕ, List, sym, ◌∙◌, ap, subst}
use Rattle.std.specs.Prelude.{All}
use Rattle.pcb_model.specs.declared.item.Item.{Item}
use Rattle.pcb_tiles.specs.Spread.{Spread, holding}
use Rattle.board_offers.specs.Items.{without}
use Rattle.pcb_board.proofs.renew.changes.Goals as goal

pub change_tiles-requires-clause-below : goal.change_tiles-requires-clause-below
change_tiles-requires-clause-below c =
    subst (λ (t : Spread). All (λ (a : Item). a.id < c.args.first) t.items) (sym c.in_ok-next.ensures)
    c.requires.below

pub returns-in-Ok-clause-tiles : goal.returns-in-Ok-clause-tiles
returns-in-Ok-clause-tiles c =
    c.in-Ok.ensures
    ∙ ap (λ (t : Spread). holding t (without c.as_slice.result.now t.items ++ c.args.come.now)) c.in_ok-next.ensures
    ∙ ap (λ (xs : List ℕ). holding c.args.tiles.now (without xs c.args.tiles.now.items ++ c.args.come.now))
    (c.as_slice.ensures.value ∙ c.in_ok-gone.ensures)
