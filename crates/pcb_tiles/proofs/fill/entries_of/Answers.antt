use Rattle.std.proofs.Common.{sym, subst}
use Rattle.pcb_model.specs.Bounds.{IsItemFit}
use Rattle.pcb_tiles.proofs.fill.entries_of.Goals as goal

pub of_item-requires : goal.of_item-requires
of_item-requires c =
    subst IsItemFit (sym c.a-item.is) (c.requires c.loop-a.a-index c.a-item.result c.loop-a-test.true)
