use Rattle.std.proofs.Common.{sym, subst}
use Rattle.pcb_model.specs.Copper.{Ascends}
use Rattle.pcb_model.proofs.plain.PlainCopperCopper.item.Goals as goal

pub index_of-requires : goal.index_of-requires
index_of-requires c = subst Ascends (sym c.as_slice-items.ensures) c.self.invariant.ascends
