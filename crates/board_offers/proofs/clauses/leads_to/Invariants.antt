use Rattle.std.proofs.Common.{◌≡◌, take}
use Rattle.pcb_model.specs.Bounds.{IsItemFit}
use Rattle.pcb_model.specs.Board.{LeadsTo}
use Rattle.board_offers.specs.inner.Adding.{last_item}
use Rattle.board_offers.proofs.clauses.leads_to.Given as goal

abbrev pub invariant-loop-a : goal.invariant-loop-a
invariant-loop-a l = record {
  last_is : l.last ≡ last_item l.from (take l.a-index l.chain);
  fits : IsItemFit l.last;
  leads : LeadsTo l.from (take l.a-index l.chain) l.last;
}
