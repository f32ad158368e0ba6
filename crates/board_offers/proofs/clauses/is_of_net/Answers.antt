use Rattle.std.proofs.Common.{◌≡◌, Some}
use Rattle.pcb_model.specs.declared.item.Item.{Item}
use Rattle.board_offers.proofs.Tests.{at_none, at_some}
use Rattle.board_offers.proofs.clauses.is_of_net.Goals as goal

pub returns-in-Some : goal.returns-in-Some
returns-in-Some c = at_some (λ (a : Item). a.net ≡ Some c.args.net) _ c.in-Some.a.now c.has_net.result
    c.in-Some.ensures c.has_net.ensures

pub returns-in-None : goal.returns-in-None
returns-in-None c = at_none (λ (a : Item). a.net ≡ Some c.args.net) _ c.in-None.ensures
