use Rattle.std.proofs.Common.{◌≡◌, subst}
use Rattle.pcb_model.specs.Copper.{Ascends}
use Rattle.pcb_model.proofs.plain.PlainCopper.items.Goals as goal

pub returns-clause-ascends : goal.returns-clause-ascends
returns-clause-ascends c =
    let v = c.self.view_is in
    let e : c.self.inside.items ≡ c.args.self.now = cc in
    subst Ascends e c.self.invariant.ascends
