use Rattle.std.proofs.Common.{List, ℕ, subst}
use Rattle.pcb_islands.specs.inner.Numbers.{IsWith}
use Rattle.pcb_islands.proofs.Sets.{inserted}
use Rattle.pcb_islands.proofs.ids.Ids.insert.Goals as goal

pub returns : goal.returns
returns c = subst (λ (o : List ℕ). IsWith o c.args.id c.in_ok-fresh.fresh c.insert.new.self.keys) c.self.view_is
    (inserted c.self.inside.ids c.insert.new.self c.args.id c.in_ok-fresh.fresh c.in_ok-fresh.ensures.added
    c.in_ok-fresh.ensures.updates)
