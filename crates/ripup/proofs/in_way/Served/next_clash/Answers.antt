use Rattle.std.proofs.Common.{subst}
use Rattle.std.specs.Prelude.{Some}
use Rattle.pcb_model.specs.Pairs.{Agrees}
use Rattle.pcb_model.specs.Copper.{Finds}
use Rattle.ripup.specs.inner.Served.{ServedOf}
use Rattle.ripup.proofs.in_way.Served.next_clash.Goals as goal

pub returns : goal.returns
returns g c =
    subst (λ (s : ServedOf). Finds (λ b. Agrees s.d c.args.item.now b → ⊥) (Agrees s.d c.args.item.now) c.args.from
    (Some c.args.item.now.id) s.items c.clash_from.result) c.self.view_is c.clash_from.ensures
