use Rattle.std.proofs.Common.{List, sym, subst}
use Rattle.std.specs.Prelude.{IfOk}
use Rattle.pcb_model.specs.declared.item.Item.{Item}
use Rattle.pcb_model.specs.Sound.{Serves}
use Rattle.move_maps.specs.Maps.{AreMapsOf}
use Rattle.route_plan.proofs.Serving.{fixed_serve}
use Rattle.route_plan.proofs.fixed_copper.fixed_maps.Goals as goal

pub of-requires-clause-serves : goal.of-requires-clause-serves
of-requires-clause-serves c =
    subst (λ (xs : List Item). Serves xs c.args.d.now) (sym c.in_ok-copper.ensures)
    (fixed_serve c.args.d.now c.requires.sound)

pub returns : goal.returns
returns c =
    subst (λ (xs : List Item). IfOk c.of.result (AreMapsOf c.args.d.now c.args.lat.now xs)) c.in_ok-copper.ensures
    c.of.ensures
