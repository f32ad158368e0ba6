use Rattle.std.proofs.Common.{All, sym, subst}
use Rattle.pcb_model.specs.declared.design.Design.{Design}
use Rattle.pcb_model.specs.Sound.{IsItemOf}
use Rattle.move_maps.specs.Maps.{AreMapsOf}
use Rattle.route_plan.proofs.mapped.follow.Goals as goal

pub follow-requires-clause-follows : goal.follow-requires-clause-follows
follow-requires-clause-follows c =
    let later = c.requires.later in
    let last = c.args.last.now in
    let s = c.args.snap.now in
    record {
      old = last.items;
      fit = subst (λ (d : Design). All (IsItemOf d) last.items) (sym c.design.ensures) later.fit;
      maps_are = subst (λ (d : Design). AreMapsOf d c.args.lat.now last.items c.args.maps.now) (sym c.design.ensures)
          later.maps_are;
      change = c.differences_are_changes.ensures last.items s.items c.in_ok-since.since.gone c.in_ok-since.since.come
          c.in_order.ensures.ascends c.in_order-2.ensures.ascends later.one c.in_ok-since.ensures;
    }
