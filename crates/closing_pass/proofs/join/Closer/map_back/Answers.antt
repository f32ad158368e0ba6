use Rattle.std.proofs.Common.{Option, subst, sym}
use Rattle.pcb_model.specs.declared.design.Design.{Design}
use Rattle.std.specs.Prelude.{IfSome}
use Rattle.route_plan.specs.declared.mapped.MappedSnap.{MappedSnap}
use Rattle.route_plan.specs.Mapped.{IsMappedOn}
use Rattle.route_plan.proofs.Mapping.{mapped_now}
use Rattle.closing_pass.specs.Closing.{CanClose}
use Rattle.closing_pass.proofs.Homing.{some_back}
use Rattle.closing_pass.proofs.join.Closer.map_back.Goals as goal

pub map_snap-requires-clause-later : goal.map_snap-requires-clause-later
map_snap-requires-clause-later c =
    some_back c.args.self.now.lat.now c.args.board.now c.args.copy.now c.in_ok-snap.snap c.take-last.result
    c.keeps.ensures c.boards_serve.ensures.serves c.ids_stay.ensures c.requires.grows c.in_ok-snap.ensures
    (subst (λ (o : Option MappedSnap). IfSome o (IsMappedOn c.args.self.now.lat.now c.args.copy.now))
    (sym c.take-last.ensures.value) c.requires.ready.mapped)

pub returns : goal.returns
returns c =
    let m = c.args.self.now.lat.now in
    record {
      ready = record {
        can = subst (λ (d : Design). CanClose m c.args.self.now.via_cost d) c.requires.grows.design_stays
            c.requires.ready.can;
        size = c.requires.ready.size;
        mapped = subst (λ (o : Option MappedSnap). IfSome o (IsMappedOn m c.args.board.now))
            (sym c.replace.ensures.after)
            (mapped_now m c.args.board.now c.in_ok-snap.snap c.in_ok-mapped.mapped c.keeps.ensures c.in_ok-snap.ensures
            c.in_ok-mapped.ensures);
      };
    }
