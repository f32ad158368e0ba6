use Rattle.std.proofs.Common.{◌≡◌, map, Some, None, All, sym, subst, ap, ◌∙◌}
use Rattle.pcb_model.specs.Bounds.{IsItemFit}
use Rattle.path_wire.specs.Lays.{IsWellLaid}
use Rattle.board_offers.specs.Items.{added_from}
use Rattle.route_lattice.specs.Ground.{GroundOf}
use Rattle.route_plan.specs.inner.Ways.{shove_of, MovesAll, MakesWayOn}
use Rattle.route_plan.proofs.Moving.{shoved_way, ripped_way}
use Rattle.route_plan.proofs.way.make_way.Goals as goal

pub added_items-requires : goal.added_items-requires
added_items-requires g c =
    subst (All (IsWellLaid c.args.on.now.d c.args.net 0)) (sym c.as_slice.ensures) c.requires

pub to_rip-requires : goal.to_rip-requires
to_rip-requires g c =
    record { sound = c.on.invariant.sound; serves = c.on.invariant.serves; fit = c.in_ok-new.ensures.fit }

pub invariant_of-among : goal.invariant_of-among
invariant_of-among g c = (c.on.invariant, subst (All IsItemFit) (sym c.as_slice-2.ensures) c.in_ok-new.ensures.fit)

pub returns-in_ok-shoves-in-Ok-Some : goal.returns-in_ok-shoves-in-Ok-Some
returns-in_ok-shoves-in-Ok-Some g c =
    let s = c.on.inside in
    let d = s.d.now in
    let m = s.lat.now in
    let items = g.C.Copper.items s.c.now in
    let new = subst (λ (y : GroundOf). c.in_ok-new.new ≡ added_from y.d c.args.net 0 c.as_slice.result.now)
    (sym c.on.view_is) c.in_ok-new.ensures.items in
    subst (λ (y : GroundOf). MakesWayOn y.d y.lat y.items (added_from y.d c.args.net 0 c.args.metals.now)
    (record { rip = c.new.result; shoves = c.in_ok-shoves-in-Ok-Some.shoves })) c.on.view_is
    (shoved_way d m items (added_from d c.args.net 0 c.args.metals.now) c.in_ok-new.new c.as_slice-2.result.now
    c.in-Ok.ids c.as_slice-3.result.now c.in-Ok-Some.moved _ c.in-Ok.ensures
    (new ∙ ap (added_from d c.args.net 0) c.as_slice.ensures) c.as_slice-2.ensures c.as_slice-3.ensures
    (subst (MovesAll d m items c.as_slice-2.result.now c.as_slice-3.result.now) {x = _} {y = Some c.in-Ok-Some.moved}
    c.in-Ok-Some.field-0-is c.in-Ok-Some.ensures)
    c.new.ensures (c.in_ok-shoves-in-Ok-Some.ensures ∙ ap (map shove_of) c.as_slice-in-Ok-Some.ensures))

pub returns-in-Ok-None : goal.returns-in-Ok-None
returns-in-Ok-None g c =
    let s = c.on.inside in
    let d = s.d.now in
    let m = s.lat.now in
    let items = g.C.Copper.items s.c.now in
    let new = subst (λ (y : GroundOf). c.in_ok-new.new ≡ added_from y.d c.args.net 0 c.as_slice.result.now)
    (sym c.on.view_is) c.in_ok-new.ensures.items in
    subst (λ (y : GroundOf). MakesWayOn y.d y.lat y.items (added_from y.d c.args.net 0 c.args.metals.now)
    (record { rip = c.in-Ok.ids; shoves = c.new-in-Ok-None.result })) c.on.view_is
    (ripped_way d m items (added_from d c.args.net 0 c.args.metals.now) c.in_ok-new.new c.as_slice-2.result.now
    c.in-Ok.ids c.as_slice-3.result.now c.new-in-Ok-None.result c.in-Ok.ensures
    (new ∙ ap (added_from d c.args.net 0) c.as_slice.ensures) c.as_slice-2.ensures c.as_slice-3.ensures
    (subst (MovesAll d m items c.as_slice-2.result.now c.as_slice-3.result.now) {x = _} {y = None}
    c.in-Ok-None.field-0-is c.in-Ok-None.ensures)
    c.new-in-Ok-None.ensures)
