use Rattle.std.proofs.Common.{◌∙◌, refl, sym, subst}
use Rattle.pcb_model.specs.declared.design.Design.{Design}
use Rattle.pcb_model.specs.Sound.{IsSound}
use Rattle.pcb_tiles.specs.Spread.{ServesSpread}
use Rattle.route_lattice.specs.Fits.{FitsDesign}
use Rattle.move_maps.specs.Maps.{AreMapsOf}
use Rattle.closing_pass.proofs.Roomed.{follows_there, is_room}
use Rattle.closing_pass.proofs.room.Room.of.Goals as goal

pub follow-requires-clause-sound : goal.follow-requires-clause-sound
follow-requires-clause-sound c = subst IsSound (sym c.design.ensures) c.keeps.ensures.sound

pub follow-requires-clause-fits : goal.follow-requires-clause-fits
follow-requires-clause-fits c =
    subst (λ (d : Design). FitsDesign d c.args.lat.now) (sym c.design.ensures) c.requires.can.fits

pub follow-requires-clause-serves : goal.follow-requires-clause-serves
follow-requires-clause-serves c =
    subst (λ (d : Design). ServesSpread c.in-Ok.changed.0 d) (sym c.design.ensures) c.in-Ok.ensures.serves

pub follow-requires-clause-follows : goal.follow-requires-clause-follows
follow-requires-clause-follows c =
    let b = c.args.board.now in
    follows_there c.design.result.now c.args.lat.now b c.args.mapped c.args.id c.args.moved c.in-Ok.changed.0
    c.in-Ok.changed.1.gone c.in-Ok.changed.1.come c.design.ensures (c.boards_serve.ensures.serves b c.keeps.ensures)
    c.requires.mapped c.in-Ok.ensures

pub invariant_of-result : goal.invariant_of-result
invariant_of-result c =
    let b = c.args.board.now in
    let d = c.design-in-Ok-follow.result.now in
    is_room d c.args.lat.now b c.args.mapped c.args.id c.args.moved c.in-Ok.changed.0 c.in-Ok.changed.1.gone
    c.in-Ok.changed.1.come c.design-in-Ok-follow.ensures (c.boards_serve.ensures.serves b c.keeps.ensures)
    c.requires.mapped c.in-Ok.ensures c.args.via_cost c.follow.new.self c.keeps.ensures c.requires.can
    (subst (λ (e : Design). AreMapsOf e c.args.lat.now c.in-Ok.changed.0.items c.follow.new.self)
    (c.design.ensures ∙ sym c.design-in-Ok-follow.ensures) c.in-Ok-follow.ensures.ok)

pub returns-in-Ok-follow : goal.returns-in-Ok-follow
returns-in-Ok-follow c = record {
  d_is = c.design-in-Ok-follow.ensures;
  lat_is = refl;
  snap_is = c.requires.mapped.snap_is;
  via_cost_is = refl;
  past = c.in-Ok.ensures.past;
}
