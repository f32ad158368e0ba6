use Rattle.std.proofs.Common.{◌∙◌, sym, ap, subst}
use Rattle.pcb_model.specs.Sound.{Serves}
use Rattle.route_lattice.specs.Legal.{CanMove}
use Rattle.pcb_board.specs.Boards.{SnapOf}
use Rattle.wide_offer.specs.Leading.{LeadsWide}
use Rattle.wide_offer.specs.inner.Routes.{FindsRoute, IsRoute}
use Rattle.wide_offer.proofs.Offering.{of_snap, offers, on_snap}
use Rattle.wide_offer.proofs.offer.offer_from.Goals as goal

pub route-found-requires-clause-can_move : goal.route-found-requires-clause-can_move
route-found-requires-clause-can_move c =
    on_snap (λ d xs. CanMove d c.args.lat.now c.args.island.now.net c.args.via_cost) c.args.board.now
    c.in_ok-snap.snap c.design.result.now c.in_ok-snap.ensures c.design.ensures c.requires

pub route-found-requires-clause-serves : goal.route-found-requires-clause-serves
route-found-requires-clause-serves c = (
  sym c.design.ensures,
  on_snap (λ d xs. Serves xs d) c.args.board.now c.in_ok-snap.snap c.design.result.now c.in_ok-snap.ensures
      c.design.ensures (c.boards_serve.ensures.serves c.args.board.now c.keeps.ensures),
)

pub returns-in-Ok-Some : goal.returns-in-Ok-Some
returns-in-Ok-Some c =
    let b = c.args.board.now in
    let m = c.args.lat.now in
    let route = c.in-Ok-Some.route in
    let there : IsRoute c.design.result.now m c.in_ok-snap.snap.items c.args.via_cost c.args.island.now
    c.args.others.now route = subst (FindsRoute c.design.result.now m c.in_ok-snap.snap.items c.args.via_cost
    c.args.island.now c.args.others.now) c.in-Ok-Some.field-0-is c.in-Ok-Some.ensures in
    offers m c.args.via_cost b c.offer_of.result c.number-base.result c.args.island.now c.args.others.now route
    (c.number-base.ensures ∙ ap (λ (s : SnapOf). s.number) c.in_ok-snap.ensures)
    (of_snap (λ d xs. IsRoute d m xs c.args.via_cost c.args.island.now c.args.others.now route) b c.in_ok-snap.snap
    c.design.result.now c.in_ok-snap.ensures c.design.ensures there)
    c.offer_of.ensures

pub returns-in-Ok-None : goal.returns-in-Ok-None
returns-in-Ok-None c =
    let m = c.args.lat.now in
    let none : ¬ (LeadsWide c.design.result.now m c.in_ok-snap.snap.items c.args.via_cost c.args.island.now
    c.args.others.now) = subst (FindsRoute c.design.result.now m c.in_ok-snap.snap.items c.args.via_cost
    c.args.island.now c.args.others.now) c.in-Ok-None.field-0-is c.in-Ok-None.ensures in
    of_snap (λ d xs. ¬ (LeadsWide d m xs c.args.via_cost c.args.island.now c.args.others.now)) c.args.board.now
    c.in_ok-snap.snap c.design.result.now c.in_ok-snap.ensures c.design.ensures none
