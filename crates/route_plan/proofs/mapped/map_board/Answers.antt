use Rattle.std.proofs.lemmas.Result.{IfOk-weaker}
use Rattle.route_plan.specs.Mapped.{IsMapped, IsMappedOn}
use Rattle.route_plan.proofs.Mapping.{can_map, some_later, mapped_now}
use Rattle.route_plan.proofs.mapped.map_board.Goals as goal

pub map_snap-requires-clause-can : goal.map_snap-requires-clause-can
map_snap-requires-clause-can c = can_map c.args.lat.now c.args.board.now c.in_ok-snap.snap c.keeps.ensures
    c.requires.fits c.boards_serve.ensures.serves c.in_ok-snap.ensures

pub map_snap-requires-clause-later : goal.map_snap-requires-clause-later
map_snap-requires-clause-later c = some_later c.args.lat.now c.args.board.now c.in_ok-snap.snap c.args.last
    c.keeps.ensures c.boards_serve.ensures.serves c.ids_stay.ensures c.in_ok-snap.ensures c.requires.last

pub returns : goal.returns
returns c =
    let m = c.args.lat.now in let b = c.args.board.now in let s = c.in_ok-snap.snap in
    IfOk-weaker c.map_snap.result (IsMapped m s) (IsMappedOn m b)
    (λ mapped is. mapped_now m b s mapped c.keeps.ensures c.in_ok-snap.ensures is) c.map_snap.ensures
