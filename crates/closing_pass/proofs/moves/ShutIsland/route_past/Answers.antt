use Rattle.std.proofs.Common.{◌∙◌, ◌<◌, ap, length, Option, refl, subst, sym}
use Rattle.std.specs.Prelude.{IfOk, IfSome}
use Rattle.std.proofs.lemmas.Result.{IfOk-weaker}
use Rattle.pcb_model.specs.declared.design.Design.{Design}
use Rattle.route_lattice.specs.Mesh.{Mesh, node_count}
use Rattle.pcb_board.specs.Answers.{snap_of}
use Rattle.pcb_board.specs.Keeping.{IsBoard}
use Rattle.route_plan.specs.declared.mapped.MappedSnap.{MappedSnap}
use Rattle.route_plan.specs.Mapped.{IsMappedOn}
use Rattle.route_plan.specs.Routes.{FindsPast}
use Rattle.route_plan.proofs.Mapping.{mapped_now}
use Rattle.closing_pass.specs.inner.Rooms.{IsRoomFor, search_in}
use Rattle.closing_pass.specs.inner.Tries.{FindsRoute, ShutIslandOf}
use Rattle.closing_pass.proofs.Answered.{finds_past, home_mapped, room_cut}
use Rattle.closing_pass.proofs.moves.ShutIsland.route_past.Goals as goal

pub room-requires-clause-ready : goal.room-requires-clause-ready
room-requires-clause-ready c = c.requires.ready

pub room-requires-clause-makes : goal.room-requires-clause-makes
room-requires-clause-makes c = c.requires.makes

pub returns-in_err-room-clause-ready : goal.returns-in_err-room-clause-ready
returns-in_err-room-clause-ready c = c.room.ensures.ready

pub route-route-requires-clause-net : goal.route-route-requires-clause-net
route-route-requires-clause-net c =
    subst (λ (d : Design). c.self.inside.island.now.net < length d.nets) (sym c.in_ok-room.ensures.room.d_is)
    (subst (λ (s : ShutIslandOf). c.self.inside.island.now.net < length s.board.design.nets) c.self.view_is
    c.self.invariant.net_there)

pub route-route-requires-clause-size : goal.route-route-requires-clause-size
route-route-requires-clause-size c =
    c.in_ok-room.ensures.ready.size ∙ ap (λ (m : Mesh). node_count m) (sym c.in_ok-room.ensures.room.lat_is)

pub route-route-requires-clause-cut : goal.route-route-requires-clause-cut
route-route-requires-clause-cut c =
    let s = c.self.inside in
    room_cut s.closer.lat.now s.closer.via_cost s.board.now c.args.id c.args.moved c.in_ok-room.room s.island.now
    s.others.now s.cut.now
    (subst (λ (t : ShutIslandOf). IsRoomFor t.lat t.via_cost t.board c.args.id c.args.moved c.in_ok-room.room)
    (sym c.self.view_is) c.in_ok-room.ensures.room) c.self.invariant.is_cut

pub returns-in-Ok-clause-finds : goal.returns-in-Ok-clause-finds
returns-in-Ok-clause-finds c =
    let s = c.args.self.now in
    let room = c.in_ok-room.room in
    IfOk-weaker c.route-route.result (FindsPast (search_in room s.island s.others))
    (FindsRoute s c.args.id c.args.moved)
    (λ found h. finds_past s c.args.id c.args.moved room c.in_ok-room.ensures.room found h)
    (subst (λ (t : ShutIslandOf). IfOk c.route-route.result (FindsPast (search_in room t.island t.others)))
    c.self.view_is c.route-route.ensures.finds)

pub returns-in-Ok-clause-ready : goal.returns-in-Ok-clause-ready
returns-in-Ok-clause-ready c =
    let s = c.args.self.now in
    let ready = c.in_ok-room.ensures.ready in
    record {
      can = ready.can;
      size = c.route-route.ensures.size ∙ ready.size;
      mapped = subst (λ (o : Option MappedSnap). IfSome o (IsMappedOn s.lat s.board)) (sym c.replace.ensures.after)
          (mapped_now s.lat s.board (snap_of s.board) c.in-Ok.mapped
          (subst (λ (t : ShutIslandOf). IsBoard t.board) c.self.view_is c.keeps.ensures) refl
          (home_mapped s.lat s.via_cost s.board c.args.id c.args.moved c.in_ok-room.room c.in-Ok.mapped
          c.in_ok-room.ensures.room c.in-Ok.ensures));
    }

pub returns-in-Err-clause-ready : goal.returns-in-Err-clause-ready
returns-in-Err-clause-ready c =
    let ready = c.in_ok-room.ensures.ready in
    record { can = ready.can; size = c.route-route.ensures.size ∙ ready.size; mapped = ready.mapped }
