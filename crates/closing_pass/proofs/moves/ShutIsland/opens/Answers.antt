use Rattle.std.proofs.Common.{◌<◌, [], ◌∷◌, length, Option, None, refl, subst, sym}
use Rattle.std.specs.Prelude.{IfOk, IfSome}
use Rattle.std.specs.Bool.{OnFalse}
use Rattle.std.proofs.lemmas.Result.{IfOk-weaker}
use Rattle.pcb_model.specs.declared.design.Design.{Design}
use Rattle.cut_certificate.specs.Cuts.{LeadsOn}
use Rattle.board_offers.specs.Items.{without}
use Rattle.pcb_board.specs.Answers.{snap_of}
use Rattle.pcb_board.specs.Keeping.{IsBoard}
use Rattle.route_plan.specs.declared.mapped.MappedSnap.{MappedSnap}
use Rattle.route_plan.specs.Mapped.{IsMappedOn}
use Rattle.route_plan.specs.Routes.{IsLed}
use Rattle.route_plan.proofs.Mapping.{mapped_now}
use Rattle.closing_pass.specs.inner.Rooms.{IsRoomFor, search_in}
use Rattle.closing_pass.specs.inner.Tries.{ShutIslandOf}
use Rattle.closing_pass.proofs.Answered.{home_mapped, room_cut, shut_out}
use Rattle.closing_pass.proofs.moves.ShutIsland.opens.Goals as goal

pub room-requires-clause-ready : goal.room-requires-clause-ready
room-requires-clause-ready c = c.requires.ready

pub room-requires-clause-makes : goal.room-requires-clause-makes
room-requires-clause-makes c = c.requires.there

pub returns-in_err-room-clause-ready : goal.returns-in_err-room-clause-ready
returns-in_err-room-clause-ready c = c.room.ensures.ready

pub may_lead-led-requires-clause-net : goal.may_lead-led-requires-clause-net
may_lead-led-requires-clause-net c =
    subst (λ (d : Design). c.self.inside.island.now.net < length d.nets) (sym c.in_ok-room.ensures.room.d_is)
    (subst (λ (s : ShutIslandOf). c.self.inside.island.now.net < length s.board.design.nets) c.self.view_is
    c.self.invariant.net_there)

pub may_lead-led-requires-clause-cut : goal.may_lead-led-requires-clause-cut
may_lead-led-requires-clause-cut c =
    let s = c.self.inside in
    room_cut s.closer.lat.now s.closer.via_cost s.board.now c.args.id None c.in_ok-room.room s.island.now s.others.now
    s.cut.now
    (subst (λ (t : ShutIslandOf). IsRoomFor t.lat t.via_cost t.board c.args.id None c.in_ok-room.room)
    (sym c.self.view_is) c.in_ok-room.ensures.room) c.self.invariant.is_cut

pub returns-in_err-home-clause-ready : goal.returns-in_err-home-clause-ready
returns-in_err-home-clause-ready c = c.in_ok-room.ensures.ready

pub returns-clause-shut : goal.returns-clause-shut
returns-clause-shut c =
    let s = c.args.self.now in
    let room = c.in_ok-room.room in
    IfOk-weaker c.may_lead-led.result (λ led. OnFalse led (¬ (IsLed (search_in room s.island s.others))))
    (λ led. OnFalse led (¬ (LeadsOn s.board.design s.lat (without (c.args.id ∷ []) s.board.items) s.via_cost s.island
    s.others)))
    (λ led says. shut_out s.lat s.via_cost s.board c.args.id room s.island s.others
    (subst (λ (t : ShutIslandOf). IsBoard t.board) c.self.view_is c.keeps.ensures) c.in_ok-room.ensures.room led says)
    (subst (λ (t : ShutIslandOf). IfOk c.may_lead-led.result (λ led. OnFalse led
    (¬ (IsLed (search_in room t.island t.others))))) c.self.view_is c.may_lead-led.ensures)

pub returns-clause-ready : goal.returns-clause-ready
returns-clause-ready c =
    let s = c.args.self.now in
    let ready = c.in_ok-room.ensures.ready in
    record {
      can = ready.can;
      size = ready.size;
      mapped = subst (λ (o : Option MappedSnap). IfSome o (IsMappedOn s.lat s.board)) (sym c.replace.ensures.after)
          (mapped_now s.lat s.board (snap_of s.board) c.in_ok-home.field-0
          (subst (λ (t : ShutIslandOf). IsBoard t.board) c.self.view_is c.keeps.ensures) refl
          (home_mapped s.lat s.via_cost s.board c.args.id None c.in_ok-room.room c.in_ok-home.field-0
          c.in_ok-room.ensures.room c.in_ok-home.ensures));
    }
