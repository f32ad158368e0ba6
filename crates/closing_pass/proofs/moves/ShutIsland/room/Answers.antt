use Rattle.std.proofs.Common.{subst, sym}
use Rattle.std.specs.Prelude.{IfOk}
use Rattle.closing_pass.specs.Closing.{CanClose}
use Rattle.closing_pass.specs.inner.Rooms.{IsRoomFor, MakesRoom}
use Rattle.closing_pass.specs.inner.Steps.{AreReady}
use Rattle.closing_pass.specs.inner.Tries.{ShutIslandOf}
use Rattle.closing_pass.proofs.moves.ShutIsland.room.Goals as goal

pub map_now-requires : goal.map_now-requires
map_now-requires c = record {
  ready = subst (λ (s : ShutIslandOf). AreReady s.lat s.via_cost s.board c.args.state.now) (sym c.self.view_is)
      c.requires.ready;
}

pub of-requires-clause-makes : goal.of-requires-clause-makes
of-requires-clause-makes c =
    subst (λ (s : ShutIslandOf). MakesRoom s.board c.args.id c.args.moved) (sym c.self.view_is) c.requires.makes

pub of-requires-clause-can : goal.of-requires-clause-can
of-requires-clause-can c = subst (λ (s : ShutIslandOf). CanClose s.lat s.via_cost s.board.design) (sym c.self.view_is)
    c.requires.ready.can

pub of-requires-clause-mapped : goal.of-requires-clause-mapped
of-requires-clause-mapped c = c.in_ok-mapped.ensures.mapped

pub returns-in_err-mapped-clause-ready : goal.returns-in_err-mapped-clause-ready
returns-in_err-mapped-clause-ready c =
    subst (λ (s : ShutIslandOf). AreReady s.lat s.via_cost s.board c.map_now.new.state) c.self.view_is
    c.map_now.ensures.ready

pub returns-clause-room : goal.returns-clause-room
returns-clause-room c =
    subst (λ (s : ShutIslandOf). IfOk c.of.result (IsRoomFor s.lat s.via_cost s.board c.args.id c.args.moved))
    c.self.view_is c.of.ensures

pub returns-clause-ready : goal.returns-clause-ready
returns-clause-ready c =
    subst (λ (s : ShutIslandOf). AreReady s.lat s.via_cost s.board c.map_now.new.state) c.self.view_is
    c.map_now.ensures.ready
