use Rattle.std.proofs.Common.{◌<◌, ℕ, length, subst, sym}
use Rattle.pcb_model.specs.declared.design.Design.{Design}
use Rattle.pcb_tiles.specs.Spread.{Spread, ServesSpread}
use Rattle.route_lattice.specs.Mesh.{Mesh}
use Rattle.route_lattice.specs.Legal.{CanMove}
use Rattle.closing_pass.specs.inner.Rooms.{RoomOf}
use Rattle.closing_pass.proofs.Rooming.{same_room}
use Rattle.closing_pass.proofs.room.Room.may_lead.Goals as goal

pub search-requires-clause-moves : goal.search-requires-clause-moves
search-requires-clause-moves c =
    let s = c.self.inside in
    let n = c.args.island.now.net in
    let e = c.in-Ok-Some.ensures in
    let is = c.in-Ok-Some.field-0-is in
    let i = c.self.invariant in
    let there = subst (λ (y : RoomOf). n < length y.d.nets) (sym c.self.view_is) c.requires.net in
    let d = rw is at e.d in
    let lat = rw is at e.lat in
    let copper = rw is at e.c in
    let net = rw is at e.net in
    let cost = rw is at e.via_cost in
    record {
      ready = rw (d, lat, copper, net, cost) (
        (record { sound = i.sound; fits = i.fits; net_there = there; small_cost = i.small_cost }, i.serves),
        rw is at e.map,
        rw is at e.alike,
        rw is at e.own,
      );
      same = same_room s.d.now s.lat.now s.snap s.tiles s.via_cost c.args.self.now _ _ _ _ _ n
          d lat copper net cost c.self.view_is;
    }

pub search-requires-in-Ok-None-clause-moves : goal.search-requires-in-Ok-None-clause-moves
search-requires-in-Ok-None-clause-moves c =
    let s = c.self.inside in
    let n = c.args.island.now.net in
    let e = c.of-moves.ensures in
    let i = c.self.invariant in
    let there = subst (λ (y : RoomOf). n < length y.d.nets) (sym c.self.view_is) c.requires.net in
    record {
      ready = subst (λ (y : Design × Mesh × Spread × ℕ × ℕ). CanMove y.0 y.1 y.3 y.4 × ServesSpread y.2 y.0)
          (λ k. (sym e.d k, sym e.lat k, sym e.c k, sym e.net k, sym e.via_cost k))
          (record { sound = i.sound; fits = i.fits; net_there = there; small_cost = i.small_cost }, i.serves);
      same = same_room s.d.now s.lat.now s.snap s.tiles s.via_cost c.args.self.now _ _ _ _ _ n
          e.d e.lat e.c e.net e.via_cost c.self.view_is;
    }
