use Rattle.std.proofs.Common.{◌<◌, length, subst, sym}
use Rattle.route_lattice.specs.Legal.{legal_graph}
use Rattle.route_plan.specs.Planners.{AreMovesOf}
use Rattle.closing_pass.specs.inner.Rooms.{RoomOf}
use Rattle.closing_pass.proofs.room.Room.search.Goals as goal

pub invariant_of-result : goal.invariant_of-result
invariant_of-result g c =
    let i = c.self.invariant in (
      record {
        move = record {
          sound = i.sound;
          fits = i.fits;
          net_there = subst (λ (y : RoomOf). c.args.island.now.net < length y.d.nets) (sym c.self.view_is)
              c.requires.net;
          small_cost = i.small_cost;
        };
        small_penalty = tt;
      },
      i.serves,
      subst (λ (y : RoomOf). AreMovesOf g.M.Moves c.args.moves.now
          (legal_graph y.d y.lat y.items c.args.island.now.net y.via_cost)) (sym c.self.view_is) c.requires.moves,
    )
