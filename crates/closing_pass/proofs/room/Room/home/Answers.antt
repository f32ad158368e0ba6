use Rattle.closing_pass.proofs.room.Room.home.Goals as goal

pub follow-followed-requires-clause-follows : goal.follow-followed-requires-clause-follows
follow-followed-requires-clause-follows c =
    let s = c.self.inside in
    let i = c.self.invariant in
    record {
      old = s.tiles.items;
      fit = i.serves.serves.items_fit;
      maps_are = i.maps_are;
      change = i.back;
    }
