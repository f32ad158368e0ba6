use Rattle.searcher_pool.proofs.Following.{mapped_first}
use Rattle.searcher_pool.proofs.pool.Pool.draw_from.Goals as goal

pub draw_all-requires : goal.draw_all-requires
draw_all-requires g c = let may = c.requires in record {
  ready = record {
    number_is = may.ready.number_is;
    size = may.ready.size;
    knows = may.ready.knows;
    mapped = mapped_first c.args.self.now.pass c.args.self.now.turn c.args.worker.now.pass.seen _
        c.in_ok-worker.ensures;
  };
  seated = record {
    table = may.seated.table;
    shares = may.seated.shares;
    drawn = may.seated.drawn;
    ascends = may.seated.ascends;
  };
  ended = may.ended;
}
