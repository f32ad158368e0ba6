use Rattle.searcher_pool.proofs.Spared.{without_error}
use Rattle.searcher_pool.proofs.pool.Pool.work.Goals as goal

pub returns : goal.returns
returns g c = let e = c.draw_from-drew.ensures in record {
  ready = record {
    number_is = e.ready.number_is;
    size = e.ready.size;
    knows = e.ready.knows;
    mapped = e.ready.mapped;
  };
  seated = record {
    table = e.seated.table;
    shares = e.seated.shares;
    drawn = e.seated.drawn;
    ascends = e.seated.ascends;
  };
  name_is = e.name;
  done = λ fine. without_error c.draw_from-drew.result _ c.is_err-worker.result c.is_err-worker.ensures.value fine
      e.done;
}
