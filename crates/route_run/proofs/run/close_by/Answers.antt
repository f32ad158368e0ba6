use Rattle.route_run.proofs.Rounds.{shut_plain, shut_wide}
use Rattle.route_run.proofs.run.close_by.Goals as goal

pub close_wide-requires : goal.close_wide-requires
close_wide-requires c = record {
  plain = c.requires.plain;
  fits = c.requires.fits;
  small_cost = c.requires.small_cost;
}

pub close_out-requires : goal.close_out-requires
close_out-requires c = record {
  plain = c.requires.plain;
  fits = c.requires.fits;
  small_cost = c.requires.small_cost;
}
