use Rattle.std.proofs.Common.{[]}
use Rattle.dsn_network.specs.Splits.{fits_from, split_with}
use Rattle.dsn_network.proofs.Fitting.{split_fold}
use Rattle.dsn_network.proofs.split.split_by.Goals as goal

pub loop-i-init : goal.loop-i-init
unfolding split_with
loop-i-init g c = split_fold (fits_from (g.P.Pins.named c.args.pins.now) [] c.args.text.now)
