use Rattle.tests_board.proofs.Exchange.{exchanged}
use Rattle.tests_board.proofs.of_maps.exchange.Goals as goal

pub follow-requires-clause-follows : goal.follow-requires-clause-follows
follow-requires-clause-follows c =
    exchanged c.args.d.now c.args.lat.now c.args.old.now.item c.args.new.now.item c.in_ok-gone.gone c.in_ok-come.come
    c.args.old.now.copper c.args.new.now.copper c.args.maps.now c.requires.before c.requires.after
    c.in_ok-gone.ensures c.in_ok-come.ensures c.requires.maps
