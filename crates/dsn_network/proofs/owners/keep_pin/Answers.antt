use Rattle.std.proofs.Common.{◌≡◌, None, rules}
use Rattle.dsn_network.specs.Nets.{is_pin}
use Rattle.dsn_network.specs.Owners.{net_by}
use Rattle.dsn_network.proofs.Owning.{gets, given, same_net}
use Rattle.dsn_network.proofs.owners.keep_pin.Goals as goal

pub returns-in_ok-insert : goal.returns-in_ok-insert
returns-in_ok-insert c = λ q.
    let none : net_by c.args.map.now c.args.pin ≡ None = search rules in
    gets (net_by c.args.map.now q) (net_by c.args.map.now c.args.pin) (net_by c.insert.new.self q) c.args.net
    (is_pin q c.args.pin) (same_net c.args.map.now c.args.pin q) none
    (given c.args.map.now c.insert.new.self c.args.pin q c.args.net c.in_ok-insert.ensures.updates)
