use Rattle.route_lattice.specs.Legal.{legal_graph, probe_at}
use Rattle.cut_certificate.specs.Cuts.{IsShutBy}
use Rattle.cut_certificate.proofs.Closing.{stays}
use Rattle.cut_certificate.proofs.Shutting.{shut_isnt_open}
use Rattle.cut_certificate.proofs.check.cut_closes.Goals as goal

pub returns : goal.returns
returns g c via_cost w =
    stays (legal_graph c.args.d.now c.args.lat.now (g.C.Copper.items c.args.c.now) c.args.island.now.net via_cost)
    (IsShutBy c.args.d.now c.args.lat.now (g.C.Copper.items c.args.c.now) c.args.island.now.net)
    (λ node i by shut is_open. shut_isnt_open c.args.d.now (g.C.Copper.items c.args.c.now) c.args.island.now.net
    (probe_at c.args.d.now c.args.lat.now c.args.island.now.net node i) by shut is_open)
    c.args.cut.now.reach.nodes c.args.cut.now.blocked c.requires.cut.blocks w.hops w.from w.to
    (c.requires.cut.starts_in w.from w.starts) (c.requires.cut.goals_out w.to w.ends) w.leads
