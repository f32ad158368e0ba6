use Rattle.cut_certificate.proofs.Shutting.{open_of, shut_of}
use Rattle.cut_certificate.proofs.shut.LegalMovesShuts.blocker.Goals as goal

pub probe-requires-clause-can_move : goal.probe-requires-clause-can_move
probe-requires-clause-can_move g c = c.requires.ready.0

pub probe-requires-clause-node : goal.probe-requires-clause-node
probe-requires-clause-node g c = c.requires.node

pub probe-requires-clause-index : goal.probe-requires-clause-index
probe-requires-clause-index g c = c.requires.index

pub shuts_probe-requires : goal.shuts_probe-requires
shuts_probe-requires g c = c.in-Some.ensures.fits

pub returns-clause-open : goal.returns-clause-open
returns-clause-open g c =
    open_of c.args.self.now.d.now _ c.args.self.now.net c.in-Some.probe _ c.shuts_probe.result c.in-Some.ensures.value
    c.shuts_probe.ensures.legal

pub returns-clause-shut : goal.returns-clause-shut
returns-clause-shut g c =
    shut_of c.args.self.now.d.now _ c.args.self.now.net c.in-Some.probe _ c.shuts_probe.result c.in-Some.ensures.value
    c.shuts_probe.ensures.shut

pub invariant_of-on : goal.invariant_of-on
invariant_of-on g c = record {
  sound = c.requires.ready.0.sound;
  fits = c.requires.ready.0.fits;
  serves = c.requires.ready.1;
  in_order = c.in_order.ensures.ascends;
}
