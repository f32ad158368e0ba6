use Rattle.closing_pass.proofs.Readiness.{ready_on}
use Rattle.closing_pass.proofs.Trying.{none_formed, trial_joins, trial_net, tried_all, was_made}
use Rattle.closing_pass.proofs.join.Closer.trial.Goals as goal

pub retry-requires-clause-ready : goal.retry-requires-clause-ready
retry-requires-clause-ready c =
    let b = c.args.board.now in
    let m = c.args.self.now.lat.now in
    let cost = c.args.self.now.via_cost in
    let made = was_made b c.in_ok-copy.copy c.offer.new.self c.args.offer c.in-Ok.answer _ c.in_ok-copy.ensures
    c.in-Committed.is c.in-Ok.ensures.ok in
    ready_on m cost b c.offer.new.self c.args.state.now
    (trial_joins m cost c.args.net b c.offer.new.self c.args.offer c.keeps.ensures c.requires.trial made.1)
    c.requires.ready

pub retry-requires-clause-closes : goal.retry-requires-clause-closes
retry-requires-clause-closes c =
    let b = c.args.board.now in
    let made = was_made b c.in_ok-copy.copy c.offer.new.self c.args.offer c.in-Ok.answer _ c.in_ok-copy.ensures
    c.in-Committed.is c.in-Ok.ensures.ok in
    trial_joins c.args.self.now.lat.now c.args.self.now.via_cost c.args.net b c.offer.new.self c.args.offer
    c.keeps.ensures c.requires.trial made.1

pub retry-requires-clause-net : goal.retry-requires-clause-net
retry-requires-clause-net c =
    let b = c.args.board.now in
    let made = was_made b c.in_ok-copy.copy c.offer.new.self c.args.offer c.in-Ok.answer _ c.in_ok-copy.ensures
    c.in-Committed.is c.in-Ok.ensures.ok in
    trial_net c.args.self.now.lat.now c.args.self.now.via_cost c.args.net b c.offer.new.self c.args.offer
    c.keeps.ensures c.requires.trial made.1

pub returns-in-Committed-clause-tries : goal.returns-in-Committed-clause-tries
returns-in-Committed-clause-tries c =
    let b = c.args.board.now in
    let made = was_made b c.in_ok-copy.copy c.offer.new.self c.args.offer c.in-Ok.answer _ c.in_ok-copy.ensures
    c.in-Committed.is c.in-Ok.ensures.ok in
    tried_all c.args.self.now.lat.now c.args.self.now.via_cost c.args.net b c.offer.new.self c.args.offer
    c.keeps.ensures c.requires.trial made.1 c.in_ok-islands_on.field-0 c.len-most.result c.len-most.ensures
    c.in_ok-islands_on.ensures c.islands_are_one.ensures (c.boards_serve.ensures.serves b c.keeps.ensures)
    c.retry.result made.0 c.retry.ensures.tries

-- an answer that commits nothing is that of an offer that isn't well formed
pub returns-in_default-clause-tries : goal.returns-in_default-clause-tries
returns-in_default-clause-tries c =
    none_formed c.args.self.now.lat.now c.args.self.now.via_cost c.args.net c.args.board.now c.in_ok-copy.copy
    c.offer.new.self c.args.offer c.in-Ok.answer c.requires.trial c.in_ok-copy.ensures c.in-Ok.ensures.ok
    c.in_default.not-Committed
