use Rattle.closing_pass.proofs.Joining.{is_made}
use Rattle.closing_pass.proofs.join.Closer.take.Goals as goal

pub returns-in-Ok-clause-ok : goal.returns-in-Ok-clause-ok
returns-in-Ok-clause-ok c = is_made c.args.board.now c.args.offer c.in-Ok.field-0 c.offer.new.self c.requires.may
    c.requires.worker_is c.in-Ok.ensures.ok
