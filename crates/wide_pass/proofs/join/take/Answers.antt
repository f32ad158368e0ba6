use Rattle.closing_pass.proofs.Joining.{is_made}
use Rattle.wide_pass.proofs.join.take.Goals as goal

pub returns-in-Ok-clause-ok : goal.returns-in-Ok-clause-ok
returns-in-Ok-clause-ok c = is_made c.args.board.now c.args.offer c.in-Ok.field-0 c.offer.new.self c.requires.may
    c.requires.worker c.in-Ok.ensures.ok
