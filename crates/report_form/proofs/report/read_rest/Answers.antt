use Rattle.report_form.proofs.Loops.{page_of}
use Rattle.report_form.proofs.report.read_rest.Goals as goal

pub returns-in-Ok : goal.returns-in-Ok
returns-in-Ok c = λ p h e f at.
    let joins = c.in-Ok.ensures p h (page_of p c.args.d.now c.args.firsts.now e f c.requires.same) at in
    c.read_nets.ensures p joins.told e f joins.at

pub returns-in-Err : goal.returns-in-Err
returns-in-Err c = λ p h e f at. c.in-Err.ensures p h (page_of p c.args.d.now c.args.firsts.now e f c.requires.same) at
