use Rattle.std.proofs.Common.{◌∙◌}
use Rattle.pcb_model.proofs.Lookups.{got, got_none, net_there, net_not_there}
use Rattle.pcb_model.proofs.rules.in_net.Goals as goal

pub returns-in-Some-get : goal.returns-in-Some-get
returns-in-Some-get c =
    let look = c.in-Some-get.ensures.lookup in
    let at = got c.as_slice.result.now c.args.d.now.nets c.in-Some.i c.in-Some-get.n.now c.as_slice.ensures look.1
    look.3.0 in
    c.in_rules.ensures
    ∙ net_there c.args.d.now c.args.ka c.args.kb c.args.rest c.args.net c.in-Some.i
    c.in-Some-get.n.now c.in_class.result c.in-Some.is at
    c.in_class.ensures

pub returns-in-None-get : goal.returns-in-None-get
returns-in-None-get c =
    let at = got_none c.as_slice.result.now c.args.d.now.nets c.in-Some.i c.as_slice.ensures
    c.in-None-get.ensures.lookup.3 in
    net_not_there c.args.d.now c.args.ka c.args.kb c.args.rest c.args.net c.in-Some.i c.in-Some.is at
