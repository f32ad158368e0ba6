use Rattle.std.proofs.Common.{◌∙◌}
use Rattle.pcb_model.proofs.Lookups.{got, got_none, net_width_there, net_width_not_there}
use Rattle.pcb_model.proofs.rules.width_of.Goals as goal

pub returns-in-Some : goal.returns-in-Some
returns-in-Some c =
    let look = c.in-Some.ensures.lookup in
    let at = got c.as_slice.result.now c.args.d.now.nets c.args.net c.in-Some.n.now c.as_slice.ensures look.1
    look.3.0 in
    c.unwrap_or.ensures
    ∙ net_width_there c.args.d.now c.args.net c.unwrap_or-structure.result c.width_in_class.result c.in-Some.n.now at
    c.unwrap_or-structure.ensures c.width_in_class.ensures

pub returns-in-None : goal.returns-in-None
returns-in-None c =
    let at = got_none c.as_slice.result.now c.args.d.now.nets c.args.net c.as_slice.ensures
    c.in-None.ensures.lookup.3 in
    net_width_not_there c.args.d.now c.args.net c.unwrap_or-structure.result at c.unwrap_or-structure.ensures
