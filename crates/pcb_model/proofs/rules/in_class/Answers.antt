use Rattle.std.proofs.Common.{◌∙◌}
use Rattle.pcb_model.proofs.Lookups.{got, got_none, class_there, class_not_there}
use Rattle.pcb_model.proofs.rules.in_class.Goals as goal

pub returns-in-Some-get : goal.returns-in-Some-get
returns-in-Some-get c =
    let look = c.in-Some-get.ensures.lookup in
    let at = got c.as_slice.result.now c.args.d.now.classes c.in-Some.c c.in-Some-get.rs.now c.as_slice.ensures look.1
    look.3.0 in
    c.in_rules.ensures
    ∙ class_there c.args.d.now c.args.ka c.args.kb c.args.rest c.args.class c.in-Some.c
    c.in-Some-get.rs.now c.in-Some.is at

pub returns-in-None-get : goal.returns-in-None-get
returns-in-None-get c =
    let at = got_none c.as_slice.result.now c.args.d.now.classes c.in-Some.c c.as_slice.ensures
    c.in-None-get.ensures.lookup.3 in
    class_not_there c.args.d.now c.args.ka c.args.kb c.args.rest c.args.class c.in-Some.c c.in-Some.is at
