use Rattle.std.proofs.Common.{◌∙◌}
use Rattle.dsn_shapes.proofs.Looped.{mapped_more}
use Rattle.dsn_design.specs.Nets.{class_rules}
use Rattle.dsn_design.proofs.nets.classes_of.Goals as goal

pub loop-class-preserved : goal.loop-class-preserved
loop-class-preserved c =
    c.in_ok-push.ensures.ok
    ∙ mapped_more class_rules c.args.classes.now c.loop-class.class-index c.class-item.result c.loop-class.rules
    c.in_ok-copy_rules.field-0 c.loop-class-test.true c.class-item.is c.loop-class.invariant
    (c.in_ok-copy_rules.ensures {u = tt})
