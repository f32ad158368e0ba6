use Rattle.std.proofs.Common.{ap, ◌∙◌}
use Rattle.std.proofs.lemmas.List.{take_all}
use Rattle.pcb_model.specs.declared.design.ClassPair.{ClassPair}
use Rattle.pcb_model.specs.declared.design.RuleSet.{RuleSet}
use Rattle.pcb_model.proofs.Lookups.{copied_more}
use Rattle.dsn_design.proofs.nets.pairs_of.Goals as goal

pub loop-pair-preserved : goal.loop-pair-preserved
loop-pair-preserved c =
    let p = c.pair-item.result in
    let y : RuleSet → ClassPair = λ r. record { a = p.a; b = p.b; rules = r } in
    c.in_ok-push.ensures.ok
    ∙ copied_more c.args.pairs.now c.loop-pair.pair-index p c.loop-pair.all (y c.in_ok-rules.rules)
    c.loop-pair-test.true c.pair-item.is c.loop-pair.invariant (ap y c.in_ok-rules.ensures)

pub returns : goal.returns
returns c = c.loop-pair.invariant ∙ take_all c.loop-pair.pair-index c.args.pairs.now c.loop-pair-test.false
