use Rattle.std.proofs.Common.{◌≡◌, ℕ, max, arith, ap, ◌∙◌}
use Rattle.pcb_model.specs.Rules.{value_of, first_present, levels, pair_rules}
use Rattle.pcb_model.proofs.Joint.{clearance_is}
use Rattle.pcb_model.proofs.rules.clearance_from.Goals as goal

pub returns : goal.returns
returns c =
    let d = c.args.d.now in
    let greater : c.max.result
    ≡ max (value_of d c.args.a c.args.ka c.args.kb) (value_of d c.args.b c.args.ka c.args.kb) =
    omega (arith, c.max.ensures, c.value.ensures, c.requires) in
    c.between.ensures
    ∙ (ap (λ (v : ℕ). first_present v (levels c.args.ka c.args.kb (pair_rules d c.args.a c.args.b))) greater
    ∙ clearance_is d c.args.a c.args.ka c.args.b c.args.kb)
