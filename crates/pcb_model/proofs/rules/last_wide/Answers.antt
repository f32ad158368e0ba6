use Rattle.std.proofs.Common.{Bool, true, false, None, sym, ap, ◌∙◌}
use Rattle.std.proofs.lemmas.List.{take_all}
use Rattle.pcb_model.specs.declared.item.Kind.TheVariants.{Wire}
use Rattle.pcb_model.specs.declared.design.Typed.{Typed}
use Rattle.pcb_model.specs.Rules.{names_one, last_value}
use Rattle.pcb_model.proofs.Lookups.{last_more}
use Rattle.pcb_model.proofs.rules.last_wide.Goals.{then-is_wide, else-is_wide}
use Rattle.pcb_model.proofs.rules.last_wide.Goals as goal

pub loop-t-preserved : goal.loop-t-preserved
loop-t-preserved c =
    let test : Typed → Bool = λ t. names_one c.args.ka c.args.kb t.a t.b in
    let first : Typed = record { a = Wire; b = None; value = 0 } in
    elim c.if-is_wide.branch [
      | then-is_wide w ↦ w.last-is
          ∙ sym (last_more test c.args.ts.now c.loop-t.t-index first true c.loop-t-test.true
          (sym c.is_wide.ensures ∙ w.if-is_wide.true))
      | else-is_wide w ↦ w.last-is
          ∙ (c.loop-t.invariant
          ∙ sym (last_more test c.args.ts.now c.loop-t.t-index first false c.loop-t-test.true
          (sym c.is_wide.ensures ∙ w.if-is_wide.false)))
    ]

pub returns : goal.returns
returns c =
    c.loop-t.invariant
    ∙ ap (last_value (λ t. names_one c.args.ka c.args.kb t.a t.b)) (take_all c.loop-t.t-index c.args.ts.now
    c.loop-t-test.false)
