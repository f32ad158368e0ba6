use Rattle.std.proofs.Common.{Bool, true, false, None, sym, ap, ◌∙◌}
use Rattle.std.proofs.lemmas.List.{take_all}
use Rattle.pcb_model.specs.declared.item.Kind.TheVariants.{Wire}
use Rattle.pcb_model.specs.declared.design.Typed.{Typed}
use Rattle.pcb_model.specs.Rules.{names_pair, last_value}
use Rattle.pcb_model.proofs.Lookups.{last_more}
use Rattle.pcb_model.proofs.rules.last_exact.Goals.{then-is_exact, else-is_exact}
use Rattle.pcb_model.proofs.rules.last_exact.Goals as goal

pub loop-t-preserved : goal.loop-t-preserved
loop-t-preserved c =
    let test : Typed → Bool = λ t. names_pair c.args.ka c.args.kb t.a t.b in
    let first : Typed = record { a = Wire; b = None; value = 0 } in
    elim c.if-is_exact.branch [
      | then-is_exact w ↦ w.last-is
          ∙ sym (last_more test c.args.ts.now c.loop-t.t-index first true c.loop-t-test.true
          (sym c.is_exact.ensures ∙ w.if-is_exact.true))
      | else-is_exact w ↦ w.last-is
          ∙ (c.loop-t.invariant
          ∙ sym (last_more test c.args.ts.now c.loop-t.t-index first false c.loop-t-test.true
          (sym c.is_exact.ensures ∙ w.if-is_exact.false)))
    ]

pub returns : goal.returns
returns c =
    c.loop-t.invariant
    ∙ ap (last_value (λ t. names_pair c.args.ka c.args.kb t.a t.b)) (take_all c.loop-t.t-index c.args.ts.now
    c.loop-t-test.false)
