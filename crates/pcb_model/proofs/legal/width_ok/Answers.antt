use Rattle.std.proofs.Common.{IsTrue, ◌↔◌, sym, ◌∙◌, subst, true≢false}
use Rattle.pcb_model.specs.declared.item.Metal.{Metal}
use Rattle.pcb_model.specs.Board.{IsMetalLaid}
use Rattle.pcb_model.proofs.legal.width_ok.Goals as goal

pub returns-then-is_signal : goal.returns-then-is_signal
returns-then-is_signal c =
    subst (λ (m : Metal). IsTrue c.is_wide_enough.result ↔ IsMetalLaid c.args.d.now c.args.a.now.net m)
    (sym c.in-Wire.is) (
      λ t. (c.is_signal.ensures.0 c.if-is_signal.true, c.is_wide_enough.ensures.0 t),
      λ h. c.is_wide_enough.ensures.1 h.1,
    )

pub returns-else-is_signal : goal.returns-else-is_signal
returns-else-is_signal c =
    subst (λ (m : Metal). IsTrue c.is_signal.result ↔ IsMetalLaid c.args.d.now c.args.a.now.net m) (sym c.in-Wire.is) (
      λ t. absurd (true≢false (sym t ∙ c.if-is_signal.false)),
      λ h. c.is_signal.ensures.1 h.0,
    )

pub returns-in-Via : goal.returns-in-Via
returns-in-Via c =
    subst (λ (m : Metal). IsTrue c.is_listed_for.result ↔ IsMetalLaid c.args.d.now c.args.a.now.net m)
    (sym c.in-Via.is) c.is_listed_for.ensures
