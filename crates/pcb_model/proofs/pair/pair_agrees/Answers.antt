use Rattle.std.proofs.Common.{sym, ◌∙◌, true≢false}
use Rattle.pcb_model.proofs.pair.pair_agrees.Goals as goal

pub returns-then-keeps : goal.returns-then-keeps
returns-then-keeps c = (
  λ t. record { keep = c.keeps.ensures.0 c.if-keeps.true; stay_off = c.stays_off.ensures.0 t },
  λ h. c.stays_off.ensures.1 h.stay_off,
)

pub returns-else-keeps : goal.returns-else-keeps
returns-else-keeps c = (
  λ t. absurd (true≢false (sym t ∙ c.if-keeps.false)),
  λ h. c.keeps.ensures.1 h.keep,
)
