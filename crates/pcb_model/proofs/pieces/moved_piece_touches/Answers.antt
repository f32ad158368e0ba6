use Rattle.std.proofs.lemmas.Bool.{eqb-true}
use Rattle.pcb_model.proofs.pieces.moved_piece_touches.Goals as goal

pub returns-then-p-r : goal.returns-then-p-r
returns-then-p-r c = (
  λ t. record { one_layer = c.if-p-r.true; touch = c.spine_touch_moved.ensures.0 t },
  λ h. c.spine_touch_moved.ensures.1 h.touch,
)

pub returns-else-p-r : goal.returns-else-p-r
returns-else-p-r c = (λ t. absurd (c.if-p-r.false (eqb-true _ _ t)), λ h. absurd (c.if-p-r.false h.one_layer))
