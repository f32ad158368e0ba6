use Rattle.route_lattice.proofs.anchor.holds.Goals as goal

pub returns-then-piece-layer : goal.returns-then-piece-layer
returns-then-piece-layer c = (
  λ t. record { on_layer = c.if-piece-layer.true; covers = c.covers.ensures.0 t },
  λ h. c.covers.ensures.1 h.covers,
)
