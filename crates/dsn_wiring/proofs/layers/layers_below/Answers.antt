use Rattle.std.proofs.Common.{◌∙◌, sym}
use Rattle.dsn_wiring.proofs.Below.{kept, left}
use Rattle.dsn_wiring.proofs.layers.layers_below.Goals as goal
use Rattle.dsn_wiring.proofs.layers.layers_below.Goals.{then-has_layer+in_ok-push, else-has_layer}

pub loop-i-preserved : goal.loop-i-preserved
loop-i-preserved c =
    elim c.if-has_layer.branch [
      | then-has_layer+in_ok-push w ↦
          kept c.loop-i.found c.if-has_layer.found c.args.layers c.loop-i.i c.loop-i.invariant
          (sym c.has_layer.ensures ∙ w.if-has_layer.true) (cc (w.in_ok-push.ensures.ok))
      | else-has_layer w ↦
          left c.loop-i.found c.if-has_layer.found c.args.layers c.loop-i.i c.loop-i.invariant
          (sym c.has_layer.ensures ∙ w.if-has_layer.false) w.found-is
    ]
