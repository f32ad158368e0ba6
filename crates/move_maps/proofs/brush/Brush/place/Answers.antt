use Rattle.std.proofs.Common.{◌+◌, ◌*◌, ◌∙◌, ap}
use Rattle.move_maps.specs.Paint.{BrushOf, arity_of}
use Rattle.move_maps.proofs.brush.Brush.place.Goals as goal

pub returns : goal.returns
returns c =
    ap (λ n. c.args.node * n + c.args.i) (c.self.invariant.1 ∙ ap (λ (s : BrushOf). arity_of s) c.self.view_is)
