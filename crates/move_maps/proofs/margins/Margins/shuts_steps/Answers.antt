use Rattle.std.proofs.Common.{[], ◌∷◌}
use Rattle.std.proofs.lemmas.Bool.{OnTrue_from}
use Rattle.std.specs.Prelude.{not}
use Rattle.move_maps.specs.Clear.{WireKeeps}
use Rattle.move_maps.specs.Margins.{ShutsSteps}
use Rattle.move_maps.proofs.Fences.{shut_from}
use Rattle.move_maps.proofs.Painting.{not_clear, not_true}
use Rattle.move_maps.proofs.margins.Margins.shuts_steps.Goals as goal

pub returns : goal.returns
returns c =
    let s = c.args.self.now in
    let r = c.wire_keeps.result in
    OnTrue_from (not r) (ShutsSteps s.wires c.args.layer s.width c.args.at c.args.item.now) (λ e.
    shut_from s.wires c.args.layer s.width c.args.at c.args.item.now
    (not_clear r (WireKeeps s.wires c.args.layer s.width (c.args.at ∷ []) c.args.item.now) c.wire_keeps.ensures
    (not_true r e)))
