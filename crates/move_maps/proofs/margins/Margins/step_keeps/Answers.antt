use Rattle.std.proofs.Common.{refl}
use Rattle.move_maps.proofs.margins.Margins.step_keeps.Goals as goal

pub returns-then-is_beyond : goal.returns-then-is_beyond
returns-then-is_beyond c =
    (λ t. c.requires.fence.far c.args.layer c.args.a c.args.b c.requires.fit c.if-is_beyond.ensures, λ k. refl)
