use Rattle.std.proofs.Common.{ap, sym, ◌∙◌}
use Rattle.dsn_units.specs.Turn.{quarters}
use Rattle.dsn_units.proofs.Turns.{no_arc}
use Rattle.dsn_units.proofs.turn.rotate.Goals as goal

pub returns-then-turn-eq0-clause-value : goal.returns-then-turn-eq0-clause-value
returns-then-turn-eq0-clause-value c =
    c.quarters.ensures.value ∙ ap (λ m. quarters m c.args.p) c.parts-turn.ensures.quarters
    ∙ sym (no_arc c.args.a c.args.p (sym c.parts-turn.ensures.arc ∙ c.if-turn-eq0.true))
