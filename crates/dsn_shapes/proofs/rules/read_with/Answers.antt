use Rattle.std.proofs.Common.{◌≡◌, ◌∙◌, ap, ℕ, List, Option}
use Rattle.dsn_tree.specs.declared.tree.Tree.{Tree}
use Rattle.dsn_shapes.specs.declared.refusal.Refusal.{Refusal}
use Rattle.dsn_shapes.specs.Lists.{capped}
use Rattle.dsn_shapes.specs.Refusals.{noted}
use Rattle.dsn_shapes.specs.Rules.{clearances_in, notes_with, refusals_with, rules_left_out, set_of, set_refusals}
use Rattle.dsn_shapes.proofs.Looped.{headed_by, then_noted}
use Rattle.dsn_shapes.proofs.rules.read_with.Goals as goal

-- the refusals of what is left out, and after them those of the set
rules_noted : (nm : ℕ) (rules ws cs : List Tree) (first now new : Option Refusal)
    → cs ≡ clearances_in rules → now ≡ noted first (rules_left_out rules cs)
    → new ≡ noted now (set_refusals nm ws cs) → new ≡ noted first (refusals_with nm rules ws)
rules_noted nm rules ws cs first now new f p q =
    then_noted first now new (rules_left_out rules (clearances_in rules)) (set_refusals nm ws (clearances_in rules))
    (p ∙ ap (λ c. noted first (rules_left_out rules c)) f) (q ∙ ap (λ c. noted now (set_refusals nm ws c)) f)

pub returns-in-Ok-clause-noted : goal.returns-in-Ok-clause-noted
returns-in-Ok-clause-noted c =
    rules_noted c.args.s.nm c.args.rules.now c.args.widths.now c.in_ok-clearances.clearances c.args.first.now
    c.pass_over_rules-notes.new.first c.read_set.new.first
    (headed_by _ c.as_slice.result.now c.args.rules.now c.in_ok-clearances.clearances c.in_ok-clearances.ensures
    c.as_slice.ensures) c.pass_over_rules-notes.ensures.noted c.in-Ok.ensures.noted

pub returns-in-Ok-clause-set : goal.returns-in-Ok-clause-set
returns-in-Ok-clause-set c =
    c.in-Ok.ensures.value
    ∙ ap (set_of c.args.s.nm c.args.widths.now)
    (headed_by _ c.as_slice.result.now c.args.rules.now c.in_ok-clearances.clearances c.in_ok-clearances.ensures
    c.as_slice.ensures)

pub returns-in-Ok-clause-notes : goal.returns-in-Ok-clause-notes
returns-in-Ok-clause-notes c =
    c.pass_over_rules-notes.ensures.value
    ∙ ap (λ cs. capped (notes_with c.args.rules.now cs))
    (headed_by _ c.as_slice.result.now c.args.rules.now c.in_ok-clearances.clearances c.in_ok-clearances.ensures
    c.as_slice.ensures)
