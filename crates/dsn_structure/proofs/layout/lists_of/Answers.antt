use Rattle.std.proofs.Common.{◌∙◌, ap, ℕ, List}
use Rattle.dsn_shapes.specs.Lists.{lists}
use Rattle.dsn_structure.specs.Layout.{boundaries, keepouts, rule_lists}
use Rattle.dsn_structure.proofs.layout.lists_of.Goals as goal

pub returns-clause-structs : goal.returns-clause-structs
returns-clause-structs c = c.in_ok-structs.ensures

pub returns-clause-bounds : goal.returns-clause-bounds
returns-clause-bounds c = c.in_ok-bounds.ensures ∙ ap boundaries c.in_ok-structs.ensures

pub returns-clause-bans : goal.returns-clause-bans
returns-clause-bans c =
    c.in_ok-bans.ensures ∙ ap (λ (heads : List (List ℕ)). lists heads c.in_ok-structs.structs) c.keepout_heads.ensures
    ∙ ap keepouts c.in_ok-structs.ensures

pub returns-clause-rules : goal.returns-clause-rules
returns-clause-rules c = c.in_ok-rules.ensures ∙ ap rule_lists c.in_ok-structs.ensures
