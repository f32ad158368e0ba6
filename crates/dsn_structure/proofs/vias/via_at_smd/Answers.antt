use Rattle.std.proofs.Common.{◌∙◌, ◌∷◌, [], ap}
use Rattle.std.specs.Prelude.{codes}
use Rattle.dsn_shapes.specs.Lists.{lists}
use Rattle.dsn_structure.specs.Layout.{any_says, via_at_smd}
use Rattle.dsn_structure.proofs.vias.via_at_smd.Goals as goal

pub returns : goal.returns
unfolding via_at_smd
returns c =
    c.any_says.ensures
    ∙ ap (any_says (codes "on"))
    (c.as_slice.ensures ∙ c.in_ok-switches.ensures ∙ ap (lists (codes "via_at_smd" ∷ [])) c.in_ok-ctrls.ensures)
