use Rattle.std.proofs.Common.{◌∙◌, ◌∷◌, [], ap}
use Rattle.std.specs.Prelude.{codes}
use Rattle.dsn_shapes.specs.Lists.{lists}
use Rattle.dsn_structure.specs.Layout.{any_says, flip_last}
use Rattle.dsn_structure.proofs.vias.flip_last.Goals as goal

pub returns : goal.returns
unfolding flip_last
returns c =
    c.any_says.ensures
    ∙ ap (any_says (codes "rotate_first"))
    (c.as_slice.ensures ∙ c.in_ok-styles.ensures ∙ ap (lists (codes "flip_style" ∷ []))
    (c.in_ok-place_controls.ensures ∙ ap (lists (codes "place_control" ∷ []))
    (c.in_ok-sections.ensures ∙ ap (lists (codes "structure" ∷ codes "placement" ∷ [])) c.in_ok-one.ensures)))
