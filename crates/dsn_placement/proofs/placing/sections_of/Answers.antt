use Rattle.std.proofs.Common.{◌∙◌, ap, [], ◌∷◌}
use Rattle.std.specs.Prelude.{codes}
use Rattle.dsn_shapes.specs.Lists.{lists}
use Rattle.dsn_placement.specs.Places.{places_in}
use Rattle.dsn_placement.proofs.placing.sections_of.Goals as goal

pub returns-clause-placements : goal.returns-clause-placements
returns-clause-placements c = c.in_ok-placements.ensures

pub returns-clause-components : goal.returns-clause-components
returns-clause-components c =
    c.in_ok-components.ensures ∙ ap (lists (codes "component" ∷ [])) c.in_ok-placements.ensures

pub returns-clause-places : goal.returns-clause-places
returns-clause-places c =
    c.in_ok-places.ensures
    ∙ ap places_in (c.in_ok-components.ensures ∙ ap (lists (codes "component" ∷ [])) c.in_ok-placements.ensures)
