use Rattle.std.proofs.Common.{◌∙◌, ap, ℕ}
use Rattle.std.specs.Option.{option_map_or}
use Rattle.dsn_units.specs.declared.length.Scale.{Scale}
use Rattle.dsn_structure.specs.Header.{first_of, resolution_count, resolution_unit, scale_of, unit_in}
use Rattle.dsn_structure.proofs.header.read_resolution.Goals as goal

pub returns-clause-noted : goal.returns-clause-noted
returns-clause-noted c = cc (c.refuse_scale.ensures, c.in_ok-resolutions.ensures, c.in_ok-units.ensures)

pub returns-clause-unit : goal.returns-clause-unit
unfolding resolution_unit
returns-clause-unit c = c.unit_or-unit.ensures ∙ ap resolution_unit c.in_ok-resolutions.ensures

pub returns-clause-per : goal.returns-clause-per
returns-clause-per c = c.per_of.ensures ∙ ap resolution_count c.in_ok-resolutions.ensures

abbrev made : ℕ → Scale
made nm = record { nm = nm }

pub returns-clause-scale : goal.returns-clause-scale
unfolding resolution_unit scale_of
returns-clause-scale c =
    let unit = c.unit_or-unit.ensures ∙ ap resolution_unit c.in_ok-resolutions.ensures in
    let both = c.unit_or.ensures ∙ ap (λ ts. option_map_or unit_in (first_of ts) c.unit_or-unit.result)
    c.in_ok-units.ensures in
    ap made (rw (both, unit) at c.of.ensures)
