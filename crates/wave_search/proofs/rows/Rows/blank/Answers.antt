use Rattle.std.proofs.Common.{◌≡◌, subst, List, Option}
use Rattle.std.proofs.Math.ListN.{set}
use Rattle.wave_search.specs.declared.rows.Label.{Label}
use Rattle.wave_search.specs.inner.Rows.{labels_of}
use Rattle.wave_search.specs.inner.State.{label_at}
use Rattle.wave_search.proofs.Spared.{set_size}
use Rattle.wave_search.proofs.Kept.{none_here, none_other, in_rows}
use Rattle.wave_search.proofs.rows.Rows.blank.Goals as goal

pub returns-clause-here : goal.returns-clause-here
returns-clause-here c =
    none_here c.self.inside.rows.items c.args.v c.blank_row.result (in_rows _ _ c.args.v c.self.view_is c.requires)
    c.blank_row.ensures

pub returns-clause-others : goal.returns-clause-others
returns-clause-others c = λ u apart.
    let now = labels_of (set c.self.inside.rows.items c.args.v c.blank_row.result) in
    subst (λ (t : List (Option Label)). label_at now u ≡ label_at t u) c.self.view_is
    (none_other c.self.inside.rows.items c.args.v u c.blank_row.result apart c.blank_row.ensures)

pub returns-clause-size : goal.returns-clause-size
returns-clause-size c = set_size c.self.inside.rows.items _ c.args.v c.blank_row.result c.self.view_is
