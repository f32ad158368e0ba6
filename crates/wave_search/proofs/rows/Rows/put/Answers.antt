use Rattle.std.proofs.Common.{subst, List, Option}
use Rattle.std.proofs.Math.ListN.{set}
use Rattle.wave_search.specs.declared.rows.Label.{Label}
use Rattle.wave_search.specs.inner.Rows.{labels_of}
use Rattle.wave_search.specs.inner.State.{IsPut}
use Rattle.wave_search.proofs.Kept.{row_put, in_rows}
use Rattle.wave_search.proofs.rows.Rows.put.Goals as goal

pub returns : goal.returns
returns c =
    let now = labels_of (set c.self.inside.rows.items c.args.v c.row_of.result) in
    subst (λ (t : List (Option Label)). IsPut t c.args.v c.args.label now) c.self.view_is
    (row_put c.self.inside.rows.items c.args.v c.row_of.result c.args.label
    (in_rows _ _ c.args.v c.self.view_is c.requires.node) c.row_of.ensures)
