use Rattle.std.proofs.Common.{◌≡◌, ◌∙◌, ap, sym, subst, List, Option}
use Rattle.wave_search.specs.declared.rows.Label.{Label}
use Rattle.wave_search.specs.inner.Rows.{row_label}
use Rattle.wave_search.specs.inner.State.{label_at}
use Rattle.wave_search.proofs.Kept.{read, in_rows}
use Rattle.wave_search.proofs.rows.Rows.get.Goals as goal

pub returns : goal.returns
returns c = subst (λ (t : List (Option Label)). c.label_of.result ≡ label_at t c.args.v) c.self.view_is
    (c.label_of.ensures ∙ ap row_label c.index.ensures
    ∙ sym (read c.self.inside.rows.items c.args.v c.index.result.now
    (in_rows _ _ c.args.v c.self.view_is c.requires)))
