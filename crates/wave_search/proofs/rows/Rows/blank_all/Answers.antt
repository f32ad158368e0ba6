use Rattle.std.proofs.Common.{length, ap, arith, Option, ◌≡◌, sym, subst, List, None, vec_len}
use Rattle.std.proofs.lemmas.List.{length-map, length-replicate}
use Rattle.wave_search.specs.inner.Rows.{row_label, labels_of}
use Rattle.wave_search.specs.declared.rows.Label.{Label}
use Rattle.wave_search.specs.declared.rows.Row.{Row}
use Rattle.wave_search.specs.inner.State.{label_at}
use Rattle.wave_search.proofs.Kept.{blank}
use Rattle.wave_search.proofs.rows.Rows.blank_all.Goals as goal

pub returns-clause-none : goal.returns-clause-none
returns-clause-none c = λ v. subst (λ (rows : List Row). label_at (labels_of rows) v ≡ None)
    (sym (c.fill.ensures.items (λ _ h. h)))
    (blank (vec_len c.self.inside.rows) v c.blank_row.result c.blank_row.ensures)

pub returns-clause-size : goal.returns-clause-size
returns-clause-size c = omega (
  arith,
  length-map c.fill.new.self.items row_label,
  length-map c.self.inside.rows.items row_label,
  ap (λ (ls : List (Option Label)). length ls) c.self.view_is,
  ap (λ (rows : List Row). length rows) (c.fill.ensures.items (λ _ h. h)),
  length-replicate (vec_len c.self.inside.rows) c.blank_row.result,
  c.self.inside.rows.ok,
)
