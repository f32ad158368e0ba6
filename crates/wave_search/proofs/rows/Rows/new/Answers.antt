use Rattle.std.proofs.Common.{length, ap, arith, ◌≡◌, sym, subst, List, None}
use Rattle.std.proofs.lemmas.List.{length-map, length-replicate}
use Rattle.wave_search.specs.inner.Rows.{row_label, labels_of}
use Rattle.wave_search.specs.declared.rows.Row.{Row}
use Rattle.wave_search.specs.inner.State.{label_at}
use Rattle.wave_search.proofs.Kept.{blank}
use Rattle.wave_search.proofs.rows.Rows.new.Goals as goal

pub returns-clause-none : goal.returns-clause-none
returns-clause-none c = λ v. subst (λ (rows : List Row). label_at (labels_of rows) v ≡ None)
    (sym (c.in_ok-rows.ensures.items_if_clones_equal (λ _ h. h)))
    (blank c.args.count v c.blank_row.result c.blank_row.ensures)

pub returns-clause-size : goal.returns-clause-size
returns-clause-size c = omega (
  arith,
  length-map c.in_ok-rows.rows.items row_label,
  ap (λ (rows : List Row). length rows) (c.in_ok-rows.ensures.items_if_clones_equal (λ _ h. h)),
  length-replicate c.args.count c.blank_row.result,
)
