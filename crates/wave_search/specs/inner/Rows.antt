-- How labels are kept, and which nodes have one.
use Rattle.std.specs.Prelude.{◌≡◌, ℕ, ◌<◌, ◌==◌, List, map, length, Option, Some, None, cond, Contains, Bool, false}
use Rattle.std.specs.Prelude.{All}
use Rattle.wave_search.specs.declared.rows.Label.{Label}
use Rattle.wave_search.specs.declared.rows.Row.{Row}
use Rattle.wave_search.specs.declared.rows.TheConstants.{NO_PRICE, NO_NODE}
use Rattle.wave_search.specs.inner.State.{label_at}

-- the node that an origin's number stands for
abbrev pub origin_of : ℕ → Option ℕ
origin_of o = cond (o == NO_NODE) None (Some o)

-- the label that a row stands for
abbrev pub row_label : Row → Option Label
row_label r =
    cond (r.price == NO_PRICE) None (Some (record { price = r.price; rank = r.rank; origin = origin_of r.origin }))

abbrev pub labels_of : List Row → List (Option Label)
labels_of rows = map row_label rows

-- the touched are nodes, and unless some aren't listed they are those that have a label
pub record AreTouched (labels : List (Option Label)) (unlisted : Bool) (touched : List ℕ) : Type 0 where
  pub nodes : All (λ v. v < length labels) touched
  pub covers : unlisted ≡ false → (v : ℕ) (l : Label) → label_at labels v ≡ Some l → Contains touched v
  pub labelled : unlisted ≡ false → (v : ℕ) → Contains touched v → (l : Label) × (label_at labels v ≡ Some l)
