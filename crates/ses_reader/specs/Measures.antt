-- Lengths of a session, whose numbers count units of its resolution.
use Rattle.std.specs.Prelude.{◌*◌, ◌^◌, ◌||◌, ◌≡◌, ◌<◌, nat_le, nat_lt, unsigned_abs, ℕ, ℤ, Bool, List, [], ◌∷◌, ◌++◌}
use Rattle.std.specs.Prelude.{Option, Some, None, is_some, codes, unwrap_or, if◌then◌else◌}
use Rattle.std.specs.Int.{div_ceil}
use Rattle.std.specs.Option.{option_map_or}
use Rattle.geo_kernel.specs.declared.unit.Unit.TheVariants.{Um}
use Rattle.geo_kernel.specs.Units.{unit_nm}
use Rattle.dsn_tree.specs.declared.tree.Tree.{Tree}
use Rattle.dsn_tree.specs.Heads.{child}
use Rattle.dsn_units.specs.declared.number.Decimal.{Decimal}
use Rattle.dsn_units.specs.Length.{top, bottom, signed, nearest, is_below_zero}
use Rattle.dsn_units.specs.Reading.{decimal_of}
use Rattle.dsn_shapes.specs.declared.refusal.Refusal.{Refusal}
use Rattle.dsn_shapes.specs.Refusals.{refused}
use Rattle.dsn_shapes.specs.Lists.{at_of, name_of, nth_word, place_of, text_of}
use Rattle.dsn_shapes.specs.Numbers.{number_by}
use Rattle.dsn_structure.specs.Header.{unit_of, unit_in, count_of}
use Rattle.ses_reader.specs.declared.measure.Measure.{Measure}
use Rattle.ses_reader.specs.declared.table.TheConstants.{NO_MEASURE, NO_SESSION}

-- ---- a decimal in nm
-- it is top_in / bottom_in, with its sign
abbrev pub top_in : Measure → Decimal → ℕ
top_in m d = top d (unit_nm m.unit)

-- `per` of its units are one unit
abbrev pub bottom_in : Measure → Decimal → ℕ
bottom_in m d = bottom d * m.per

-- to the nearest whole number
abbrev pub rounded : Measure → Decimal → ℤ
rounded m d = nearest (signed d.negative (top_in m d)) (bottom_in m d)

-- as a coordinate, of absolute value at most 2 ^ 29
unfoldable pub coord_of : Measure → Decimal → Option ℤ
coord_of m d = if nat_le (unsigned_abs (rounded m d)) (2 ^ 29) then Some (rounded m d) else None

-- rounded up
abbrev pub raised_up : Measure → Decimal → ℕ
raised_up m d = div_ceil (top_in m d) (bottom_in m d)

-- as a width, from 0 to 2 ^ 28
unfoldable pub extent_of : Measure → Decimal → Option ℕ
extent_of m d = if is_below_zero d || nat_lt (2 ^ 28) (raised_up m d) then None else Some (raised_up m d)

-- a fraction that is rounded as the decimal is
pub record IsFractionOf (m : Measure) (d : Decimal) (above below : ℕ) : Type 0 where
  pub some : 0 < below
  pub few_above : above < 2 ^ 90
  pub few_below : below < 2 ^ 124
  pub nearest_is : (negative : Bool) → nearest (signed negative above) below
      ≡ nearest (signed negative (top_in m d)) (bottom_in m d)
  pub ceil_is : div_ceil above below ≡ raised_up m d

-- the decimal lies beyond all lengths
pub record IsFar (m : Measure) (d : Decimal) : Type 0 where
  pub beyond : 2 ^ 30 * bottom_in m d < top_in m d

-- ---- words as lengths; one that isn't there is no number
-- a word as a coordinate
abbrev pub word_coord : Measure → Tree → Option ℤ
word_coord m w = number_by (coord_of m) (decimal_of (text_of w))

-- a word as a width
abbrev pub word_extent : Measure → Tree → Option ℕ
word_extent m w = number_by (extent_of m) (decimal_of (text_of w))

-- word i as a coordinate
abbrev pub coord_at : Measure → Tree → ℕ → Option ℤ
coord_at m t i = option_map_or (word_coord m) (nth_word t i) None

-- word i as a width
abbrev pub extent_at : Measure → Tree → ℕ → Option ℕ
extent_at m t i = option_map_or (word_extent m) (nth_word t i) None

-- ---- refusals
-- a refusal where something doesn't hold
abbrev pub refused_unless : Bool → ℕ → ℕ → List Refusal
refused_unless holds number at = if holds then [] else refused number at ∷ []

-- a word that is wanted as a coordinate
abbrev pub word_refusal : Measure → Tree → List Refusal
word_refusal m w = refused_unless (is_some (word_coord m w)) NO_MEASURE (at_of w)

-- the same of word i
abbrev pub coord_refusal : Measure → Tree → ℕ → List Refusal
coord_refusal m t i = refused_unless (is_some (coord_at m t i)) NO_MEASURE (place_of t i)

-- word i is wanted as a width
abbrev pub extent_refusal : Measure → Tree → ℕ → List Refusal
extent_refusal m t i = refused_unless (is_some (extent_at m t i)) NO_MEASURE (place_of t i)

-- ---- the first resolution of the routes, such as `(resolution um 10)`
-- a part that is refused stands for `um` or 1
abbrev pub measure_by : Tree → Measure
measure_by t = record { unit = unit_in t; per = unwrap_or (count_of t) 1 }

-- what stands for a resolution that is missing
abbrev pub plain_measure : Measure
plain_measure = record { unit = Um; per = 1 }

-- the unit of the numbers of these routes
unfoldable pub measure_in : Tree → Measure
measure_in routes = option_map_or measure_by (child routes (codes "resolution")) plain_measure

-- its unit and its count, which are words 1 and 2
abbrev pub resolution_refusal : Tree → List Refusal
resolution_refusal t = refused_unless (is_some (unit_of (name_of t 1))) NO_MEASURE (place_of t 1)
    ++ refused_unless (is_some (count_of t)) NO_MEASURE (place_of t 2)

-- routes want a resolution
unfoldable pub resolution_refusals : Tree → List Refusal
resolution_refusals routes = option_map_or resolution_refusal (child routes (codes "resolution"))
    (refused NO_SESSION (at_of routes) ∷ [])
