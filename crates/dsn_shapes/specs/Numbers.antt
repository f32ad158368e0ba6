-- Numbers that are wanted in a list, with their refusals: 9 where there is none, 10 where it passes its limit.
use Rattle.std.specs.Prelude.{ℕ, ℤ, pos, List, [], ◌∷◌, Option, Some, None, unwrap_or}
use Rattle.std.specs.Option.{option_map_or}
use Rattle.dsn_tree.specs.declared.tree.Tree.{Tree}
use Rattle.dsn_units.specs.declared.number.Decimal.{Decimal}
use Rattle.dsn_units.specs.Reading.{decimal_of}
use Rattle.dsn_units.specs.Length.{coord_of, extent_of}
use Rattle.dsn_shapes.specs.declared.refusal.Refusal.{Refusal}
use Rattle.dsn_shapes.specs.Refusals.{refused}
use Rattle.dsn_shapes.specs.Lists.{at_of, text_of, nth_word}
use Rattle.dsn_shapes.specs.declared.table.TheConstants.{NO_NUMBER, OUT_OF_RANGE}

-- the number that a rule makes of a decimal, where there is one and it is within its limit
abbrev pub number_by : {V : Type 0} → (Decimal → Option V) → Option Decimal → Option V
number_by rule None = None
number_by rule (Some d) = rule d

abbrev pub limit_refusal : {V : Type 0} → ℕ → Option V → List Refusal
limit_refusal at None = refused OUT_OF_RANGE at ∷ []
limit_refusal at (Some v) = []

abbrev pub refusal_by : {V : Type 0} → (Decimal → Option V) → ℕ → Option Decimal → List Refusal
refusal_by rule at None = refused NO_NUMBER at ∷ []
refusal_by rule at (Some d) = limit_refusal at (rule d)

-- a word as a coordinate in nm, and as a width, diameter or clearance
abbrev pub word_coord : ℕ → Tree → Option ℤ
word_coord nm w = number_by (λ d. coord_of d nm) (decimal_of (text_of w))

abbrev pub word_coord_refusal : ℕ → Tree → List Refusal
word_coord_refusal nm w = refusal_by (λ d. coord_of d nm) (at_of w) (decimal_of (text_of w))

abbrev pub word_extent : ℕ → Tree → Option ℕ
word_extent nm w = number_by (λ d. extent_of d nm) (decimal_of (text_of w))

abbrev pub word_extent_refusal : ℕ → Tree → List Refusal
word_extent_refusal nm w = refusal_by (λ d. extent_of d nm) (at_of w) (decimal_of (text_of w))

-- the same of word i, which is wanted: one that isn't there is refused at the list. A number that is refused counts as
-- 0
abbrev pub coord_at : ℕ → Tree → ℕ → ℤ
coord_at nm t i = unwrap_or (option_map_or (word_coord nm) (nth_word t i) None) (pos 0)

abbrev pub coord_refusal : ℕ → Tree → ℕ → List Refusal
coord_refusal nm t i = option_map_or (word_coord_refusal nm) (nth_word t i) (refused NO_NUMBER (at_of t) ∷ [])

abbrev pub extent_at : ℕ → Tree → ℕ → ℕ
extent_at nm t i = unwrap_or (option_map_or (word_extent nm) (nth_word t i) None) 0

abbrev pub extent_refusal : ℕ → Tree → ℕ → List Refusal
extent_refusal nm t i = option_map_or (word_extent_refusal nm) (nth_word t i) (refused NO_NUMBER (at_of t) ∷ [])
