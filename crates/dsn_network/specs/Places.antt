-- What a map keeps of the class lists of each name.
use Rattle.std.specs.Prelude.{ℕ, List, [], unwrap_or}
use Rattle.std.specs.Borrow.{Bor}
use Rattle.std.specs.BTreeMap.{BTreeMap, get_by}
use Rattle.std.specs.Cmp.Lexicographic.{slice_cmp}
use Rattle.std.specs.Ordering.{nat_cmp}

-- the places of those of a name
abbrev pub places_by : BTreeMap (Bor (List ℕ)) (List ℕ) → List ℕ → List ℕ
places_by map name = unwrap_or (get_by (λ k. slice_cmp nat_cmp name k.now) map) []
