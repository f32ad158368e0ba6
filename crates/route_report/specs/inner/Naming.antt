-- What the private functions give: the ids that blocks name.
use Rattle.std.specs.Prelude.{◌≡◌, ◌==◌, ℕ, ◌<◌, Bool, List, AllPairs}
use Rattle.std.specs.List.{list_any}
use Rattle.pcb_model.specs.declared.item.Item.{Item}
use Rattle.cut_certificate.specs.declared.cut.Block.{Block}
use Rattle.route_report.specs.Report.{is_named}

abbrev pub has_id : ℕ → Item → Bool
has_id id a = id == a.id

abbrev pub holds : List ℕ → ℕ → Bool
holds ids id = list_any (λ x. x == id) ids

-- the item's id is one of these
abbrev pub is_among : List ℕ → Item → Bool
is_among ids a = holds ids a.id

-- these are the ids that the blocks name
pub record AreNamed (blocked : List Block) (ids : List ℕ) : Type 0 where
  pub named : (id : ℕ) → holds ids id ≡ is_named blocked id

abbrev pub AreAscending : List ℕ → Type 0
AreAscending ids = AllPairs (λ x y. x < y) ids

-- each once, and ascending
pub record AreNamedOnce (blocked : List Block) (ids : List ℕ) : Type 0 where
  pub named : AreNamed blocked ids
  pub once : AreAscending ids
