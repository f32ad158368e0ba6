-- The refusals that there can be: their numbers, and what the limits count.
use Rattle.std.specs.Prelude.{◌≡◌, ◌≢◌, ◌≤◌, ◌↔◌}
use Rattle.dsn_shapes.specs.declared.refusal.Refusal.{Refusal}
use Rattle.dsn_shapes.specs.declared.refusal.What.TheVariants.{Nothing}
use Rattle.dsn_shapes.specs.declared.table.TheConstants.{NO_BOARD, PAST_LIMIT, BAD_PAIR}
use Rattle.dsn_shapes.specs.Limits.{most_of}

-- the numbers of a tree's sections are 7 to 26; number 23 alone counts something, and its limit is that of what it
-- counts
pub record IsTabled (r : Refusal) : Type 0 where
  pub from : NO_BOARD ≤ r.number
  pub to : r.number ≤ BAD_PAIR
  pub counts : (r.number ≡ PAST_LIMIT) ↔ (r.what ≢ Nothing)
  pub limit : r.limit ≡ most_of r.what
