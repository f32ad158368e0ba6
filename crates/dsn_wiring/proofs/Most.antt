-- A count that ends at 2^64 - 1 leaves as many items as the count itself.
use Rattle.std.proofs.Common.{◌≡◌, ◌-◌, refl, ℕ, List, arith}
use Rattle.pcb_model.specs.declared.limits.TheConstants.{MOST_ITEMS}
use Rattle.dsn_tree.specs.declared.tree.Tree.{Tree}
use Rattle.dsn_shapes.specs.Lists.{capped}
use Rattle.dsn_shapes.specs.declared.refusal.What.TheVariants.{Items}
use Rattle.dsn_shapes.specs.Limits.{too_many}

left : (n : ℕ) → MOST_ITEMS - capped n ≡ MOST_ITEMS - n
left n = omega arith

pub too_many-capped : (n : ℕ) (ts : List Tree) → too_many Items (capped n) ts ≡ too_many Items n ts
too_many-capped n ts = rw (left n) refl
