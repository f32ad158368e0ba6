-- What reading the rest of an open group means, at any depth.
use Rattle.std.specs.Prelude.{◌≡◌, ◌+◌, ◌-◌, ◌≤◌, ℕ, List, [], ◌∷◌, ◌++◌, Option, Some, Result, Ok, Err, length, map}
use Rattle.std.specs.List.{flat_map, AllByRecursion}
use Rattle.dsn_tree.specs.declared.fault.TreeFault.{TreeFault}
use Rattle.dsn_tree.specs.declared.limits.TheConstants.{MOST_DEPTH}
use Rattle.dsn_tree.specs.declared.tree.Tree.{Tree}
use Rattle.dsn_tree.specs.Flat.{flat, depth, shown}
use Rattle.dsn_tree.specs.Verdict.{inside, verdict}
use Rattle.dsn_tree.specs.Trees.{Unless}
use Rattle.dsn_tokens.specs.Place.{Place}
use Rattle.dsn_tokens.specs.Spelling.{Takes, Reading}
use Rattle.dsn_tokens.specs.declared.token.Token.{Token}
use Rattle.dsn_tokens.specs.declared.token.Mark.TheVariants.{Right}
use Rattle.dsn_tokens.specs.declared.token.TokenFault.{TokenFault}

-- from p these tokens lead to q
abbrev pub Leads : Place → List Token → Place → Type 0
Leads p [] q = p ≡ q
Leads p (t ∷ ts) q = (m : Place) × Takes p t m × Leads m ts q

-- From p to q come the tokens of these trees, inside a group with room for so many deeper groups.
pub record AreItems (p : Place) (room : ℕ) (items : List Tree) (q : Place) : Type 0 where
  pub ts : List Token
  pub leads : Leads p ts q
  pub shows : map shown ts ≡ flat_map flat items
  pub deep : AllByRecursion (λ t. depth t ≤ room) items
  pub shorter : length q.rest ≤ length p.rest

-- The same with the closing bracket.
pub record IsRest (p : Place) (room : ℕ) (items : List Tree) (q : Place) : Type 0 where
  pub ts : List Token
  pub leads : Leads p ts q
  pub shows : map shown ts ≡ flat_map flat items ++ record { at = 0; mark = Right } ∷ []
  pub deep : AllByRecursion (λ t. depth t ≤ room) items
  pub shorter : length q.rest ≤ length p.rest

-- The rest of the text, read inside the group that is open at this offset, has this fault.
pub record FaultInside (p : Place) (at room : ℕ) (f : TreeFault) : Type 0 where
  pub ts : List Token
  pub end : Option TokenFault
  pub reading : Reading p ts end
  pub first : (outer : List ℕ) → length outer + room ≡ MOST_DEPTH - 1 → verdict (inside at outer) ts end ≡ Some f

-- What reading the rest of the group answers.
abbrev pub ReadsGroup : Place → ℕ → ℕ → Result (List Tree) TreeFault → Place → Type 0
ReadsGroup p at room (Ok items) q = IsRest p room items q
ReadsGroup p at room (Err f) q = Unless f (FaultInside p at room f)
