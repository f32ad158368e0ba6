-- What is counted in some lists is at most a few times their weight: how many tokens they have together.
-- A count over the items of a tree is at most the tree's own tokens, so a sum over trees is at most theirs.
use Rattle.std.proofs.Common.{◌≡◌, ◌≤◌, ◌*◌, ap, ℕ, Bool, List, [], ◌∷◌, length, map}
use Rattle.std.proofs.Common.{arith}
use Rattle.std.specs.Prelude.{codes, count_by, not, sum_by}
use Rattle.std.proofs.lemmas.List.{length-map}
use Rattle.std.proofs.lemmas.List.Sums.{count_by-le-length, sum_by-cons}
use Rattle.dsn_tree.specs.declared.tree.Tree.{Tree}
use Rattle.dsn_tree.specs.Flat.{flat}
use Rattle.dsn_tree.specs.Heads.{is_headed, items_of}
use Rattle.dsn_shapes.specs.declared.known.ListKind.{ListKind}
use Rattle.dsn_shapes.specs.declared.known.ListKind.TheVariants as list
use Rattle.dsn_shapes.specs.Lists.{is_note, is_word, notes_in}
use Rattle.dsn_shapes.specs.Rules.{clearances_in, is_unknown, notes_with, pairing_of, rule_notes}
use Rattle.dsn_shapes.specs.Shapes.{ban_notes, is_beside, notes_beside, windows_of}
use Rattle.dsn_design.specs.Sound.{weight}
use Rattle.dsn_design.proofs.Counted.{count_weight, filter_weight, items_weight, lists_weight, weight_more}

-- ---- trees and their items
-- the tokens of a tree alone
pub weight_one : (t : Tree) → weight (t ∷ []) ≡ length (flat t)
weight_one t = omega (arith, weight_more t [])

-- ---- sums over trees
-- what is made of trees is no more than their tokens
pub made_weight : {V : Type 0} (make : Tree → V) (ts : List Tree) → length (map make ts) ≤ weight ts
made_weight make ts = omega (arith, length-map ts make, count_weight ts)

-- the trees that pass a test are no more than their tokens
pub counted_weight : (test : Tree → Bool) (ts : List Tree) → count_by test ts ≤ weight ts
counted_weight test ts = omega (arith, count_by-le-length test ts, count_weight ts)

-- the items of a tree that pass a test are no more than its tokens
items_counted : (test : Tree → Bool) (t : Tree) → count_by test (items_of t) ≤ length (flat t)
items_counted test t = omega (arith, counted_weight test (items_of t), items_weight t)

-- a sum of at most k for each token of each tree
pub sum_weight : (f : Tree → ℕ) (k : ℕ) → ((t : Tree) → f t ≤ k * length (flat t)) → (ts : List Tree)
    → sum_by f ts ≤ k * weight ts
sum_weight f k h [] = omega arith
sum_weight f k h (t ∷ ts) =
    omega (arith, sum_by-cons f t ts, h t, sum_weight f k h ts, ap (λ w. k * w) (weight_more t ts))

-- ---- notes
-- the lists that are passed over directly in some lists
pub notes_weight : (kind : ListKind) (ts : List Tree) → notes_in kind ts ≤ weight ts
unfolding notes_in
notes_weight kind ts =
    let count : Tree → ℕ = λ t. count_by (is_note kind) (items_of t) in
    omega (arith, sum_weight count 1 (λ t. omega (arith, items_counted (is_note kind) t)) ts)

-- the lists beside the form of one list
beside_weight : (t : Tree) → notes_beside t ≤ 1 * length (flat t)
beside_weight t = omega (arith, items_counted (λ i. not (is_word i)) t)

-- of some lists
pub besides_weight : (ts : List Tree) → sum_by notes_beside ts ≤ weight ts
besides_weight ts = omega (arith, sum_weight notes_beside 1 beside_weight ts)

-- the lists beside the forms of a keepout and of its windows
ban_weight : (t : Tree) → ban_notes t ≤ 2 * length (flat t)
unfolding ban_notes
ban_weight t = omega (
  arith,
  items_counted is_beside t,
  besides_weight (windows_of t),
  filter_weight (is_headed (codes "window")) (items_of t),
  items_weight t,
)

-- of some keepouts
pub bans_weight : (ts : List Tree) → sum_by ban_notes ts ≤ 2 * weight ts
bans_weight ts = sum_weight ban_notes 2 ban_weight ts

-- the lists in rules and clearances, and the clearances of an unknown type
pub rule_weight : (rules : List Tree) → rule_notes rules ≤ 3 * weight rules
unfolding notes_with
rule_weight rules =
    let clearances = clearances_in rules in
    omega (
      arith,
      notes_weight list.Rule rules,
      notes_weight list.Rule clearances,
      counted_weight (λ t. is_unknown (pairing_of t)) clearances,
      lists_weight (codes "clearance" ∷ []) rules,
    )
