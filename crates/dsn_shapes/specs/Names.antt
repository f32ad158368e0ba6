-- Names that lists give, where each is first given, and names that are given twice.
use Rattle.std.specs.Prelude.{◌==◌, ◌+◌, ◌-◌, ◌^◌, min, ℕ, Bool, false, List, [], ◌∷◌, ◌++◌, Option, Some, None, map}
use Rattle.std.specs.Prelude.{if◌then◌else◌}
use Rattle.std.specs.List.{position_from}
use Rattle.std.specs.Str.{bytes_eq}
use Rattle.dsn_tree.specs.declared.tree.Tree.{Tree}
use Rattle.dsn_shapes.specs.declared.parts.Stack.{Stack}
use Rattle.dsn_shapes.specs.declared.refusal.Refusal.{Refusal}
use Rattle.dsn_shapes.specs.Refusals.{refused}
use Rattle.dsn_shapes.specs.Lists.{name_of, place_of}
use Rattle.dsn_shapes.specs.declared.table.TheConstants.{NAMED_TWICE}

-- the names that word i of these lists gives
abbrev pub names_at : ℕ → List Tree → List (List ℕ)
names_at i ts = map (λ t. name_of t i) ts

-- where a name first stands among some
unfoldable pub first_place : List ℕ → List (List ℕ) → Option ℕ
first_place name names = position_from (λ n. bytes_eq n name) 0 names

-- a place in a list as an index of 32 bits, which ends at 2^32 - 1
abbrev pub place_index : ℕ → ℕ
place_index k = min k (2 ^ 32 - 1)

abbrev pub stack_names : List Stack → List (List ℕ)
stack_names stacks = map (λ (s : Stack). s.name) stacks

abbrev pub is_at : ℕ → Option ℕ → Bool
is_at k None = false
is_at k (Some n) = k == n

-- of these lists, the first of which is number k of all that give the names, those whose name an earlier one gives
abbrev pub given_again : ℕ → List (List ℕ) → ℕ → List Tree → List Refusal
given_again i names k [] = []
given_again i names k (t ∷ ts) =
    (if is_at k (first_place (name_of t i) names) then [] else refused NAMED_TWICE (place_of t i) ∷ [])
    ++ given_again i names (k + 1) ts

-- names that word i of these lists gives twice
abbrev pub same_names : ℕ → List Tree → List Refusal
same_names i ts = given_again i (names_at i ts) 0 ts
