-- Class pairs, as in `(class_class (classes a b) (rule (clearance 200)))`: the clearances between the nets of two
-- classes. A name stands for each class list of that name, so that one such list may mean several pairs.
use Rattle.std.specs.Prelude.{◌==◌, ◌+◌, ◌&&◌, ◌||◌, ℕ, Bool, not, List, [], ◌∷◌, ◌++◌, codes}
use Rattle.std.specs.Prelude.{length, map, filter, sum_by, nat_lt, if◌then◌else◌}
use Rattle.std.specs.List.{flat_map}
use Rattle.std.specs.Str.{bytes_eq}
use Rattle.dsn_tree.specs.declared.tree.Tree.{Tree}
use Rattle.pcb_model.specs.declared.design.RuleSet.{RuleSet}
use Rattle.pcb_model.specs.declared.design.ClassPair.{ClassPair}
use Rattle.dsn_shapes.specs.declared.refusal.Refusal.{Refusal}
use Rattle.dsn_shapes.specs.Refusals.{refused}
use Rattle.dsn_shapes.specs.Lists.{at_of, text_of, lists}
use Rattle.dsn_shapes.specs.Names.{place_index}
use Rattle.dsn_shapes.specs.Rules.{pair_rule_set, pair_rule_refusals}
use Rattle.dsn_network.specs.Words.{words_in, rules_in}
use Rattle.dsn_shapes.specs.declared.table.TheConstants.{NO_CLASS, BAD_PAIR}

-- ---- the two names
-- the lists that give the names
abbrev pub names_lists : Tree → List Tree
names_lists t = lists (codes "classes" ∷ []) (t ∷ [])

-- the names: words alone, groups between them are skipped
abbrev pub pair_names : Tree → List Tree
pair_names t = words_in 1 (names_lists t)

-- there is just one `classes` list, and it has two names
abbrev pub has_two_names : Tree → Bool
has_two_names t = length (names_lists t) == 1 && length (pair_names t) == 2

-- ---- the class lists of a name
-- those of this name by their places, of class lists with these names, the first of which is number k of all
abbrev pub places_from : ℕ → List ℕ → List (List ℕ) → List ℕ
places_from k name [] = []
places_from k name (n ∷ ns) =
    (if bytes_eq n name then place_index k ∷ [] else []) ++ places_from (k + 1) name ns

-- of class lists with these names, those of one
unfoldable pub places_named : List ℕ → List (List ℕ) → List ℕ
places_named name names = places_from 0 name names

-- ---- the couples of class lists that two names stand for
-- of one name, a couple counts where its second list doesn't stand before its first, so that each two count once
abbrev pub counts_with : Bool → ℕ → ℕ → Bool
counts_with same a b = not same || not (nat_lt b a)

-- a class list with each that counts
abbrev pub couples_with : Bool → List ℕ → ℕ → List (ℕ × ℕ)
couples_with same ys a = map (λ b. (a, b)) (filter (counts_with same a) ys)

-- each class list of one name with each of the other
unfoldable pub couples : Bool → List ℕ → List ℕ → List (ℕ × ℕ)
couples same xs ys = flat_map (couples_with same ys) xs

-- the same of two words, where all class lists have these names
abbrev pub couples_of : List (List ℕ) → List Tree → List (ℕ × ℕ)
couples_of names (v ∷ (w ∷ [])) = couples (bytes_eq (text_of v) (text_of w)) (places_named (text_of v) names)
    (places_named (text_of w) names)
couples_of names _ = []

-- how many there are in these lists
abbrev pub pair_count : List (List ℕ) → List Tree → ℕ
pair_count names ts = sum_by (λ t. length (couples_of names (pair_names t))) ts

-- ---- the whole
abbrev pub pair_by : RuleSet → ℕ × ℕ → ClassPair
pair_by rules couple = record { a = couple.0; b = couple.1; rules = rules }

-- the pairs of a list, where all class lists have these names; each has the list's rules
unfoldable pub pairs_of : ℕ → List (List ℕ) → Tree → List ClassPair
pairs_of nm names t = map (pair_by (pair_rule_set nm (rules_in (t ∷ [])))) (couples_of names (pair_names t))

abbrev pub bad_pair : Tree → List Refusal
bad_pair t = if has_two_names t then [] else refused BAD_PAIR (at_of t) ∷ []

-- a name that is no class's
abbrev pub unknown_class : List (List ℕ) → Tree → List Refusal
unknown_class names w = if length (places_named (text_of w) names) == 0 then refused NO_CLASS (at_of w) ∷ [] else []

-- the names are judged whether they are two or not
unfoldable pub name_refusals : List (List ℕ) → Tree → List Refusal
name_refusals names t = bad_pair t ++ flat_map (unknown_class names) (pair_names t)

unfoldable pub pair_refusals : ℕ → List (List ℕ) → Tree → List Refusal
pair_refusals nm names t = name_refusals names t ++ pair_rule_refusals nm (rules_in (t ∷ []))
