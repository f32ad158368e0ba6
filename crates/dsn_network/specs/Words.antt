-- Words and rules of lists.
use Rattle.std.specs.Prelude.{ℕ, List, [], ◌∷◌, codes, drop}
use Rattle.std.specs.List.{flat_map}
use Rattle.dsn_tree.specs.declared.tree.Tree.{Tree}
use Rattle.dsn_shapes.specs.Lists.{words_of, lists}

-- the words of a list from word i on, where the head is word 0
abbrev pub words_from : ℕ → Tree → List Tree
words_from i t = drop i (words_of t)

abbrev pub words_in : ℕ → List Tree → List Tree
words_in i ts = flat_map (words_from i) ts

-- the rules that stand directly in these lists
abbrev pub rules_in : List Tree → List Tree
rules_in ts = lists (codes "rule" ∷ []) ts
