-- Looking things up in a tree.
use Rattle.std.specs.Prelude.{ℕ, List, [], ◌∷◌, Option, Some, None, Bool, false, slice_get, find, drop, if◌then◌else◌}
use Rattle.std.specs.Prelude.{◌+◌}
use Rattle.std.specs.Borrow.{Bor}
use Rattle.std.specs.Str.{str_eq_ignore_ascii_case}
use Rattle.dsn_tree.specs.declared.tree.Tree.{Tree}
use Rattle.dsn_tree.specs.declared.tree.Tree.TheOpen.{Tree-F}
use Rattle.dsn_tree.specs.declared.tree.Tree.TheViews.{out-Tree}
use Rattle.dsn_tree.specs.declared.tree.Tree.TheOpen as layer

-- the items of a tree that is taken apart
abbrev pub items_in : Tree-F Tree → List Tree
items_in (layer.Word at text) = []
items_in (layer.Group at items) = items

-- the items of a group; a word has none
abbrev pub items_of : Tree → List Tree
items_of t = items_in (out-Tree t)

-- the text of a word that is taken apart
abbrev pub text_in : Tree-F Tree → Option (List ℕ)
text_in (layer.Word at text) = Some text
text_in (layer.Group at items) = None

-- the text of a word
abbrev pub text_of : Option Tree → Option (List ℕ)
text_of None = None
text_of (Some t) = text_in (out-Tree t)

-- item i where it is a word
abbrev pub word : Tree → ℕ → Option (List ℕ)
word t i = text_of (slice_get (items_of t) i)

-- the text is the keyword, in any case of letters
abbrev pub is_keyword : List ℕ → Option (List ℕ) → Bool
is_keyword head None = false
is_keyword head (Some text) = str_eq_ignore_ascii_case text head

-- the tree is a group whose first item is this keyword
abbrev pub is_headed : List ℕ → Tree → Bool
is_headed head t = is_keyword head (word t 0)

-- the first group with this head
abbrev pub child : Tree → List ℕ → Option Tree
child t head = find (is_headed head) (items_of t)

-- the first of these trees that passes the test, with its place, where the places count up from i
abbrev pub find_at : (Tree → Bool) → ℕ → List Tree → Option (ℕ × Tree)
find_at p i [] = None
find_at p i (t ∷ ts) = if p t then Some (i, t) else find_at p (i + 1) ts

-- the first group with this head at or after a place
abbrev pub children : Tree → List ℕ → ℕ → Option (ℕ × Tree)
children t head from = find_at (is_headed head) from (drop from (items_of t))

-- what a reference in a pair points to
abbrev pub placed : Option (ℕ × Bor Tree) → Option (ℕ × Tree)
placed None = None
placed (Some x) = Some (x.0, x.1.now)
