-- The tokens of a tree.
use Rattle.std.specs.Prelude.{ℕ, List, [], ◌∷◌, ◌++◌, max, suc}
use Rattle.std.specs.List.{flat_map}
use Rattle.dsn_tree.specs.declared.tree.Tree.{Tree}
use Rattle.dsn_tree.specs.declared.tree.Tree.TheOpen.{Tree-F}
use Rattle.dsn_tree.specs.declared.tree.Tree.TheFolds.{fold-Tree}
use Rattle.dsn_tree.specs.declared.tree.Tree.TheOpen as layer
use Rattle.dsn_tokens.specs.declared.token.Token.{Token}
use Rattle.dsn_tokens.specs.declared.token.Mark.{Mark}
use Rattle.dsn_tokens.specs.declared.token.Mark.TheVariants.{Left, Right, Word}

-- a token as a tree knows it: a tree doesn't keep where a group's closing bracket stands
abbrev pub shown_at : ℕ → Mark → Token
shown_at at Left = record { at = at; mark = Left }
shown_at at Right = record { at = 0; mark = Right }
shown_at at (Word text) = record { at = at; mark = Word text }

-- the same of a whole token
abbrev pub shown : Token → Token
shown t = shown_at t.at t.mark

-- One tree, with the tokens of each inner tree in its place.
abbrev pub flat_step : Tree-F (List Token) → List Token
flat_step (layer.Word at text) = record { at = at; mark = Word text } ∷ []
flat_step (layer.Group at items) =
    record { at = at; mark = Left } ∷ flat_map (λ ts. ts) items ++ record { at = 0; mark = Right } ∷ []

-- the tokens of a tree
abbrev pub flat : Tree → List Token
flat = fold-Tree (List Token) flat_step

-- the greatest of some numbers, or 0
abbrev pub greatest : List ℕ → ℕ
greatest [] = 0
greatest (n ∷ ns) = max n (greatest ns)

-- One tree, with the depth of each inner tree in its place.
abbrev pub depth_step : Tree-F ℕ → ℕ
depth_step (layer.Word at text) = 0
depth_step (layer.Group at items) = suc (greatest items)

-- how many groups stand in each other at most
abbrev pub depth : Tree → ℕ
depth = fold-Tree ℕ depth_step
