-- The tokens and the depth of a tree, one level at a time.
use Rattle.std.proofs.Common.{◌≡◌, ◌≤◌, ◌∙◌, ap, sym, ℕ, List, [], ◌∷◌, ◌++◌, map, arith, refl, suc}
use Rattle.std.specs.List.{flat_map, AllByRecursion}
use Rattle.dsn_tree.specs.declared.tree.Tree.{Tree}
use Rattle.dsn_tree.specs.declared.tree.Tree.TheVariants as tree
use Rattle.dsn_tree.specs.declared.tree.Tree.TheOpen.{Tree-F}
use Rattle.dsn_tree.specs.declared.tree.Tree.TheOpen as layer
use Rattle.dsn_tree.specs.declared.tree.Tree.TheVariants.{rolls-Word, rolls-Group}
use Rattle.dsn_tree.specs.declared.tree.Tree.TheViews.{roll-Tree}
use Rattle.dsn_tree.specs.declared.tree.Tree.TheFolds.{fold-roll-Tree}
use Rattle.dsn_tree.specs.Flat.{flat, depth, flat_step, depth_step, greatest}
use Rattle.dsn_tokens.specs.declared.token.Token.{Token}
use Rattle.dsn_tokens.specs.declared.token.Mark.TheVariants.{Left, Right, Word}

abbrev pub right : Token
right = record { at = 0; mark = Right }

pub cons_one : {X : Type 0} (x y : X) (xs ys : List X) → x ∷ xs ≡ y ∷ ys → (x ≡ y) × (xs ≡ ys)
cons_one x y xs ys e = (cc, cc)

flat_map_id : (ts : List Tree) → flat_map (λ xs. xs) (map flat ts) ≡ flat_map flat ts
flat_map_id [] = refl
flat_map_id (t ∷ ts) = ap (λ x. flat t ++ x) (flat_map_id ts)

pub layer_word : (at : ℕ) (text : List ℕ) → flat (roll-Tree (layer.Word at text)) ≡ record { at = at; mark = Word text }
    ∷ []
layer_word at text = fold-roll-Tree (List Token) flat_step (layer.Word at text)

pub layer_group : (at : ℕ) (items : List Tree) → flat (roll-Tree (layer.Group at items))
    ≡ record { at = at; mark = Left } ∷ flat_map flat items ++ right ∷ []
layer_group at items =
    fold-roll-Tree (List Token) flat_step (layer.Group at items)
    ∙ ap (λ xs. record { at = at; mark = Left } ∷ xs ++ right ∷ []) (flat_map_id items)

pub flat_word : (at : ℕ) (text : List ℕ) → flat (tree.Word at text) ≡ record { at = at; mark = Word text } ∷ []
flat_word at text = ap flat (sym (rolls-Word at text)) ∙ layer_word at text

pub flat_group : (at : ℕ) (items : List Tree)
    → flat (tree.Group at items) ≡ record { at = at; mark = Left } ∷ flat_map flat items ++ right ∷ []
flat_group at items = ap flat (sym (rolls-Group at items)) ∙ layer_group at items

pub depth_word : (at : ℕ) (text : List ℕ) → depth (tree.Word at text) ≡ 0
depth_word at text = ap depth (sym (rolls-Word at text)) ∙ fold-roll-Tree ℕ depth_step (layer.Word at text)

pub depth_layer : (at : ℕ) (items : List Tree) → depth (roll-Tree (layer.Group at items))
    ≡ suc (greatest (map depth items))
depth_layer at items = fold-roll-Tree ℕ depth_step (layer.Group at items)

pub depth_group : (at : ℕ) (items : List Tree) → depth (tree.Group at items) ≡ suc (greatest (map depth items))
depth_group at items = ap depth (sym (rolls-Group at items)) ∙ depth_layer at items

pub greatest_le : (room : ℕ) (items : List Tree) → AllByRecursion (λ t. depth t ≤ room) items
    → greatest (map depth items) ≤ room
greatest_le room [] d = omega arith
greatest_le room (t ∷ ts) d = omega (arith, d.0, greatest_le room ts d.1)

pub all_le : (room : ℕ) (items : List Tree) → greatest (map depth items) ≤ room
    → AllByRecursion (λ t. depth t ≤ room) items
all_le room [] d = tt
all_le room (t ∷ ts) d = (omega arith, all_le room ts (omega arith))
