-- A text holds few parts: a tree has at most as many words and groups as its text has bytes.
use Rattle.std.proofs.Common.{◌≡◌, ◌<◌, ◌≤◌, ◌+◌, ◌++◌, ◌∙◌, ap, subst, ℕ, zero, suc, cond, Bool, true, false, List, []}
use Rattle.std.proofs.Common.{◌∷◌, Option, None, length, drop, arith}
use Rattle.std.specs.Prelude.{All, filter}
use Rattle.std.specs.List.{flat_map}
use Rattle.std.proofs.lemmas.List.{length-append, length-map}
use Rattle.std.proofs.lemmas.List.Concat.{flat_map-append}
use Rattle.std.proofs.lemmas.List.Elements.{All-cons, All-nil}
use Rattle.dsn_tokens.specs.Place.{Place, start}
use Rattle.dsn_tokens.specs.Gaps.{IsBehindGap, Space, blank, skipped, spaces_then}
use Rattle.dsn_tokens.specs.Words.{Piece, bare, pieces_then, quoted}
use Rattle.dsn_tokens.specs.Spelling.{IsMark, IsTokenAt, Reading, Takes}
use Rattle.dsn_tokens.specs.declared.context.Context.{Context}
use Rattle.dsn_tokens.specs.declared.context.Line.{Line}
use Rattle.dsn_tokens.specs.declared.context.Line.TheVariants.{Fresh, Begun, Quoting}
use Rattle.dsn_tokens.specs.declared.token.Mark.{Mark}
use Rattle.dsn_tokens.specs.declared.token.Mark.TheVariants.{Left, Right, Word}
use Rattle.dsn_tokens.specs.declared.token.Token.{Token}
use Rattle.dsn_tokens.specs.declared.token.TokenFault.{TokenFault}
use Rattle.dsn_tree.specs.declared.tree.Tree.{Tree}
use Rattle.dsn_tree.specs.declared.tree.Tree.TheOpen.{Tree-F}
use Rattle.dsn_tree.specs.declared.tree.Tree.TheOpen as layer
use Rattle.dsn_tree.specs.declared.tree.Tree.TheViews.{out-Tree, roll-Tree, roll-out-Tree}
use Rattle.dsn_tree.specs.Flat.{flat, shown}
use Rattle.dsn_tree.specs.Heads.{items_in, items_of}
use Rattle.dsn_tree.specs.Trees.{HasTree}
use Rattle.dsn_tree.proofs.Flats.{layer_group, layer_word, right}
use Rattle.dsn_shapes.specs.Lists.{has_head, is_word, lists, words_of}
use Rattle.dsn_design.specs.Sound.{weight}

-- ---- each token takes a byte
pieces_long : (quote : ℕ) (pieces : List Piece) (rest : List ℕ)
    → length pieces + length rest ≤ length (pieces_then quote pieces rest)
pieces_long quote [] rest = omega arith
pieces_long quote (bare b ∷ pieces) rest = omega (arith, pieces_long quote pieces rest)
pieces_long quote (quoted inside ∷ pieces) rest =
    omega (arith, pieces_long quote pieces rest, length-append inside (quote ∷ pieces_then quote pieces rest))

mark_short : (m : Mark) (c : Context) (bytes rest : List ℕ) (d : Context) → IsMark m c bytes rest d
    → length rest < length bytes
mark_short Left c bytes rest d h = omega (arith, ap length h.0)
mark_short Right c bytes rest d h = omega (arith, ap length h.0)
mark_short (Word text) c bytes rest d h = omega (arith, ap length h.spelled, pieces_long c.quote h.pieces rest)

token_short : (line : Line) (m : Mark) (c : Context) (bytes rest : List ℕ) (d : Context)
    → IsTokenAt line m c bytes rest d → length rest < length bytes
token_short Fresh m c bytes rest d h = mark_short m c bytes rest d h
token_short Begun m c bytes rest d h = mark_short m c bytes rest d h
token_short Quoting m c bytes rest d h = omega (arith, ap length h.here)

spaces_short : (spaces : List Space) (rest : List ℕ) → length rest ≤ length (spaces_then spaces rest)
spaces_short [] rest = omega arith
spaces_short (blank b ∷ spaces) rest = omega (arith, spaces_short spaces rest)
spaces_short (skipped inside ∷ spaces) rest =
    omega (arith, spaces_short spaces rest, length-append inside (10 ∷ spaces_then spaces rest))

gap_short : (p : Place) (bytes : List ℕ) → IsBehindGap p bytes → length bytes ≤ length p.rest
gap_short p bytes g = omega (arith, ap length g.text, spaces_short g.spaces bytes)

takes_short : (p : Place) (t : Token) (q : Place) → Takes p t q → length q.rest < length p.rest
takes_short p t q h =
    omega (
      arith,
      token_short p.context.line t.mark p.context h.bytes q.rest q.context h.token,
      gap_short p h.bytes h.gap,
    )

reading_short : (p : Place) (ts : List Token) (end : Option TokenFault) → Reading p ts end → length ts ≤ length p.rest
reading_short p [] end r = omega arith
reading_short p (t ∷ ts) end r = omega (arith, takes_short p t r.0 r.1, reading_short r.0 ts end r.2)

-- ---- trees by their tokens
pub text_weight : (text : List ℕ) (t : Tree) → HasTree text t → weight (t ∷ []) ≤ length text
text_weight text t h =
    omega (
      arith,
      reading_short (start text) h.ts None h.spells,
      ap length h.shows,
      length-map h.ts shown,
      length-append (flat t) [],
    )

-- the tokens of one tree, and of the others
pub weight_more : (t : Tree) (ts : List Tree) → weight (t ∷ ts) ≡ length (flat t) + weight ts
weight_more t ts = length-append (flat t) (flat_map flat ts)

weight_both : (ts us : List Tree) → weight (ts ++ us) ≡ weight ts + weight us
weight_both ts us = ap length (flat_map-append flat ts us) ∙ length-append (flat_map flat ts) (flat_map flat us)

layer_some : (l : Tree-F Tree) → 1 ≤ length (flat (roll-Tree l))
layer_some (layer.Word at text) = omega (arith, ap length (layer_word at text))
layer_some (layer.Group at items) = omega (arith, ap length (layer_group at items))

tree_some : (t : Tree) → 1 ≤ length (flat t)
tree_some t = subst (λ u. 1 ≤ length (flat u)) (roll-out-Tree t) (layer_some (out-Tree t))

-- each tree has a token
pub count_weight : (ts : List Tree) → length ts ≤ weight ts
count_weight [] = omega arith
count_weight (t ∷ ts) = omega (arith, count_weight ts, tree_some t, weight_more t ts)

layer_items : (l : Tree-F Tree) → weight (items_in l) ≤ length (flat (roll-Tree l))
layer_items (layer.Word at text) = omega arith
layer_items (layer.Group at items) =
    omega (arith, ap length (layer_group at items), length-append (flat_map flat items) (right ∷ []))

-- a tree's items have no more tokens than the tree
pub items_weight : (t : Tree) → weight (items_of t) ≤ length (flat t)
items_weight t = subst (λ u. weight (items_of t) ≤ length (flat u)) (roll-out-Tree t) (layer_items (out-Tree t))

-- ---- trees that are taken from others
kept_weight : (b : Bool) (t : Tree) (ts us : List Tree) → weight us ≤ weight ts
    → weight (cond b (t ∷ us) us) ≤ weight (t ∷ ts)
kept_weight true t ts us h = omega (arith, weight_more t ts, weight_more t us)
kept_weight false t ts us h = omega (arith, weight_more t ts)

-- the trees that pass a test
pub filter_weight : (test : Tree → Bool) (ts : List Tree) → weight (filter test ts) ≤ weight ts
filter_weight test [] = omega arith
filter_weight test (t ∷ ts) = kept_weight (test t) t ts (filter test ts) (filter_weight test ts)

drop_weight : (n : ℕ) (ts : List Tree) → weight (drop n ts) ≤ weight ts
drop_weight zero ts = omega arith
drop_weight (suc n) [] = omega arith
drop_weight (suc n) (t ∷ ts) = omega (arith, drop_weight n ts, weight_more t ts)

-- some items of each
each_weight : (some : Tree → List Tree) → ((t : Tree) → weight (some t) ≤ length (flat t)) → (ts : List Tree)
    → weight (flat_map some ts) ≤ weight ts
each_weight some h [] = omega arith
each_weight some h (t ∷ ts) =
    omega (arith, h t, each_weight some h ts, weight_both (some t) (flat_map some ts), weight_more t ts)

both_at_most : (a b c : ℕ) → a ≤ b → b ≤ c → a ≤ c
both_at_most a b c h k = omega arith

pub lists_weight : (heads : List (List ℕ)) (ts : List Tree) → weight (lists heads ts) ≤ weight ts
unfolding lists
lists_weight heads ts =
    each_weight (λ t. filter (has_head heads) (items_of t))
    (λ t. both_at_most (weight (filter (has_head heads) (items_of t))) (weight (items_of t)) (length (flat t))
    (filter_weight (has_head heads) (items_of t)) (items_weight t)) ts

-- the words of a list, from word i on
pub words_weight : (i : ℕ) (ts : List Tree) → weight (flat_map (λ t. drop i (words_of t)) ts) ≤ weight ts
words_weight i ts =
    each_weight (λ t. drop i (words_of t))
    (λ t. omega (arith, drop_weight i (words_of t), filter_weight is_word (items_of t), items_weight t)) ts

-- the words among the items, from item i on
pub items_from_weight : (i : ℕ) (ts : List Tree) → weight (flat_map (λ t. filter is_word (drop i (items_of t))) ts)
    ≤ weight ts
items_from_weight i ts =
    each_weight (λ t. filter is_word (drop i (items_of t)))
    (λ t. omega (arith, filter_weight is_word (drop i (items_of t)), drop_weight i (items_of t), items_weight t)) ts

-- each of these trees alone
pub each_alone : (ts : List Tree) (n : ℕ) → weight ts ≤ n → All (λ t. weight (t ∷ []) ≤ n) ts
each_alone [] n h = All-nil (λ t. weight (t ∷ []) ≤ n)
each_alone (t ∷ ts) n h =
    All-cons (λ u. weight (u ∷ []) ≤ n) t ts (omega (arith, weight_more t ts, weight_more t []))
    (each_alone ts n (omega (arith, weight_more t ts)))
