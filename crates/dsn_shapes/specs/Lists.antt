-- Lists of a tree: their words, names and places, lists that are left out, and notes.
use Rattle.std.specs.Prelude.{◌==◌, ◌&&◌, ◌||◌, map, ℕ, Bool, true, false, List, [], ◌∷◌, Option, Some, codes, filter}
use Rattle.std.specs.Prelude.{slice_get, not, min, ◌^◌, ◌-◌, count_by, sum_by, if◌then◌else◌}
use Rattle.std.specs.List.{list_any, flat_map}
use Rattle.std.specs.Option.{option_map_or}
use Rattle.std.specs.Borrow.{Bor}
use Rattle.dsn_tree.specs.declared.tree.Tree.{Tree}
use Rattle.dsn_tree.specs.declared.tree.Tree.TheOpen.{Tree-F}
use Rattle.dsn_tree.specs.declared.tree.Tree.TheViews.{out-Tree}
use Rattle.dsn_tree.specs.declared.tree.Tree.TheOpen as layer
use Rattle.dsn_tree.specs.Heads.{items_of, is_headed, is_keyword}
use Rattle.dsn_shapes.specs.declared.known.ListKind.{ListKind}
use Rattle.dsn_shapes.specs.declared.refusal.Refusal.{Refusal}
use Rattle.dsn_shapes.specs.Known.{idle_in, read_in}
use Rattle.dsn_shapes.specs.Refusals.{refused}
use Rattle.dsn_shapes.specs.declared.table.TheConstants.{LEFT_OUT}

abbrev pub at_in : Tree-F Tree → ℕ
at_in (layer.Word at text) = at
at_in (layer.Group at items) = at

-- the byte offset of a tree
abbrev pub at_of : Tree → ℕ
at_of t = at_in (out-Tree t)

abbrev pub is_word_in : Tree-F Tree → Bool
is_word_in (layer.Word at text) = true
is_word_in (layer.Group at items) = false

abbrev pub is_word : Tree → Bool
is_word t = is_word_in (out-Tree t)

abbrev pub text_in : Tree-F Tree → List ℕ
text_in (layer.Word at text) = text
text_in (layer.Group at items) = []

-- the text of a word
abbrev pub text_of : Tree → List ℕ
text_of t = text_in (out-Tree t)

-- the words of a list: groups that stand between them are skipped
abbrev pub words_of : Tree → List Tree
words_of t = filter is_word (items_of t)

-- word i, where the head is word 0
abbrev pub nth_word : Tree → ℕ → Option Tree
nth_word t i = slice_get (words_of t) i

-- the offset of word i, or else of the list
abbrev pub place_of : Tree → ℕ → ℕ
place_of t i = option_map_or at_of (nth_word t i) (at_of t)

-- word i as a name; a name that isn't there is the empty one
abbrev pub name_of : Tree → ℕ → List ℕ
name_of t i = option_map_or text_of (nth_word t i) []

-- word i is this keyword, in any case of letters
abbrev pub says : Tree → ℕ → List ℕ → Bool
says t i keyword = option_map_or (λ w. is_keyword keyword (Some (text_of w))) (nth_word t i) false

-- a name that a session can't print, where it is given
abbrev pub has_quote : List ℕ → Bool
has_quote text = list_any (λ b. b == 34) text

abbrev pub quoted_name : Tree → ℕ → List Refusal
quoted_name t i = if has_quote (name_of t i) then refused LEFT_OUT (place_of t i) ∷ [] else []

-- a list that the profile leaves out
abbrev pub is_left_out : Tree → Bool
is_left_out t =
    is_headed (codes "qarc") t ||
    (is_headed (codes "polyline_path") t ||
    (is_headed (codes "layer_rule") t ||
    (is_headed (codes "region") t ||
    (is_headed (codes "absolute") t && says t 1 (codes "on")))))

abbrev pub left_out : Tree → List Refusal
left_out t = if is_left_out t then refused LEFT_OUT (place_of t 0) ∷ [] else []

-- what references to trees, and to heads, point to
abbrev pub trees_of : List (Bor Tree) → List Tree
trees_of refs = map (λ b. b.now) refs

abbrev pub heads_of : List (Bor (List ℕ)) → List (List ℕ)
heads_of refs = map (λ b. b.now) refs

-- one of these heads
abbrev pub has_head : List (List ℕ) → Tree → Bool
has_head heads t = list_any (λ head. is_headed head t) heads

-- the lists with one of these heads that stand directly in these lists, from left to right
unfoldable pub lists : List (List ℕ) → List Tree → List Tree
lists heads ts = flat_map (λ t. filter (has_head heads) (items_of t)) ts

-- a list that is read in a list of this kind, or known there without effect
abbrev pub is_known : ListKind → Tree → Bool
is_known kind t = has_head (read_in kind) t || has_head (idle_in kind) t

-- a list that is passed over in a list of this kind
abbrev pub is_note : ListKind → Tree → Bool
is_note kind t = not (is_word t) && (not (is_left_out t) && not (is_known kind t))

-- a count, which ends at 2^64 - 1
abbrev pub capped : ℕ → ℕ
capped n = min n (2 ^ 64 - 1)

-- how many lists are passed over directly in these lists of one kind
unfoldable pub notes_in : ListKind → List Tree → ℕ
notes_in kind ts = sum_by (λ t. count_by (is_note kind) (items_of t)) ts

-- the lists directly in these lists that are left out
unfoldable pub left_out_in : List Tree → List Refusal
left_out_in ts = flat_map (λ t. flat_map left_out (items_of t)) ts
