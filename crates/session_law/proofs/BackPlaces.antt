-- What is looked up in a tree is found in the tree without places too.
use Rattle.std.proofs.Common.{◌≡◌, ◌∙◌, ap, sym, ℕ, Bool, true, false, cond, List, [], ◌∷◌, map, refl, Some, None}
use Rattle.std.specs.Prelude.{Option, filter, find, slice_get}
use Rattle.std.specs.Option.{option_map, option_map_or}
use Rattle.std.proofs.lemmas.Option.{slice_get-map}
use Rattle.std.proofs.lemmas.List.{append-nil}
use Rattle.dsn_tree.specs.declared.tree.Tree.{Tree}
use Rattle.dsn_tree.specs.declared.tree.Tree.TheVariants.{outs-Word, outs-Group}
use Rattle.dsn_tree.specs.declared.tree.Tree.TheOpen.{Tree-F}
use Rattle.dsn_tree.specs.declared.tree.Tree.TheOpen as layer
use Rattle.dsn_tree.specs.declared.tree.Tree.TheViews.{out-Tree, roll-Tree, roll-out-Tree}
use Rattle.dsn_tree.specs.declared.tree.Tree.TheFolds.{fold-roll-Tree}
use Rattle.dsn_tree.specs.Heads.{items_of, items_in, is_headed, is_keyword, child}
use Rattle.dsn_tree.specs.Heads as heads
use Rattle.dsn_shapes.specs.Lists.{is_word, is_word_in, text_of, text_in, has_head, lists, words_of, nth_word}
use Rattle.dsn_shapes.specs.Lists.{name_of}
use Rattle.session_law.specs.Shape.{unplaced, unplaced_step}

-- ---- one layer
-- a layer with its inner trees without places, at 0
abbrev bare : Tree-F Tree → Tree-F Tree
bare (layer.Word at text) = layer.Word 0 text
bare (layer.Group at items) = layer.Group 0 (map unplaced items)

-- which is that of the tree without places
rolled : (x : Tree-F Tree) → out-Tree (unplaced (roll-Tree x)) ≡ bare x
rolled (layer.Word at text) = ap out-Tree (fold-roll-Tree Tree unplaced_step (layer.Word at text)) ∙ outs-Word 0 text
rolled (layer.Group at items) = ap out-Tree (fold-roll-Tree Tree unplaced_step (layer.Group at items))
    ∙ outs-Group 0 (map unplaced items)

-- so of each tree
opened : (t : Tree) → out-Tree (unplaced t) ≡ bare (out-Tree t)
opened t = ap (λ u. out-Tree (unplaced u)) (sym (roll-out-Tree t)) ∙ rolled (out-Tree t)

-- the items of a layer
bare_items : (x : Tree-F Tree) → items_in (bare x) ≡ map unplaced (items_in x)
bare_items (layer.Word at text) = refl
bare_items (layer.Group at items) = refl

-- its text
bare_text : (x : Tree-F Tree) → text_in (bare x) ≡ text_in x
bare_text (layer.Word at text) = refl
bare_text (layer.Group at items) = refl

-- the same where it is a word
bare_word : (x : Tree-F Tree) → heads.text_in (bare x) ≡ heads.text_in x
bare_word (layer.Word at text) = refl
bare_word (layer.Group at items) = refl

-- whether it is one
bare_is_word : (x : Tree-F Tree) → is_word_in (bare x) ≡ is_word_in x
bare_is_word (layer.Word at text) = refl
bare_is_word (layer.Group at items) = refl

-- ---- one tree
-- the items of a tree
pub items_kept : (t : Tree) → items_of (unplaced t) ≡ map unplaced (items_of t)
items_kept t = ap items_in (opened t) ∙ bare_items (out-Tree t)

-- its text
pub text_kept : (t : Tree) → text_of (unplaced t) ≡ text_of t
text_kept t = ap text_in (opened t) ∙ bare_text (out-Tree t)

-- the text of a word, where there is one
word_kept : (o : Option Tree) → heads.text_of (option_map unplaced o) ≡ heads.text_of o
word_kept None = refl
word_kept (Some t) = ap heads.text_in (opened t) ∙ bare_word (out-Tree t)

-- whether it is a word
pub is_word_kept : (t : Tree) → is_word (unplaced t) ≡ is_word t
is_word_kept t = ap is_word_in (opened t) ∙ bare_is_word (out-Tree t)

-- its head
pub is_headed_kept : (head : List ℕ) (t : Tree) → is_headed head (unplaced t) ≡ is_headed head t
is_headed_kept head t = ap (λ (us : List Tree). is_keyword head (heads.text_of (slice_get us 0))) (items_kept t)
    ∙ ap (λ (o : Option Tree). is_keyword head (heads.text_of o)) (slice_get-map unplaced (items_of t) 0)
    ∙ ap (is_keyword head) (word_kept (slice_get (items_of t) 0))

-- one of some heads
has_head_kept : (hs : List (List ℕ)) (t : Tree) → has_head hs (unplaced t) ≡ has_head hs t
has_head_kept [] t = refl
has_head_kept (h ∷ hs) t = rw (is_headed_kept h t, has_head_kept hs t) refl

-- ---- lists of trees
-- those that pass a test that knows no places
filter_kept : (p : Tree → Bool) → ((t : Tree) → p (unplaced t) ≡ p t) → (ts : List Tree)
    → filter p (map unplaced ts) ≡ map unplaced (filter p ts)
filter_kept p h [] = refl
filter_kept p h (t ∷ ts) = by (p t) (h t) (filter_kept p h ts)
  where
    by : (b : Bool) → p (unplaced t) ≡ b → filter p (map unplaced ts) ≡ map unplaced (filter p ts)
        → cond (p (unplaced t)) (unplaced t ∷ filter p (map unplaced ts)) (filter p (map unplaced ts))
        ≡ map unplaced (cond b (t ∷ filter p ts) (filter p ts))
    by true e rest = rw (e, rest) refl
    by false e rest = rw (e, rest) refl

-- the first of them
find_kept : (p : Tree → Bool) → ((t : Tree) → p (unplaced t) ≡ p t) → (ts : List Tree)
    → find p (map unplaced ts) ≡ option_map unplaced (find p ts)
find_kept p h [] = refl
find_kept p h (t ∷ ts) = by (p t) (h t) (find_kept p h ts)
  where
    by : (b : Bool) → p (unplaced t) ≡ b → find p (map unplaced ts) ≡ option_map unplaced (find p ts)
        → cond (p (unplaced t)) (Some (unplaced t)) (find p (map unplaced ts))
        ≡ option_map unplaced (cond b (Some t) (find p ts))
    by true e rest = rw e refl
    by false e rest = rw e rest

-- ---- look-ups
-- the first group with a head
pub child_kept : (t : Tree) (head : List ℕ) → child (unplaced t) head ≡ option_map unplaced (child t head)
child_kept t head = ap (λ (us : List Tree). find (is_headed head) us) (items_kept t)
    ∙ find_kept (is_headed head) (is_headed_kept head) (items_of t)

-- the words of a list
pub words_kept : (t : Tree) → words_of (unplaced t) ≡ map unplaced (words_of t)
words_kept t = ap (λ (us : List Tree). filter is_word us) (items_kept t)
    ∙ filter_kept is_word is_word_kept (items_of t)

-- one of them
pub nth_kept : (t : Tree) (i : ℕ) → nth_word (unplaced t) i ≡ option_map unplaced (nth_word t i)
nth_kept t i = ap (λ (us : List Tree). slice_get us i) (words_kept t) ∙ slice_get-map unplaced (words_of t) i

-- a value of a word that knows no places
pub of_word : {X : Type 0} (f : Tree → X) (other : X) → ((t : Tree) → f (unplaced t) ≡ f t) → (o : Option Tree)
    → option_map_or f (option_map unplaced o) other ≡ option_map_or f o other
of_word f other h None = refl
of_word f other h (Some t) = h t

-- a name
pub name_kept : (t : Tree) (i : ℕ) → name_of (unplaced t) i ≡ name_of t i
name_kept t i = ap (λ (o : Option Tree). option_map_or text_of o []) (nth_kept t i)
    ∙ of_word text_of [] text_kept (nth_word t i)

-- the lists with some heads
pub lists_kept : (hs : List (List ℕ)) (t : Tree) → lists hs (unplaced t ∷ []) ≡ map unplaced (lists hs (t ∷ []))
unfolding lists
lists_kept hs t = append-nil (filter (has_head hs) (items_of (unplaced t)))
    ∙ ap (λ (us : List Tree). filter (has_head hs) us) (items_kept t)
    ∙ filter_kept (has_head hs) (has_head_kept hs) (items_of t)
    ∙ ap (map unplaced) (sym (append-nil (filter (has_head hs) (items_of t))))
