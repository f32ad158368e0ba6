-- What is looked up in a group of a tree without places.
use Rattle.std.proofs.Common.{◌≡◌, ◌∙◌, ap, ℕ, Bool, true, false, cond, ◌||◌, List, [], ◌∷◌, refl, Some}
use Rattle.std.specs.Prelude.{filter, find, slice_get}
use Rattle.std.specs.List.{list_any}
use Rattle.std.specs.Option.{option_map_or}
use Rattle.std.specs.Str.{str_eq_ignore_ascii_case}
use Rattle.std.proofs.lemmas.List.{append-nil}
use Rattle.dsn_tree.specs.declared.tree.Tree.{Tree}
use Rattle.dsn_tree.specs.declared.tree.Tree.TheVariants.{outs-Word, outs-Group}
use Rattle.dsn_tree.specs.Heads.{items_of, items_in, is_headed, is_keyword, child}
use Rattle.dsn_tree.specs.Heads as heads
use Rattle.dsn_shapes.specs.Lists.{is_word, is_word_in, text_of, text_in, has_head, lists, words_of, name_of}
use Rattle.session_law.specs.Shape.{group_tree, word_tree}

-- ---- words
-- the text of a word
pub text_is : (text : List ℕ) → text_of (word_tree text) ≡ text
text_is text = ap text_in (outs-Word 0 text)

-- a word is one
word_is : (text : List ℕ) → is_word (word_tree text) ≡ true
word_is text = ap is_word_in (outs-Word 0 text)

-- it has no items
no_items : (text : List ℕ) → items_of (word_tree text) ≡ []
no_items text = ap items_in (outs-Word 0 text)

-- it has no head
no_head : (head text : List ℕ) → is_headed head (word_tree text) ≡ false
no_head head text = ap (λ (ts : List Tree). is_keyword head (heads.text_of (slice_get ts 0))) (no_items text)

-- nor one of several
no_head_of : (hs : List (List ℕ)) (text : List ℕ) → has_head hs (word_tree text) ≡ false
no_head_of [] text = refl
no_head_of (h ∷ hs) text = rw (no_head h text, no_head_of hs text) refl

-- ---- groups
-- the items of a group
pub items_are : (head : List ℕ) (ts : List Tree) → items_of (group_tree head ts) ≡ word_tree head ∷ ts
items_are head ts = ap items_in (outs-Group 0 (word_tree head ∷ ts))

-- its head
pub headed : (head own : List ℕ) (ts : List Tree)
    → is_headed head (group_tree own ts) ≡ str_eq_ignore_ascii_case own head
headed head own ts = ap (λ (us : List Tree). is_keyword head (heads.text_of (slice_get us 0))) (items_are own ts)
    ∙ ap (λ x. is_keyword head (heads.text_in x)) (outs-Word 0 own)

-- one of several
pub headed_by : (hs : List (List ℕ)) (own : List ℕ) (ts : List Tree)
    → has_head hs (group_tree own ts) ≡ list_any (str_eq_ignore_ascii_case own) hs
headed_by [] own ts = refl
headed_by (h ∷ hs) own ts = λ i. headed h own ts i || headed_by hs own ts i

-- ---- words of a list
-- the first
pub word_first : (text : List ℕ) (ts : List Tree)
    → filter is_word (word_tree text ∷ ts) ≡ word_tree text ∷ filter is_word ts
word_first text ts = ap (λ (b : Bool). cond b (word_tree text ∷ filter is_word ts) (filter is_word ts)) (word_is text)

-- those of a group
pub words_are : (head : List ℕ) (ts : List Tree) → words_of (group_tree head ts) ≡ word_tree head ∷ filter is_word ts
words_are head ts = ap (λ (us : List Tree). filter is_word us) (items_are head ts) ∙ word_first head ts

-- the name of a group that has one
pub name_is : (head name : List ℕ) (ts : List Tree) → name_of (group_tree head (word_tree name ∷ ts)) 1 ≡ name
name_is head name ts =
    ap (λ (us : List Tree). option_map_or text_of (slice_get us 1) [])
    (words_are head (word_tree name ∷ ts) ∙ ap (λ (us : List Tree). word_tree head ∷ us) (word_first name ts))
    ∙ text_is name

-- its second name
pub second_is : (head name other : List ℕ) (ts : List Tree)
    → name_of (group_tree head (word_tree name ∷ word_tree other ∷ ts)) 2 ≡ other
second_is head name other ts =
    ap (λ (us : List Tree). option_map_or text_of (slice_get us 2) [])
    (words_are head (word_tree name ∷ word_tree other ∷ ts)
    ∙ ap (λ (us : List Tree). word_tree head ∷ us)
    (word_first name (word_tree other ∷ ts) ∙ ap (λ (us : List Tree). word_tree name ∷ us) (word_first other ts)))
    ∙ text_is other

-- ---- lists of a group
-- where a list has one of some heads
pub here : (hs : List (List ℕ)) (own : List ℕ) (us ts : List Tree) → list_any (str_eq_ignore_ascii_case own) hs ≡ true
    → filter (has_head hs) (group_tree own us ∷ ts) ≡ group_tree own us ∷ filter (has_head hs) ts
here hs own us ts e = ap (λ (b : Bool). cond b (group_tree own us ∷ filter (has_head hs) ts) (filter (has_head hs) ts))
    (headed_by hs own us ∙ e)

-- a word has none
pub passed : (hs : List (List ℕ)) (text : List ℕ) (ts : List Tree)
    → filter (has_head hs) (word_tree text ∷ ts) ≡ filter (has_head hs) ts
passed hs text ts = ap (λ (b : Bool). cond b (word_tree text ∷ filter (has_head hs) ts) (filter (has_head hs) ts))
    (no_head_of hs text)

-- the lists of a group
pub lists_are : (hs : List (List ℕ)) (head : List ℕ) (ts : List Tree)
    → lists hs (group_tree head ts ∷ []) ≡ filter (has_head hs) ts
unfolding lists
lists_are hs head ts = append-nil (filter (has_head hs) (items_of (group_tree head ts)))
    ∙ ap (λ (us : List Tree). filter (has_head hs) us) (items_are head ts) ∙ passed hs head ts

-- ---- the first list with a head
-- in a group
pub child_is : (head own : List ℕ) (ts : List Tree) → child (group_tree own ts) head ≡ find (is_headed head) ts
child_is head own ts = ap (λ (us : List Tree). find (is_headed head) us) (items_are own ts)
    ∙ ap (λ (b : Bool). cond b (Some (word_tree own)) (find (is_headed head) ts)) (no_head head own)

-- behind a word
pub not_word : (head text : List ℕ) (ts : List Tree)
    → find (is_headed head) (word_tree text ∷ ts) ≡ find (is_headed head) ts
not_word head text ts = ap (λ (b : Bool). cond b (Some (word_tree text)) (find (is_headed head) ts))
    (no_head head text)

-- behind a list of another head
pub not_here : (head : List ℕ) (t : Tree) (ts : List Tree) → is_headed head t ≡ false
    → find (is_headed head) (t ∷ ts) ≡ find (is_headed head) ts
not_here head t ts e = ap (λ (b : Bool). cond b (Some t) (find (is_headed head) ts)) e

-- at the front
pub found : (head : List ℕ) (t : Tree) (ts : List Tree) → is_headed head t ≡ true
    → find (is_headed head) (t ∷ ts) ≡ Some t
found head t ts e = ap (λ (b : Bool). cond b (Some t) (find (is_headed head) ts)) e
