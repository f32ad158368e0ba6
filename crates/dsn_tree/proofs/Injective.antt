-- A list of tokens is the tokens of one tree.
use Rattle.std.proofs.Common.{◌≡◌, ◌∙◌, ap, sym, ℕ, List, [], ◌∷◌, ◌++◌, map, refl, append_assoc, subst}
use Rattle.std.specs.List.{flat_map}
use Rattle.dsn_tree.specs.declared.tree.Tree.{Tree}
use Rattle.dsn_tree.specs.declared.tree.Tree.TheOpen.{Tree-F}
use Rattle.dsn_tree.specs.declared.tree.Tree.TheOpen as layer
use Rattle.dsn_tree.specs.declared.tree.Tree.TheViews.{out-Tree, roll-Tree, roll-out-Tree}
use Rattle.dsn_tree.specs.declared.tree.Tree.TheFolds.{ind-Tree, map-Tree}
use Rattle.dsn_tree.specs.Flat.{flat}
use Rattle.dsn_tree.proofs.Flats.{right, cons_one, layer_word, layer_group}
use Rattle.dsn_tokens.specs.declared.token.Token.{Token}
use Rattle.dsn_tokens.specs.declared.token.Mark.TheVariants.{Left, Word}

abbrev pub IsOne : Tree → Type 0
IsOne t = (u : Tree) (xs ys : List Token) → flat t ++ xs ≡ flat u ++ ys → (t ≡ u) × (xs ≡ ys)

group_flat : (at : ℕ) (items : List Tree) (xs : List Token) → flat (roll-Tree (layer.Group at items)) ++ xs
    ≡ record { at = at; mark = Left } ∷ (flat_map flat items ++ right ∷ xs)
group_flat at items xs =
    ap (λ ts. ts ++ xs) (layer_group at items) ∙ ap (λ ts. record { at = at; mark = Left } ∷ ts)
    (append_assoc (flat_map flat items) (right ∷ []) xs)

-- no tree begins with a closing bracket
starts_layer : (l : Tree-F Tree) (xs ys : List Token) → right ∷ xs ≡ flat (roll-Tree l) ++ ys → ⊥
starts_layer (layer.Word at text) xs ys e =
    let h = ap (λ t. t.mark) (cons_one _ _ xs ys (e ∙ ap (λ ts. ts ++ ys) (layer_word at text))).0 in cc
starts_layer (layer.Group at items) xs ys e =
    let h = ap (λ t. t.mark) (cons_one _ _ xs _ (e ∙ group_flat at items ys)).0 in cc

starts : (u : Tree) (xs ys : List Token) → right ∷ xs ≡ flat u ++ ys → ⊥
starts u xs ys e = starts_layer (out-Tree u) xs ys (e ∙ ap (λ t. flat t ++ ys) (sym (roll-out-Tree u)))

items_one : (es : List ((t : Tree) × IsOne t)) (us : List Tree) (xs ys : List Token) → flat_map flat (map (λ e. e.0) es)
    ++ right ∷ xs ≡ flat_map flat us ++ right ∷ ys → (map (λ e. e.0) es ≡ us) × (xs ≡ ys)
items_one [] [] xs ys e = (refl, (cons_one right right xs ys e).1)
items_one [] (u ∷ us) xs ys e = absurd (starts u xs _ (e ∙ append_assoc (flat u) (flat_map flat us) (right ∷ ys)))
items_one (t ∷ es) [] xs ys e =
    absurd (starts t.0 ys _ (sym e ∙ append_assoc (flat t.0) (flat_map flat (map (λ e. e.0) es)) (right ∷ xs)))
items_one (t ∷ es) (u ∷ us) xs ys e =
    let h = t.1 u (flat_map flat (map (λ e. e.0) es) ++ right ∷ xs) (flat_map flat us ++ right ∷ ys)
    (sym (append_assoc (flat t.0) (flat_map flat (map (λ e. e.0) es)) (right ∷ xs)) ∙ e
    ∙ append_assoc (flat u) (flat_map flat us) (right ∷ ys)) in
    let r = items_one es us xs ys h.1 in
    (ap (λ z. z ∷ map (λ e. e.0) es) h.0 ∙ ap (λ zs. u ∷ zs) r.0, r.1)

word_layer : (at : ℕ) (text : List ℕ) (l : Tree-F Tree) (xs ys : List Token) → flat (roll-Tree (layer.Word at text))
    ++ xs ≡ flat (roll-Tree l) ++ ys → (roll-Tree (layer.Word at text) ≡ roll-Tree l) × (xs ≡ ys)
word_layer at text (layer.Word b t) xs ys e =
    let h = cons_one _ _ xs ys
    (sym (ap (λ ts. ts ++ xs) (layer_word at text)) ∙ e ∙ ap (λ ts. ts ++ ys) (layer_word b t)) in
    (same at b text t (ap (λ t. t.at) h.0) (ap (λ t. t.mark) h.0), h.1)
  where
    same : (a b : ℕ) (s t : List ℕ) → a ≡ b → Word s ≡ Word t → roll-Tree (layer.Word a s) ≡ roll-Tree (layer.Word b t)
    same a b s t e f = let g : s ≡ t = cc in cc
word_layer at text (layer.Group b items) xs ys e =
    let h = ap (λ t. t.mark)
    (cons_one _ _ xs _ (sym (ap (λ ts. ts ++ xs) (layer_word at text)) ∙ e ∙ group_flat b items ys)).0 in cc

group_layer : (at : ℕ) (es : List ((t : Tree) × IsOne t)) (l : Tree-F Tree) (xs ys : List Token)
    → flat (roll-Tree (layer.Group at (map (λ e. e.0) es))) ++ xs ≡ flat (roll-Tree l) ++ ys
    → (roll-Tree (layer.Group at (map (λ e. e.0) es)) ≡ roll-Tree l) × (xs ≡ ys)
group_layer at es (layer.Word b t) xs ys e =
    let h = ap (λ t. t.mark)
    (cons_one _ _ _ ys (sym (group_flat at (map (λ e. e.0) es) xs) ∙ e ∙ ap (λ ts. ts ++ ys) (layer_word b t))).0 in
    cc
group_layer at es (layer.Group b us) xs ys e =
    let h = cons_one _ _ _ _ (sym (group_flat at (map (λ e. e.0) es) xs) ∙ e ∙ group_flat b us ys) in
    let r = items_one es us xs ys h.1 in
    let a = ap (λ t. t.at) h.0 in
    (ap (λ n. roll-Tree (layer.Group n (map (λ e. e.0) es))) a ∙ ap (λ zs. roll-Tree (layer.Group b zs)) r.0, r.1)

from_layer : (t : Tree)
    → ((l : Tree-F Tree) (xs ys : List Token) → flat t ++ xs ≡ flat (roll-Tree l) ++ ys → (t ≡ roll-Tree l) × (xs ≡ ys))
    → IsOne t
from_layer t by u xs ys e = let r = by (out-Tree u) xs ys (e ∙ ap (λ t. flat t ++ ys) (sym (roll-out-Tree u))) in
    (r.0 ∙ roll-out-Tree u, r.1)

one_go : (y : Tree-F ((t : Tree) × IsOne t)) (x : Tree-F Tree) → map-Tree ((t : Tree) × IsOne t) Tree (λ e. e.0) y ≡ x
    → IsOne (roll-Tree x)
one_go (layer.Word at text) x is = subst (λ z. IsOne (roll-Tree z)) is (from_layer _ (word_layer at text))
one_go (layer.Group at es) x is = subst (λ z. IsOne (roll-Tree z)) is (from_layer _ (group_layer at es))

-- a list of tokens is that of one tree, whatever follows
pub flat_one : (t : Tree) → IsOne t
flat_one = ind-Tree IsOne (λ x y is. one_go y x is)
