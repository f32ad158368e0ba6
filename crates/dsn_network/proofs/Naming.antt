-- The last class list that names a net, and the class lists of a name, with one more list behind.
use Rattle.std.proofs.Common.{◌≡◌, ◌+◌, ◌<◌, ◌∙◌, ap, sym, ℕ, suc, List, [], ◌∷◌, ◌++◌, length, take, get_or, Bool}
use Rattle.std.proofs.Common.{true, false, cond, arith, append_assoc, refl, ◌||◌}
use Rattle.std.specs.Prelude.{Option, Some, None, map, unwrap_or, if◌then◌else◌}
use Rattle.std.specs.Option.{option_or}
use Rattle.std.specs.List.{list_any}
use Rattle.std.specs.Str.{bytes_eq}
use Rattle.std.proofs.lemmas.List.{append-nil, take_more, map-append, map_more, length-map, length-take-le}
use Rattle.std.proofs.lemmas.List.Folds.{list_any-append}
use Rattle.std.specs.Borrow.{Bor}
use Rattle.std.specs.BTreeMap.{BTreeMap, get_by}
use Rattle.std.specs.Cmp.Lexicographic.{slice_cmp}
use Rattle.std.specs.Ordering.{nat_cmp}
use Rattle.std.proofs.lemmas.Slice.Eq.{bytes_eq-Decides}
use Rattle.dsn_tree.specs.declared.tree.Tree.{Tree}
use Rattle.dsn_shapes.specs.Lists.{name_of, text_of, trees_of}
use Rattle.dsn_shapes.specs.Names.{names_at, place_index}
use Rattle.dsn_network.specs.Words.{words_from}
use Rattle.dsn_network.specs.Classes.{last_naming, names_net}
use Rattle.dsn_network.specs.Pairs.{places_from, places_named}
use Rattle.dsn_network.specs.Places.{places_by}

one_behind : (b : Bool) (m n : ℕ) (p r x : Option ℕ) → p ≡ (if b then Some m else r) → m ≡ n
    → option_or p x ≡ (if b then Some n else option_or r x)
one_behind true m n p r x e f = cc
one_behind false m n p r x e f = ap (λ z. option_or z x) e

pub named_behind : (name : List ℕ) (k : ℕ) (ts : List Tree) (t : Tree) → last_naming name k (ts ++ t ∷ [])
    ≡ (if names_net name t then Some (k + length ts) else last_naming name k ts)
named_behind name k [] t = let s : k ≡ k + 0 = omega arith in ap (λ m. cond (names_net name t) (Some m) None) s
named_behind name k (u ∷ ts) t =
    one_behind (names_net name t) (k + 1 + length ts) (k + suc (length ts)) _ (last_naming name (k + 1) ts) _
    (named_behind name (k + 1) ts t) (omega arith)

either : (a b : Bool) (class : ℕ) (start old new : Option ℕ) → old ≡ cond a (Some class) start
    → new ≡ cond b (Some class) old → new ≡ cond (a || (b || false)) (Some class) start
either true true class start old new e f = f
either true false class start old new e f = f ∙ e
either false true class start old new e f = f
either false false class start old new e f = f ∙ e

-- one more word of a class list
pub word_behind : (p : Tree → Bool) (words : List (Bor Tree)) (i : ℕ) (w : Bor Tree) (class : ℕ)
    (start old new : Option ℕ) → i < length words → w ≡ get_or words i w
    → old ≡ (if list_any p (trees_of (take i words)) then Some class else start)
    → new ≡ cond (p w.now) (Some class) old
    → new ≡ (if list_any p (trees_of (take (i + 1) words)) then Some class else start)
word_behind p words i w class start old new h is e f =
    let more : trees_of (take i words) ++ w.now ∷ [] ≡ trees_of (take (i + 1) words) =
    ap (λ (b : Bor Tree). trees_of (take i words) ++ (b.now ∷ [])) is
    ∙ sym (map_more (λ (b : Bor Tree). b.now) words i w h) in
    either (list_any p (trees_of (take i words))) (p w.now) class start old new e f
    ∙ ap (λ b. cond b (Some class) start) (sym (list_any-append p (trees_of (take i words)) (w.now ∷ [])))
    ∙ ap (λ ts. if list_any p ts then Some class else start) more

-- one more class list
pub class_behind : {N : Type 0} (f : N → Tree) (lists : List N) (k : ℕ) (x : N) (words : List Tree) (q : List ℕ)
    (old new : Option ℕ) → k < length lists → x ≡ get_or lists k x → words ≡ words_from 2 (f x)
    → old ≡ last_naming q 0 (map f (take k lists))
    → new ≡ (if list_any (λ w. bytes_eq (text_of w) q) words then Some k else old)
    → new ≡ last_naming q 0 (map f (take (k + 1) lists))
class_behind f lists k x words q old new h is e o n =
    let k_is : k ≡ 0 + length (map f (take k lists)) =
    omega (arith, length-map (take k lists) f, length-take-le k lists (omega arith)) in
    n
    ∙ ap (λ a. if list_any (λ w. bytes_eq (text_of w) q) words then Some k else a) o
    ∙ ap (λ ws. if list_any (λ w. bytes_eq (text_of w) q) ws then Some k else last_naming q 0 (map f (take k lists))) e
    ∙ ap (λ m. if names_net q (f x) then Some m else last_naming q 0 (map f (take k lists))) k_is
    ∙ sym (named_behind q 0 (map f (take k lists)) (f x))
    ∙ ap (last_naming q 0) (sym (map-append f (take k lists) (x ∷ [])) ∙ ap (λ y. map f (take k lists ++ y ∷ [])) is
    ∙ sym (ap (map f) (take_more lists k x h)))

-- the class lists of a name, with one more list behind
pub places_behind : (name : List ℕ) (k : ℕ) (ns : List (List ℕ)) (n : List ℕ) → places_from k name (ns ++ n ∷ [])
    ≡ places_from k name ns ++ (if bytes_eq n name then place_index (k + length ns) ∷ [] else [])
places_behind name k [] n =
    let s : k ≡ k + 0 = omega arith in
    append-nil (cond (bytes_eq n name) (place_index k ∷ []) [])
    ∙ ap (λ m. cond (bytes_eq n name) (place_index m ∷ []) []) s
places_behind name k (m ∷ ns) n =
    let s : k + 1 + length ns ≡ k + suc (length ns) = omega arith in
    ap (λ ps. cond (bytes_eq m name) (place_index k ∷ []) [] ++ ps)
    (places_behind name (k + 1) ns n ∙ ap (λ i. places_from (k + 1) name ns
    ++ cond (bytes_eq n name) (place_index i ∷ []) []) s)
    ∙ sym (append_assoc (cond (bytes_eq m name) (place_index k ∷ []) []) (places_from (k + 1) name ns)
    (cond (bytes_eq n name) (place_index (k + suc (length ns)) ∷ []) []))

-- one more class list is kept
pub place_kept : (lists : List (Bor Tree)) (k : ℕ) (x : Bor Tree) (q old new : List ℕ) → k < length lists
    → x ≡ get_or lists k x → old ≡ places_named q (names_at 1 (trees_of (take k lists)))
    → new ≡ old ++ (if bytes_eq (name_of x.now 1) q then place_index k ∷ [] else [])
    → new ≡ places_named q (names_at 1 (trees_of (take (k + 1) lists)))
unfolding places_named
place_kept lists k x q old new h is o n =
    let seen = trees_of (take k lists) in
    let k_is : k ≡ 0 + length (names_at 1 seen) =
    omega (
      arith,
      length-map seen (λ t. name_of t 1),
      length-map (take k lists) (λ (b : Bor Tree). b.now),
      length-take-le k lists (omega arith),
    ) in
    n ∙ ap (λ ps. ps ++ cond (bytes_eq (name_of x.now 1) q) (place_index k ∷ []) []) o
    ∙ ap (λ m. places_from 0 q (names_at 1 seen) ++ cond (bytes_eq (name_of x.now 1) q) (place_index m ∷ []) []) k_is
    ∙ sym (places_behind q 0 (names_at 1 seen) (name_of x.now 1))
    ∙ ap (places_from 0 q) (sym (map-append (λ t. name_of t 1) seen (x.now ∷ []))
    ∙ ap (names_at 1) (ap (λ (b : Bor Tree). seen ++ (b.now ∷ [])) is
    ∙ sym (map_more (λ (b : Bor Tree). b.now) lists k x h)))

abbrev pub get_at : BTreeMap (Bor (List ℕ)) (List ℕ) → List ℕ → Option (List ℕ)
get_at map name = get_by (λ k. slice_cmp nat_cmp name k.now) map

-- a name's places are taken out of a map and put back with one more, and those of other names stay
pub places_put : (old mid new : BTreeMap (Bor (List ℕ)) (List ℕ)) (name q : List ℕ) (after : List ℕ) (place : ℕ)
    → ((q : List ℕ) → get_at mid q ≡ cond (bytes_eq name q) None (get_at old q))
    → ((q : List ℕ) → get_at new q ≡ cond (bytes_eq name q) (Some after) (get_at mid q))
    → after ≡ places_by old name ++ place ∷ []
    → places_by new q ≡ places_by old q ++ (if bytes_eq name q then place ∷ [] else [])
places_put old mid new name q after place out in_again e =
    by (bytes_eq name q) (λ t. ap (places_by old) ((bytes_eq-Decides name q).0 t)) (out q) (in_again q)
  where
    by : (b : Bool) → (b ≡ true → places_by old name ≡ places_by old q)
        → get_at mid q ≡ cond b None (get_at old q) → get_at new q ≡ cond b (Some after) (get_at mid q)
        → places_by new q ≡ places_by old q ++ cond b (place ∷ []) []
    by true same p r = ap (λ o. unwrap_or o []) r ∙ e ∙ ap (λ ps. ps ++ place ∷ []) (same refl)
    by false same p r = ap (λ o. unwrap_or o []) (r ∙ p) ∙ sym (append-nil (places_by old q))
