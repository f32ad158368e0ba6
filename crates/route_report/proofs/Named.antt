-- The items of ids that ascend, among items that ascend.
use Rattle.std.proofs.Common.{◌≡◌, ℕ, ◌<◌, ◌==◌, ◌||◌, zero, suc, Bool, true, false, true≢false, cond, refl}
use Rattle.std.proofs.Common.{sym, ◌∙◌, ap, List, [], ◌∷◌, ◌++◌, ◌+◌, ◌≤◌, filter, flat_map, drop, length}
use Rattle.std.proofs.Common.{get_or, length-drop, arith}
use Rattle.std.specs.Prelude.{All, Contains}
use Rattle.std.proofs.lemmas.Bool.{eq-eqb, ne_eqb, eqb-true, false_from_ne_true}
use Rattle.std.proofs.lemmas.List.{at_drop_all, at_drop_more, get_or_default, get_or-drop, drop_more, drop_all}
use Rattle.std.proofs.lemmas.List.{append-nil}
use Rattle.std.proofs.lemmas.List.Concat.{flat_map-append}
use Rattle.std.proofs.lemmas.List.Elements.{All-contains, All-tail}
use Rattle.std.proofs.lemmas.List.Folds.{Any-from_list_any, list_any-from_Any}
use Rattle.pcb_model.specs.declared.item.Item.{Item}
use Rattle.pcb_model.specs.Copper.{Ascends}
use Rattle.board_offers.proofs.Lists.{all_front, pairs_rest}
use Rattle.cut_certificate.specs.declared.cut.Block.{Block}
use Rattle.cut_certificate.specs.declared.cut.Blocker.TheVariants.{Item as OfItem, Outside}
use Rattle.route_report.specs.Report.{is_item, is_named}
use Rattle.route_report.specs.inner.Naming.{has_id, holds, is_among, AreAscending}

abbrev Before : Item → Item → Type 0
Before a b = a.id < b.id

-- no item has the id
pub none_has : (items : List Item) (id : ℕ) → All (λ (b : Item). b.id ≡ id → ⊥) items → filter (has_id id) items ≡ []
none_has [] id none = refl
none_has (a ∷ items) id none =
    let other : (id == a.id) ≡ false = ne_eqb id a.id (λ is. none 0 a (omega arith) (sym is)) in
    ap (λ b. cond b (a ∷ filter (has_id id) items) (filter (has_id id) items)) other
    ∙ none_has items id (All-tail (λ (b : Item). b.id ≡ id → ⊥) a items none)

-- nor has one where all are above
none_above : (items : List Item) (id : ℕ) → All (λ (b : Item). id < b.id) items → filter (has_id id) items ≡ []
none_above items id above = none_has items id (λ k d within is. omega (arith, above k d within, is))

-- one item has it
pub one_has : (items : List Item) (id : ℕ) (b : Item) → Ascends items → Contains items b → b.id ≡ id
    → filter (has_id id) items ≡ b ∷ []
one_has [] id b up (k, within, at) is = absurd (omega (arith, within))
one_has (a ∷ items) id b up (zero, within, at) is =
    let same : a ≡ b = at in
    let here : (id == a.id) ≡ true = eq-eqb id a.id (sym is ∙ ap (λ (x : Item). x.id) (sym same)) in
    let above : All (λ (x : Item). a.id < x.id) items = all_front Before a items up in
    let low : a.id ≡ id = ap (λ (x : Item). x.id) same ∙ is in
    let rest : filter (has_id id) items ≡ [] =
    none_above items id (λ k d less. omega (arith, above k d less, low)) in
    ap (λ t. cond t (a ∷ filter (has_id id) items) (filter (has_id id) items)) here
    ∙ (ap (λ (xs : List Item). a ∷ xs) rest ∙ ap (λ (x : Item). x ∷ []) same)
one_has (a ∷ items) id b up (suc k, within, at) is =
    let there : Contains items b = (k, omega (arith, within), at) in
    let less : a.id < b.id = All-contains (λ (x : Item). a.id < x.id) items b (all_front Before a items up) there in
    let other : (id == a.id) ≡ false = ne_eqb id a.id (λ same. omega (arith, less, same, is)) in
    ap (λ t. cond t (a ∷ filter (has_id id) items) (filter (has_id id) items)) other
    ∙ one_has items id b (pairs_rest Before a items up) there is

-- an item is of the first id (b) or of a later one (h)
step : (b h : Bool) (a : Item) (F H G : List Item) → F ≡ H ++ G → (b ≡ true → h ≡ false)
    → (b ≡ false → h ≡ true → H ≡ []) → cond (b || h) (a ∷ F) F ≡ cond b (a ∷ H) H ++ cond h (a ∷ G) G
step true true a F H G is apart before = absurd (true≢false (apart refl))
step true false a F H G is apart before = ap (λ (xs : List Item). a ∷ xs) is
step false true a F H G is apart before =
    let none : H ≡ [] = before refl refl in
    ap (λ (xs : List Item). a ∷ xs) (is ∙ ap (λ (xs : List Item). xs ++ G) none)
    ∙ ap (λ (xs : List Item). xs ++ a ∷ G) (sym none)
step false false a F H G is apart before = is

-- a number above the lowest, or one that is held
either_above : (b h : Bool) (low id x : ℕ) → (x == id) ≡ b → low < x → (h ≡ true → low < id) → (b || h) ≡ true
    → low < id
either_above true h low id x here less later either = omega (arith, less, eqb-true x id here)
either_above false h low id x other less later either = later either

-- an id that is held is above what is below all
above_held : (ids : List ℕ) (low id : ℕ) → All (λ y. low < y) ids → holds ids id ≡ true → low < id
above_held [] low id above held = absurd (true≢false (sym held))
above_held (x ∷ ids) low id above held =
    either_above (x == id) (holds ids id) low id x refl (above 0 x (omega arith))
    (above_held ids low id (All-tail (λ y. low < y) x ids above)) held

-- the items of an id below others, and those of the others
pub among_more : (x : ℕ) (xs : List ℕ) (items : List Item) → All (λ y. x < y) xs → Ascends items
    → filter (is_among (x ∷ xs)) items ≡ filter (has_id x) items ++ filter (is_among xs) items
among_more x xs [] above up = refl
among_more x xs (a ∷ items) above up =
    step (x == a.id) (holds xs a.id) a (filter (is_among (x ∷ xs)) items) (filter (has_id x) items)
    (filter (is_among xs) items) (among_more x xs items above (pairs_rest Before a items up))
    (λ here. false_from_ne_true (holds xs a.id)
    (λ held. omega (arith, above_held xs x a.id above held, eqb-true x a.id here)))
    (λ other held. none_above items x
    (λ k d within. omega (arith, above_held xs x a.id above held, all_front Before a items up k d within)))

pub among_none : (items : List Item) → filter (is_among []) items ≡ []
among_none [] = refl
among_none (a ∷ items) = among_none items

-- a test of ids and being there
holds_from : (ids : List ℕ) (id : ℕ) → Contains ids id → holds ids id ≡ true
holds_from ids id (k, within, is) =
    list_any-from_Any (λ x. x == id) ids (k, id, within, is, eq-eqb id id refl)

contains_at : (ids : List ℕ) (id k x : ℕ) → k < length ids → get_or ids k x ≡ x → x ≡ id → Contains ids id
contains_at ids id k x within is same =
    (k, within, get_or_default ids k id x within ∙ (is ∙ same))

contains_from : (ids : List ℕ) (id : ℕ) → holds ids id ≡ true → Contains ids id
contains_from ids id held =
    let found = Any-from_list_any (λ x. x == id) ids held in
    contains_at ids id found.0 found.1 found.2 found.3 (eqb-true found.1 id found.4)

same_when : (a b : Bool) → (a ≡ true → b ≡ true) → (b ≡ true → a ≡ true) → a ≡ b
same_when true b there back = sym (there refl)
same_when false true there back = back refl
same_when false false there back = refl

-- lists with the same numbers hold the same
pub holds_same : (xs ys : List ℕ) → ((id : ℕ) → Contains xs id → Contains ys id)
    → ((id : ℕ) → Contains ys id → Contains xs id) → (id : ℕ) → holds ys id ≡ holds xs id
holds_same xs ys there back id =
    same_when (holds ys id) (holds xs id)
    (λ held. holds_from xs id (back id (contains_from ys id held)))
    (λ held. holds_from ys id (there id (contains_from xs id held)))

-- the lines of one item
pub lines_of_one : (f : Item → List ℕ) (items : List Item) (id : ℕ) (b : Item) → Ascends items → Contains items b
    → b.id ≡ id → flat_map f (filter (has_id id) items) ≡ f b
lines_of_one f items id b up there is =
    ap (λ (xs : List Item). flat_map f xs) (one_has items id b up there is) ∙ append-nil (f b)

-- the ids behind a place are above the one there
above_place : (ids : List ℕ) (i : ℕ) → AreAscending ids → i < length ids
    → All (λ y. get_or ids i 0 < y) (drop (i + 1) ids)
above_place ids i up within k d less =
    let there : i + 1 + k < length ids = omega (arith, less, length-drop (i + 1) ids) in
    let at : get_or (drop (i + 1) ids) k d ≡ get_or ids (i + 1 + k) d = get_or-drop (i + 1) ids k d in
    let here : get_or ids i 0 ≡ get_or ids i d = get_or_default ids i 0 d within in
    omega (arith, up i (i + 1 + k) d (omega arith) there, at, here)

-- one more id of those that are left
pub lines_more : (f : Item → List ℕ) (ids : List ℕ) (i : ℕ) (items : List Item) → i < length ids → AreAscending ids
    → Ascends items → flat_map f (filter (is_among (drop i ids)) items)
    ≡ flat_map f (filter (has_id (get_or ids i 0)) items) ++ flat_map f (filter (is_among (drop (i + 1) ids)) items)
lines_more f ids i items within rises up =
    let x = get_or ids i 0 in
    let rest = drop (i + 1) ids in
    ap (λ (left : List ℕ). flat_map f (filter (is_among left) items)) (drop_more ids i 0 within)
    ∙ (ap (λ (xs : List Item). flat_map f xs) (among_more x rest items (above_place ids i rises within) up)
    ∙ flat_map-append f (filter (has_id x) items) (filter (is_among rest) items))

-- none is left
pub lines_none : (f : Item → List ℕ) (ids : List ℕ) (i : ℕ) (items : List Item) → length ids ≤ i
    → flat_map f (filter (is_among (drop i ids)) items) ≡ []
lines_none f ids i items past =
    ap (λ (left : List ℕ). flat_map f (filter (is_among left) items)) (drop_all i ids past)
    ∙ ap (λ (xs : List Item). flat_map f xs) (among_none items)

-- a test behind one that fails
or_end : (b r : Bool) → ((b || false) || r) ≡ (b || r)
or_end true r = refl
or_end false r = refl

-- tests behind the same one
or_front : (b p q r s : Bool) → (p || r) ≡ (q || s) → ((b || p) || r) ≡ ((b || q) || s)
or_front true p q r s e = refl
or_front false p q r s e = e

-- what one more id holds
holds_more : (ids : List ℕ) (new id : ℕ) (r : Bool) → (holds (ids ++ new ∷ []) id || r)
    ≡ (holds ids id || ((new == id) || r))
holds_more [] new id r = or_end (new == id) r
holds_more (x ∷ ids) new id r = or_front (x == id) (holds (ids ++ new ∷ []) id) (holds ids id) r ((new == id) || r)
    (holds_more ids new id r)

-- a block that names an id, which is held from then on
pub held_more : (blocked : List Block) (i : ℕ) (d : Block) (new id : ℕ) (n : Bool) (ids more : List ℕ)
    → i < length blocked → (get_or blocked i d).by ≡ OfItem new → more ≡ ids ++ new ∷ []
    → (holds ids id || is_named (drop i blocked) id) ≡ n → (holds more id || is_named (drop (i + 1) blocked) id) ≡ n
held_more blocked i d new id n ids more lt is pushed so_far =
    let rest = is_named (drop (i + 1) blocked) id in
    ap (λ xs. holds xs id || rest) pushed ∙ holds_more ids new id rest
    ∙ ap (λ t. holds ids id || (t || rest)) (sym (ap (is_item id) is))
    ∙ ap (λ t. holds ids id || t) (sym (at_drop_more (λ bs. is_named bs id) blocked i d lt)) ∙ so_far

-- a block that names none
pub held_on : (blocked : List Block) (i : ℕ) (d : Block) (id : ℕ) (n : Bool) (ids more : List ℕ)
    → i < length blocked → (get_or blocked i d).by ≡ Outside → more ≡ ids
    → (holds ids id || is_named (drop i blocked) id) ≡ n → (holds more id || is_named (drop (i + 1) blocked) id) ≡ n
held_on blocked i d id n ids more lt is same so_far =
    let rest = is_named (drop (i + 1) blocked) id in
    ap (λ xs. holds xs id || rest) same
    ∙ ap (λ t. holds ids id || (t || rest)) (sym (ap (is_item id) is))
    ∙ ap (λ t. holds ids id || t) (sym (at_drop_more (λ bs. is_named bs id) blocked i d lt)) ∙ so_far

-- none is left
pub held_all : (blocked : List Block) (i : ℕ) (id : ℕ) (n : Bool) (ids : List ℕ) → length blocked ≤ i
    → (holds ids id || is_named (drop i blocked) id) ≡ n → holds ids id ≡ n
held_all blocked i id n ids past so_far =
    sym (or_none (holds ids id)) ∙ ap (λ t. holds ids id || t) (sym (at_drop_all (λ bs. is_named bs id) blocked i past))
    ∙ so_far
  where
    or_none : (b : Bool) → (b || false) ≡ b
    or_none true = refl
    or_none false = refl
