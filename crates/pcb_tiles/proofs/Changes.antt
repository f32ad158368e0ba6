-- What a change of the items does to their tiles.
use Rattle.std.proofs.Common.{◌≡◌, ℕ, ◌<◌, ◌^◌, Bool, true, false, cond, not, ◌&&◌, ltb, eqb, List}
use Rattle.std.proofs.Common.{[], ◌∷◌, ◌++◌, length, map, filter, All, AllPairs, get_or, refl, sym, ap}
use Rattle.std.proofs.Common.{◌∙◌, subst, arith, append_assoc, inl, inr, ◌⊎◌}
use Prim.Native.Nat.{zero, suc}
use Rattle.std.specs.Prelude.{Contains, remove, slice_get, Some}
use Rattle.std.specs.List.{range_with_len}
use Rattle.std.proofs.lemmas.List.{map-append}
use Rattle.std.proofs.lemmas.List.Elements.{filter-append, filter_passes, All-head, All-tail, All-cons}
use Rattle.std.proofs.lemmas.List.Elements.{All-append, All-filter, All-weaker}
use Rattle.std.proofs.lemmas.List.Kept.{AllPairs-cons, AllPairs-filter}
use Rattle.std.proofs.lemmas.Bool.{lt-ltb, le-ltb, ltb-true, eqb-true, eq-eqb, ne_eqb}
use Rattle.pcb_model.specs.declared.item.Item.{Item}
use Rattle.pcb_model.specs.Copper.{Ascends, Removes}
use Rattle.pcb_tiles.specs.Kept.{IsSpread}
use Rattle.pcb_tiles.specs.declared.cells.Entry.{Entry}
use Rattle.geo_kernel.specs.declared.point.Rect4.{Rect4}
use Rattle.pcb_tiles.specs.declared.block.Block.{Block}
use Rattle.pcb_tiles.specs.declared.cells.Change.{Change}
use Rattle.pcb_tiles.specs.declared.cells.Change.TheVariants.{Put, Drop}
use Rattle.pcb_tiles.specs.Tiling.{columns_in, rows_in, own_block, has_entry, is_between}
use Rattle.pcb_tiles.specs.Cells.{entry_of, entries_at, row_at, grid_of, with_item, without_item, with_entry}
use Rattle.pcb_tiles.specs.Cells.{without_entry, changed_cell, next_cell, changed_row, next_row, changed_grid}
use Rattle.std.proofs.lemmas.List.FromFn.{get_or-map-range_with_len, length-map-range_with_len}
use Rattle.pcb_tiles.proofs.Ranges.{map_range_agree, get_or_any}
use Rattle.pcb_tiles.proofs.Grids.{row_is_at}
use Rattle.pcb_model.specs.Bounds.{IsItemFit}
use Rattle.pcb_tiles.specs.Shelves.{flat, IsChunk}

-- ---- lists by filters
pub put_is : (items : List Item) (a b : Item) (none below placed all : List Item) (i j : ℕ) → none ≡ []
    → below ≡ none ++ filter (λ (f : Item). ltb f.id i) items → i ≡ a.id → placed ≡ below ++ b ∷ [] → b ≡ a
    → all ≡ placed ++ filter (λ (f : Item). ltb j f.id) items → j ≡ a.id → all ≡ with_item a items
put_is items a b none below placed all i j n h e p q k g =
    let low = filter (λ (f : Item). ltb f.id a.id) items in
    let high = filter (λ (f : Item). ltb a.id f.id) items in
    let B : ℕ → List Item = λ m. none ++ filter (λ (f : Item). ltb f.id m) items in
    let N : List Item → List Item = λ x. x ++ low in
    let P : List Item → List Item = λ x. x ++ b ∷ [] in
    let Q : Item → List Item = λ x. low ++ x ∷ [] in
    let H : ℕ → List Item = λ m. placed ++ filter (λ (f : Item). ltb m f.id) items in
    let L : List Item → List Item = λ x. x ++ high in
    k ∙ (ap H g ∙ (ap L (p ∙ (ap P (h ∙ (ap B e ∙ ap N n)) ∙ ap Q q)) ∙ append_assoc low (a ∷ []) high))

-- ---- filters
pub kept : {X : Type 0} (p : X → Bool) (x : X) (xs : List X) → p x ≡ true → filter p (x ∷ xs) ≡ x ∷ filter p xs
kept {X} p x xs e = let F : Bool → List X = λ b. cond b (x ∷ filter p xs) (filter p xs) in ap F e

pub left_out : {X : Type 0} (p : X → Bool) (x : X) (xs : List X) → p x ≡ false → filter p (x ∷ xs) ≡ filter p xs
left_out {X} p x xs e = let F : Bool → List X = λ b. cond b (x ∷ filter p xs) (filter p xs) in ap F e

swap_step : {X : Type 0} (p q : X → Bool) (t u : Bool) (x : X) (xs : List X) → q x ≡ t → p x ≡ u
    → filter p (filter q xs) ≡ filter q (filter p xs)
    → filter p (cond t (x ∷ filter q xs) (filter q xs)) ≡ filter q (cond u (x ∷ filter p xs) (filter p xs))
swap_step p q true true x xs e f h = kept p x (filter q xs) f ∙ (ap (λ l. x ∷ l) h ∙ sym (kept q x (filter p xs) e))
swap_step p q true false x xs e f h = left_out p x (filter q xs) f ∙ h
swap_step p q false true x xs e f h = h ∙ sym (left_out q x (filter p xs) e)
swap_step p q false false x xs e f h = h

filter_swap : {X : Type 0} (p q : X → Bool) (xs : List X) → filter p (filter q xs) ≡ filter q (filter p xs)
filter_swap p q [] = refl
filter_swap p q (x ∷ xs) = swap_step p q (q x) (p x) x xs refl refl (filter_swap p q xs)

map_step : {X Y : Type 0} (f : X → Y) (q : Y → Bool) (t : Bool) (x : X) (xs : List X)
    → filter q (map f xs) ≡ map f (filter (λ y. q (f y)) xs)
    → cond t (f x ∷ filter q (map f xs)) (filter q (map f xs)) ≡ map f
    (cond t (x ∷ filter (λ y. q (f y)) xs) (filter (λ y. q (f y)) xs))
map_step f q true x xs h = ap (λ l. f x ∷ l) h
map_step f q false x xs h = h

pub filter_of_map : {X Y : Type 0} (f : X → Y) (q : Y → Bool) (xs : List X)
    → filter q (map f xs) ≡ map f (filter (λ y. q (f y)) xs)
filter_of_map f q [] = refl
filter_of_map f q (x ∷ xs) = map_step f q (q (f x)) x xs (filter_of_map f q xs)

twice_step : {X : Type 0} (p q : X → Bool) (t u : Bool) (x : X) (xs : List X) → q x ≡ t → p x ≡ u
    → (q x ≡ false → p x ≡ false) → filter p (filter q xs) ≡ filter p xs
    → filter p (cond t (x ∷ filter q xs) (filter q xs)) ≡ cond u (x ∷ filter p xs) (filter p xs)
twice_step p q true true x xs e f n h = kept p x (filter q xs) f ∙ ap (λ l. x ∷ l) h
twice_step p q true false x xs e f n h = left_out p x (filter q xs) f ∙ h
twice_step p q false true x xs e f n h = let g : p x ≡ false = n e in cc
twice_step p q false false x xs e f n h = h

-- what a filter leaves out may be left out before it
filter_twice : {X : Type 0} (p q : X → Bool) (xs : List X) → All (λ x. q x ≡ false → p x ≡ false) xs
    → filter p (filter q xs) ≡ filter p xs
filter_twice p q [] h = refl
filter_twice {X} p q (x ∷ xs) h = let P : X → Type 0 = λ y. q y ≡ false → p y ≡ false in
    twice_step p q (q x) (p x) x xs refl refl (All-head P x xs h) (filter_twice p q xs (All-tail P x xs h))

pub filter_all : {X : Type 0} (p : X → Bool) (xs : List X) → All (λ x. p x ≡ true) xs → filter p xs ≡ xs
filter_all p [] h = refl
filter_all {X} p (x ∷ xs) h = let P : X → Type 0 = λ y. p y ≡ true in
    kept p x xs (All-head P x xs h) ∙ ap (λ l. x ∷ l) (filter_all p xs (All-tail P x xs h))

filter_none : {X : Type 0} (p : X → Bool) (xs : List X) → All (λ x. p x ≡ false) xs → filter p xs ≡ []
filter_none p [] h = refl
filter_none {X} p (x ∷ xs) h = let P : X → Type 0 = λ y. p y ≡ false in
    left_out p x xs (All-head P x xs h) ∙ filter_none p xs (All-tail P x xs h)

-- ---- pairs
pub pairs_head : {X : Type 0} (R : X → X → Type 0) (x : X) (xs : List X) → AllPairs R (x ∷ xs) → All (R x) xs
pairs_head R x xs h = λ k d l. h zero (suc k) d (omega arith) (omega (arith, l))

pub pairs_tail : {X : Type 0} (R : X → X → Type 0) (x : X) (xs : List X) → AllPairs R (x ∷ xs) → AllPairs R xs
pairs_tail R x xs h = λ i j d m l. h (suc i) (suc j) d (omega (arith, m)) (omega (arith, l))

pairs_append : {X : Type 0} (R : X → X → Type 0) (xs ys : List X) → AllPairs R xs → AllPairs R ys
    → All (λ x. All (R x) ys) xs → AllPairs R (xs ++ ys)
pairs_append R [] ys h k c = k
pairs_append {X} R (x ∷ xs) ys h k c =
    let P : X → Type 0 = λ y. All (R y) ys in
    AllPairs-cons R x (xs ++ ys) (All-append (R x) xs ys (pairs_head R x xs h) (All-head P x xs c))
    (pairs_append R xs ys (pairs_tail R x xs h) k (All-tail P x xs c))

-- ---- items by id
abbrev pub IsBelow : Item → Item → Type 0
IsBelow a b = a.id < b.id

pub above_high : (n : ℕ) (items : List Item) → All (λ (b : Item). n < b.id) items
    → filter (λ (b : Item). ltb n b.id) items ≡ items
above_high n items h =
    filter_all (λ (b : Item). ltb n b.id) items
    (All-weaker (λ (b : Item). n < b.id) (λ (b : Item). ltb n b.id ≡ true) (λ b l. lt-ltb n b.id l) items h)

pub above_low : (n : ℕ) (items : List Item) → All (λ (b : Item). n < b.id) items
    → filter (λ (b : Item). ltb b.id n) items ≡ []
above_low n items h =
    filter_none (λ (b : Item). ltb b.id n) items
    (All-weaker (λ (b : Item). n < b.id) (λ (b : Item). ltb b.id n ≡ false)
    (λ b l. le-ltb b.id n (omega (arith, l))) items h)

pub below_low : (n : ℕ) (items : List Item) → All (λ (b : Item). b.id < n) items
    → filter (λ (b : Item). ltb b.id n) items ≡ items
below_low n items h =
    filter_all (λ (b : Item). ltb b.id n) items
    (All-weaker (λ (b : Item). b.id < n) (λ (b : Item). ltb b.id n ≡ true) (λ b l. lt-ltb b.id n l) items h)

pub below_high : (n : ℕ) (items : List Item) → All (λ (b : Item). b.id < n) items
    → filter (λ (b : Item). ltb n b.id) items ≡ []
below_high n items h =
    filter_none (λ (b : Item). ltb n b.id) items
    (All-weaker (λ (b : Item). b.id < n) (λ (b : Item). ltb n b.id ≡ false)
    (λ b l. le-ltb n b.id (omega (arith, l))) items h)

-- an id above all goes to the end
pub with_last : (a : Item) (items : List Item) → All (λ (b : Item). b.id < a.id) items
    → with_item a items ≡ items ++ a ∷ []
with_last a items h =
    let F : List Item → List Item = λ x. x ++ a ∷ filter (λ (b : Item). ltb a.id b.id) items in
    let G : List Item → List Item = λ x. items ++ a ∷ x in
    ap F (below_low a.id items h) ∙ ap G (below_high a.id items h)

order : (x n : ℕ) → (x ≡ n → ⊥) → (x < n) ⊎ (n < x)
order zero zero h = absurd (h refl)
order zero (suc n) h = inl (omega arith)
order (suc x) zero h = inr (omega arith)
order (suc x) (suc n) h =
    elim (order x n (λ e. h (ap suc e))) [ inl l ↦ inl (omega (arith, l)) | inr l ↦ inr (omega (arith, l)) ]

split_step : (n : ℕ) (x : Item) (xs : List Item) → (x.id < n) ⊎ (n < x.id) → All (IsBelow x) xs
    → filter (λ (b : Item). ltb b.id n) xs ++ filter (λ (b : Item). ltb n b.id) xs ≡ xs
    → filter (λ (b : Item). ltb b.id n) (x ∷ xs) ++ filter (λ (b : Item). ltb n b.id) (x ∷ xs) ≡ x ∷ xs
split_step n x xs (inl l) up h =
    let low : Item → Bool = λ b. ltb b.id n in
    let high : Item → Bool = λ b. ltb n b.id in
    let F : List Item → List Item = λ y. y ++ filter high (x ∷ xs) in
    let G : List Item → List Item = λ y. (x ∷ filter low xs) ++ y in
    let H : List Item → List Item = λ y. x ∷ y in
    ap F (kept low x xs (lt-ltb x.id n l)) ∙ (ap G (left_out high x xs (le-ltb n x.id (omega (arith, l)))) ∙ ap H h)
split_step n x xs (inr l) up h =
    let low : Item → Bool = λ b. ltb b.id n in
    let high : Item → Bool = λ b. ltb n b.id in
    let above : All (λ (b : Item). n < b.id) xs =
    All-weaker (IsBelow x) (λ (b : Item). n < b.id) (λ b m. omega (arith, m, l)) xs up in
    let F : List Item → List Item = λ y. y ++ filter high (x ∷ xs) in
    let H : List Item → List Item = λ y. x ∷ y in
    ap F (left_out low x xs (le-ltb x.id n (omega (arith, l))) ∙ above_low n xs above)
    ∙ (kept high x xs (lt-ltb n x.id l) ∙ ap H (above_high n xs above))

-- the items below an id that none has, and those above it
pub split : (n : ℕ) (items : List Item) → Ascends items → All (λ (b : Item). b.id ≡ n → ⊥) items
    → filter (λ (b : Item). ltb b.id n) items ++ filter (λ (b : Item). ltb n b.id) items ≡ items
split n [] up none = refl
split n (x ∷ xs) up none =
    let P : Item → Type 0 = λ b. b.id ≡ n → ⊥ in
    split_step n x xs (order x.id n (All-head P x xs none)) (pairs_head IsBelow x xs up)
    (split n xs (pairs_tail IsBelow x xs up) (All-tail P x xs none))

low_passes : (n : ℕ) (items : List Item) → All (λ (b : Item). b.id < n) (filter (λ (b : Item). ltb b.id n) items)
low_passes n items =
    All-weaker (λ (b : Item). ltb b.id n ≡ true) (λ (b : Item). b.id < n) (λ b e. ltb-true b.id n e)
    (filter (λ (b : Item). ltb b.id n) items) (filter_passes (λ (b : Item). ltb b.id n) items)

high_passes : (n : ℕ) (items : List Item) → All (λ (b : Item). n < b.id) (filter (λ (b : Item). ltb n b.id) items)
high_passes n items =
    All-weaker (λ (b : Item). ltb n b.id ≡ true) (λ (b : Item). n < b.id) (λ b e. ltb-true n b.id e)
    (filter (λ (b : Item). ltb n b.id) items) (filter_passes (λ (b : Item). ltb n b.id) items)

pub with_ascends : (a : Item) (items : List Item) → Ascends items → Ascends (with_item a items)
with_ascends a items up =
    let low = filter (λ (b : Item). ltb b.id a.id) items in
    let high = filter (λ (b : Item). ltb a.id b.id) items in
    let h = high_passes a.id items in
    pairs_append IsBelow low (a ∷ high) (AllPairs-filter IsBelow (λ (b : Item). ltb b.id a.id) items up)
    (AllPairs-cons IsBelow a high h (AllPairs-filter IsBelow (λ (b : Item). ltb a.id b.id) items up))
    (All-weaker (λ (b : Item). b.id < a.id) (λ (b : Item). All (IsBelow b) (a ∷ high))
    (λ b l. All-cons (IsBelow b) a high l
    (All-weaker (λ (c : Item). a.id < c.id) (IsBelow b) (λ c m. omega (arith, l, m)) high h)) low
    (low_passes a.id items))

pub with_all : (P : Item → Type 0) (a : Item) (items : List Item) → P a → All P items → All P (with_item a items)
with_all P a items h k =
    All-append P (filter (λ (b : Item). ltb b.id a.id) items) (a ∷ filter (λ (b : Item). ltb a.id b.id) items)
    (All-filter (λ (b : Item). ltb b.id a.id) P items k)
    (All-cons P a (filter (λ (b : Item). ltb a.id b.id) items) h (All-filter (λ (b : Item). ltb a.id b.id) P items k))

-- ---- a tile that gets an entry, and one that doesn't
pub entry_put : (a : Item) (items : List Item)
    → with_entry (entry_of a) (map entry_of items) ≡ map entry_of (with_item a items)
entry_put a items =
    let low = filter (λ (b : Item). ltb b.id a.id) items in
    let high = filter (λ (b : Item). ltb a.id b.id) items in
    let F : List Entry → List Entry =
    λ x. x ++ entry_of a ∷ filter (λ (f : Entry). ltb a.id f.id) (map entry_of items) in
    let G : List Entry → List Entry = λ x. map entry_of low ++ entry_of a ∷ x in
    ap F (filter_of_map entry_of (λ (f : Entry). ltb f.id a.id) items)
    ∙ (ap G (filter_of_map entry_of (λ (f : Entry). ltb a.id f.id) items)
    ∙ sym (map-append entry_of low (a ∷ high)))

pub with_in : (p : Item → Bool) (a : Item) (items : List Item) → p a ≡ true
    → with_item a (filter p items) ≡ filter p (with_item a items)
with_in p a items e =
    let lo : Item → Bool = λ b. ltb b.id a.id in
    let hi : Item → Bool = λ b. ltb a.id b.id in
    let F : List Item → List Item = λ x. x ++ a ∷ filter hi (filter p items) in
    let G : List Item → List Item = λ x. filter p (filter lo items) ++ a ∷ x in
    let H : List Item → List Item = λ x. filter p (filter lo items) ++ x in
    ap F (filter_swap lo p items)
    ∙ (ap G (filter_swap hi p items)
    ∙ (ap H (sym (kept p a (filter hi items) e)) ∙ sym (filter-append p (filter lo items) (a ∷ filter hi items))))

pub with_out : (p : Item → Bool) (a : Item) (items : List Item) → Ascends items
    → All (λ (b : Item). b.id ≡ a.id → ⊥) items → p a ≡ false → filter p items ≡ filter p (with_item a items)
with_out p a items up none e =
    let low = filter (λ (b : Item). ltb b.id a.id) items in
    let high = filter (λ (b : Item). ltb a.id b.id) items in
    let H : List Item → List Item = λ x. filter p low ++ x in
    ap (filter p) (sym (split a.id items up none))
    ∙ (filter-append p low high ∙ (ap H (sym (left_out p a high e)) ∙ sym (filter-append p low (a ∷ high))))

-- ---- a tile that loses one
pub entry_take : (id : ℕ) (items : List Item)
    → without_entry id (map entry_of items) ≡ map entry_of (without_item id items)
entry_take id items = filter_of_map entry_of (λ (f : Entry). not (eqb f.id id)) items

pub take_in : (p : Item → Bool) (id : ℕ) (items : List Item)
    → without_item id (filter p items) ≡ filter p (without_item id items)
take_in p id items = filter_swap (λ (b : Item). not (eqb b.id id)) p items

not_false_at : (x n : ℕ) (b : Bool) → eqb x n ≡ b → not b ≡ false → x ≡ n
not_false_at x n true e h = eqb-true x n e
not_false_at x n false e h = cc

not_false : (x n : ℕ) → not (eqb x n) ≡ false → x ≡ n
not_false x n h = not_false_at x n (eqb x n) refl h

pub not_same : (x n : ℕ) → (x ≡ n → ⊥) → not (eqb x n) ≡ true
not_same x n h = ap not (ne_eqb x n h)

same_false : (x n : ℕ) → x ≡ n → not (eqb x n) ≡ false
same_false x n h = ap not (eq-eqb x n h)

pub take_out : (p : Item → Bool) (a : Item) (items : List Item) → All (λ (b : Item). b.id ≡ a.id → b ≡ a) items
    → p a ≡ false → filter p items ≡ filter p (without_item a.id items)
take_out p a items only e =
    let q : Item → Bool = λ b. not (eqb b.id a.id) in
    sym (filter_twice p q items
    (All-weaker (λ (b : Item). b.id ≡ a.id → b ≡ a) (λ (b : Item). q b ≡ false → p b ≡ false)
    (λ b f n. ap p (f (not_false b.id a.id n)) ∙ e) items only))

-- the items without one are those whose ids differ
pub without_is : (items : List Item) (i id : ℕ) → Ascends items → i < length items
    → ((d : Item) → (get_or items i d).id ≡ id) → without_item id items ≡ remove items i
without_is [] i id up l h = absurd (omega (arith, l))
without_is (x ∷ xs) zero id up l h =
    let q : Item → Bool = λ b. not (eqb b.id id) in
    left_out q x xs (same_false x.id id (h x))
    ∙ filter_all q xs
    (All-weaker (IsBelow x) (λ (b : Item). q b ≡ true)
    (λ b m. not_same b.id id (λ e. let f = h x in omega (arith, m, e, f))) xs (pairs_head IsBelow x xs up))
without_is (x ∷ xs) (suc i) id up l h =
    let q : Item → Bool = λ b. not (eqb b.id id) in
    let m : x.id < (get_or xs i x).id = pairs_head IsBelow x xs up i x (omega (arith, l)) in
    kept q x xs (not_same x.id id (λ e. let f = h x in omega (arith, m, e, f)))
    ∙ ap (λ y. x ∷ y) (without_is xs i id (pairs_tail IsBelow x xs up) (omega (arith, l)) h)

-- ---- all tiles
grid_cells : (area : Rect4) (items : List Item) (row : ℕ) → length (row_at area items row) ≡ columns_in area
grid_cells area items row = length-map-range_with_len (entries_at area items row) 0 (columns_in area)

column_case : (change : Change) (b : Block) (area : Rect4) (items after : List Item) (row : ℕ)
    → ((column : ℕ) → column < columns_in area
    → cond (is_between b.first_column b.last_column column) (changed_cell change (entries_at area items row column))
    (entries_at area items row column) ≡ entries_at area after row column)
    → changed_row change b (row_at area items row) ≡ row_at area after row
column_case change b area items after row h =
    let r = row_at area items row in
    let F : ℕ → List (List Entry) = λ n. map (next_cell change b r) (range_with_len 0 n) in
    ap F (grid_cells area items row) ∙ map_range_agree (next_cell change b r) (entries_at area after row) 0
    (columns_in area)
    (λ column l m. let k : column < columns_in area = omega (arith, m) in
    let G : List Entry → List Entry =
    λ x. cond (is_between b.first_column b.last_column column) (changed_cell change x) x in
    ap G (get_or-map-range_with_len (entries_at area items row) 0 (columns_in area) column column [] k
    (omega arith)) ∙ h column k)

row_case : (change : Change) (b : Block) (area : Rect4) (items after : List Item) (row : ℕ) (t : Bool)
    → ((column : ℕ) → column < columns_in area
    → cond t (cond (is_between b.first_column b.last_column column)
    (changed_cell change (entries_at area items row column)) (entries_at area items row column))
    (entries_at area items row column) ≡ entries_at area after row column)
    → cond t (changed_row change b (row_at area items row)) (row_at area items row) ≡ row_at area after row
row_case change b area items after row true h = column_case change b area items after row h
row_case change b area items after row false h =
    map_range_agree (entries_at area items row) (entries_at area after row) 0 (columns_in area)
    (λ column l m. h column (omega (arith, m)))

-- a change of each tile is a change of all
pub grid_changed : (change : Change) (b : Block) (area : Rect4) (items after : List Item)
    → ((row column : ℕ)
    → cond (is_between b.first_row b.last_row row)
    (cond (is_between b.first_column b.last_column column)
    (changed_cell change (entries_at area items row column)) (entries_at area items row column))
    (entries_at area items row column) ≡ entries_at area after row column)
    → changed_grid change b (grid_of area items) ≡ grid_of area after
grid_changed change b area items after h =
    let grid = grid_of area items in
    let F : ℕ → List (List (List Entry)) = λ n. map (next_row change b grid) (range_with_len 0 n) in
    ap F (length-map-range_with_len (row_at area items) 0 (rows_in area))
    ∙ map_range_agree (next_row change b grid) (row_at area after) 0 (rows_in area)
    (λ row l m. let k : row < rows_in area = omega (arith, m) in
    let G : List (List Entry) → List (List Entry) =
    λ x. cond (is_between b.first_row b.last_row row) (changed_row change b x) x in
    ap G (row_is_at area items row k)
    ∙ row_case change b area items after row (is_between b.first_row b.last_row row) (λ column i. h row column))

has_is : (area : Rect4) (a : Item) (row column : ℕ) (t u : Bool)
    → is_between (own_block area a).first_row (own_block area a).last_row row ≡ t
    → is_between (own_block area a).first_column (own_block area a).last_column column ≡ u
    → has_entry area row column a ≡ (u && t)
has_is area a row column t u e f = let F : Bool → Bool =
    λ x. x && is_between (own_block area a).first_row (own_block area a).last_row row in
    let G : Bool → Bool = λ x. u && x in ap F f ∙ ap G e

put_cell : (area : Rect4) (a : Item) (items : List Item) (row column : ℕ) (t u : Bool) → Ascends items
    → All (λ (b : Item). b.id ≡ a.id → ⊥) items → has_entry area row column a ≡ (u && t)
    → cond t (cond u (with_entry (entry_of a) (entries_at area items row column)) (entries_at area items row column))
    (entries_at area items row column) ≡ entries_at area (with_item a items) row column
put_cell area a items row column true true up none e =
    entry_put a (filter (has_entry area row column) items)
    ∙ ap (map entry_of) (with_in (has_entry area row column) a items e)
put_cell area a items row column true false up none e =
    ap (map entry_of) (with_out (has_entry area row column) a items up none e)
put_cell area a items row column false true up none e =
    ap (map entry_of) (with_out (has_entry area row column) a items up none e)
put_cell area a items row column false false up none e =
    ap (map entry_of) (with_out (has_entry area row column) a items up none e)

pub grid_put : (area : Rect4) (a : Item) (items : List Item) → Ascends items
    → All (λ (b : Item). b.id ≡ a.id → ⊥) items
    → changed_grid (Put (entry_of a)) (own_block area a) (grid_of area items) ≡ grid_of area (with_item a items)
grid_put area a items up none =
    let b = own_block area a in
    grid_changed (Put (entry_of a)) b area items (with_item a items)
    (λ row column. put_cell area a items row column (is_between b.first_row b.last_row row)
    (is_between b.first_column b.last_column column) up none
    (has_is area a row column (is_between b.first_row b.last_row row)
    (is_between b.first_column b.last_column column) refl refl))

take_cell : (area : Rect4) (a : Item) (items : List Item) (row column : ℕ) (t u : Bool)
    → All (λ (b : Item). b.id ≡ a.id → b ≡ a) items → has_entry area row column a ≡ (u && t)
    → cond t (cond u (without_entry a.id (entries_at area items row column)) (entries_at area items row column))
    (entries_at area items row column) ≡ entries_at area (without_item a.id items) row column
take_cell area a items row column true true only e =
    entry_take a.id (filter (has_entry area row column) items)
    ∙ ap (map entry_of) (take_in (has_entry area row column) a.id items)
take_cell area a items row column true false only e =
    ap (map entry_of) (take_out (has_entry area row column) a items only e)
take_cell area a items row column false true only e =
    ap (map entry_of) (take_out (has_entry area row column) a items only e)
take_cell area a items row column false false only e =
    ap (map entry_of) (take_out (has_entry area row column) a items only e)

pub grid_take : (area : Rect4) (a : Item) (items : List Item) → All (λ (b : Item). b.id ≡ a.id → b ≡ a) items
    → changed_grid (Drop a.id) (own_block area a) (grid_of area items) ≡ grid_of area (without_item a.id items)
grid_take area a items only =
    let b = own_block area a in
    grid_changed (Drop a.id) b area items (without_item a.id items)
    (λ row column. take_cell area a items row column (is_between b.first_row b.last_row row)
    (is_between b.first_column b.last_column column) only
    (has_is area a row column (is_between b.first_row b.last_row row)
    (is_between b.first_column b.last_column column) refl refl))

pub grid_put_is : (area : Rect4) (a x : Item) (items : List Item) (grid after : List (List (List Entry))) (e : Entry)
    (b : Block) → after ≡ changed_grid (Put e) b grid → e ≡ entry_of a → b ≡ own_block area x → x ≡ a
    → grid ≡ grid_of area items → Ascends items
    → All (λ (y : Item). y.id ≡ a.id → ⊥) items → after ≡ grid_of area (with_item a items)
grid_put_is area a x items grid after e b h i j k l up none =
    let E : Entry → List (List (List Entry)) = λ y. changed_grid (Put y) b grid in
    let B : Block → List (List (List Entry)) = λ y. changed_grid (Put (entry_of a)) y grid in
    let G : List (List (List Entry)) → List (List (List Entry)) =
    λ y. changed_grid (Put (entry_of a)) (own_block area a) y in
    h ∙ (ap E i ∙ (ap B (j ∙ ap (own_block area) k) ∙ (ap G l ∙ grid_put area a items up none)))

pub grid_take_is : (area : Rect4) (a : Item) (items : List Item) (grid after : List (List (List Entry))) (b : Block)
    → after ≡ changed_grid (Drop a.id) b grid → b ≡ own_block area a → grid ≡ grid_of area items
    → All (λ (y : Item). y.id ≡ a.id → y ≡ a) items → after ≡ grid_of area (without_item a.id items)
grid_take_is area a items grid after b h j l only =
    let B : Block → List (List (List Entry)) = λ y. changed_grid (Drop a.id) y grid in
    let G : List (List (List Entry)) → List (List (List Entry)) =
    λ y. changed_grid (Drop a.id) (own_block area a) y in
    h ∙ (ap B j ∙ (ap G l ∙ grid_take area a items only))

-- ---- what tiles keep, with an item more or less
pub spread_with : (area : Rect4) (reach : ℕ) (shelf kept : List (List Item)) (grid after : List (List (List Entry)))
    (a : Item)
    → IsSpread area reach shelf grid → IsItemFit a → a.id < 2 ^ 64 → All IsChunk kept
    → flat kept ≡ with_item a (flat shelf)
    → after ≡ grid_of area (with_item a (flat shelf)) → IsSpread area reach kept after
spread_with area reach shelf kept grid after a h f l k e g =
    let P : Item → Type 0 = λ b. b.id < 2 ^ 64 in
    let G : List Item → List (List (List Entry)) = λ x. grid_of area x in
    record {
      area_is = h.area_is;
      reach_within = h.reach_within;
      chunks = k;
      ascends = subst Ascends (sym e) (with_ascends a (flat shelf) h.ascends);
      ids_within = subst (All P) (sym e) (with_all P a (flat shelf) l h.ids_within);
      fit = subst (All IsItemFit) (sym e) (with_all IsItemFit a (flat shelf) f h.fit);
      grid_is = g ∙ ap G (sym e);
    }

pub spread_without : (area : Rect4) (reach : ℕ) (shelf kept : List (List Item))
    (grid after : List (List (List Entry))) (id : ℕ)
    → IsSpread area reach shelf grid → All IsChunk kept → flat kept ≡ without_item id (flat shelf)
    → after ≡ grid_of area (without_item id (flat shelf)) → IsSpread area reach kept after
spread_without area reach shelf kept grid after id h k e g =
    let P : Item → Type 0 = λ b. b.id < 2 ^ 64 in
    let q : Item → Bool = λ b. not (eqb b.id id) in
    let G : List Item → List (List (List Entry)) = λ x. grid_of area x in
    record {
      area_is = h.area_is;
      reach_within = h.reach_within;
      chunks = k;
      ascends = subst Ascends (sym e) (AllPairs-filter IsBelow q (flat shelf) h.ascends);
      ids_within = subst (All P) (sym e) (All-filter q P (flat shelf) h.ids_within);
      fit = subst (All IsItemFit) (sym e) (All-filter q IsItemFit (flat shelf) h.fit);
      grid_is = g ∙ ap G (sym e);
    }

-- ---- what the changes are to the list
removed_at : (xs ys : List Item) (x : Item) → remove (xs ++ x ∷ ys) (length xs) ≡ xs ++ ys
removed_at [] ys x = refl
removed_at (z ∷ zs) ys x = ap (λ (l : List Item). z ∷ l) (removed_at zs ys x)

stands_at : (xs ys : List Item) (x : Item) → slice_get (xs ++ x ∷ ys) (length xs) ≡ Some x
stands_at [] ys x = refl
stands_at (z ∷ zs) ys x = stands_at zs ys x

pub gains_item : (a : Item) (items : List Item) → Ascends items → All (λ (b : Item). b.id ≡ a.id → ⊥) items
    → Removes (with_item a items) a items
gains_item a items up none =
    let low = filter (λ (b : Item). ltb b.id a.id) items in
    let high = filter (λ (b : Item). ltb a.id b.id) items in
    record {
      place = length low;
      there = stands_at low high a;
      rest_is = sym (removed_at low high a ∙ split a.id items up none);
    }

pub order_all : (x n : ℕ) → (x ≡ n) ⊎ ((x < n) ⊎ (n < x))
order_all zero zero = inl refl
order_all zero (suc n) = inr (inl (omega arith))
order_all (suc x) zero = inr (inr (omega arith))
order_all (suc x) (suc n) =
    elim (order_all x n) [
      | inl e ↦ inl (ap suc e)
      | inr o ↦
          inr (elim o [ inl l ↦ inl (omega (arith, l)) | inr l ↦ inr (omega (arith, l)) ])
    ]

get_any : (items : List Item) (k : ℕ) (d e : Item) → k < length items → get_or items k d ≡ get_or items k e
get_any items k d e h = get_or_any items k d e h

pub only_one : (a : Item) (items : List Item) → Ascends items → Contains items a
    → All (λ (b : Item). b.id ≡ a.id → b ≡ a) items
only_one a items up (i, l, is) = λ k d h e. elim (order_all k i) [
  | inl s ↦ ap (λ (j : ℕ). get_or items j d) s ∙ (get_any items i d a l ∙ is)
  | inr o ↦ let j : (get_or items i d).id ≡ a.id = ap (λ (b : Item). b.id) (get_any items i d a l ∙ is) in elim o [
    | inl m ↦ absurd (let u = up k i d m l in omega (arith, u, e, j))
    | inr m ↦ absurd (let u = up i k d m h in omega (arith, u, e, j))
  ]
]

got : (items : List Item) (k : ℕ) (a : Item) → k < length items → get_or items k a ≡ a → slice_get items k ≡ Some a
got [] k a l e = absurd (omega (arith, l))
got (x ∷ xs) zero a l e = ap Some e
got (x ∷ xs) (suc k) a l e = got xs k a (omega (arith, l)) e

pub loses_item : (a : Item) (items : List Item) → Ascends items → Contains items a
    → Removes items a (without_item a.id items)
loses_item a items up (i, l, is) = record {
  place = i;
  there = got items i a l is;
  rest_is = without_is items i a.id up l (λ d. ap (λ (b : Item). b.id) (get_any items i d a l ∙ is));
}
