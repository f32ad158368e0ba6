-- Entries put to their tiles at once: what each step adds, and that the whole is the grid of the items.
use Rattle.std.proofs.Common.{◌≡◌, ℕ, ◌+◌, ◌*◌, ◌<◌, ◌≤◌, ◌^◌, Bool, true, false, cond, ◌&&◌, List, [], ◌∷◌, ◌++◌}
use Rattle.std.proofs.Common.{length, map, filter, take, drop, All, get_or, refl, sym, ap, ◌∙◌, subst, arith}
use Rattle.std.proofs.Common.{true≢false, inl, inr, ◌⊎◌, ltb, leb, min}
use Prim.Native.Nat.{zero, suc}
use Rattle.std.proofs.lemmas.Bool.{le-leb, lt-leb, lt-ltb, le-ltb}
use Rattle.std.specs.List.{range_with_len}
use Rattle.std.proofs.Math.Seq.{take-add}
use Rattle.std.proofs.lemmas.List.{append-nil, ext_get_or, take_all, take_more}
use Rattle.std.proofs.lemmas.List.Elements.{All-append, All-cons, All-nil, All-map, All-filter, All-weaker}
use Rattle.std.proofs.lemmas.List.Elements.{filter-append}
use Rattle.std.proofs.lemmas.List.FromFn.{get_or-map-range_with_len, length-map-range_with_len}
use Rattle.geo_kernel.specs.declared.point.Rect4.{Rect4}
use Rattle.pcb_model.specs.declared.item.Item.{Item}
use Rattle.pcb_model.specs.declared.near.Extent.{Extent}
use Rattle.pcb_model.specs.Bounds.{IsItemFit}
use Rattle.pcb_model.specs.Copper.{Ascends}
use Rattle.pcb_model.specs.Near.{IsBoxWithin, extent_of}
use Rattle.pcb_model.proofs.Least.{extent_within}
use Rattle.pcb_tiles.specs.declared.cells.Entry.{Entry}
use Rattle.pcb_tiles.specs.declared.fill.Along.{Along}
use Rattle.pcb_tiles.specs.declared.fill.Along.TheVariants.{Rows, Columns}
use Rattle.pcb_tiles.specs.declared.block.Block.{Block}
use Rattle.pcb_tiles.specs.Tiling.{IsArea, IsBlockIn, columns_in, rows_in, is_between, own_block}
use Rattle.pcb_tiles.specs.Cells.{entry_of, entries_at, row_at, grid_of, cell_at}
use Rattle.pcb_tiles.specs.Filling.{IsMade, IsRun, count_along, stands_at, places_along, row_of_tiles}
use Rattle.pcb_tiles.specs.Kept.{IsSpread}
use Rattle.pcb_tiles.specs.Shelves.{flat, IsChunk}
use Rattle.pcb_tiles.proofs.Changes.{kept, left_out, filter_of_map}
use Rattle.pcb_tiles.proofs.Nearness.{cases_lt, extent_holds}
use Rattle.pcb_tiles.proofs.Ranges.{map_range_agree}

-- ---- one after the other
pub one_more : {X : Type 0} (xs : List X) (i : ℕ) (a : X) → i < length xs → a ≡ get_or xs i a
    → take (i + 1) xs ≡ take i xs ++ a ∷ []
one_more {X} xs i a within is = let F : X → List X = λ x. take i xs ++ x ∷ [] in
    take_more xs i a within ∙ ap F (sym is)

-- what holds of the first ones and of the next
pub all_more : {X : Type 0} (P : X → Type 0) (xs : List X) (i : ℕ) (a : X) → i < length xs → a ≡ get_or xs i a
    → All P (take i xs) → P a → All P (take (i + 1) xs)
all_more P xs i a within is all here =
    subst (All P) (sym (one_more xs i a within is))
    (All-append P (take i xs) (a ∷ []) all (All-cons P a [] here (All-nil P)))

-- ---- chunks
pub part_more : (held part so_far after : List Item) (i : ℕ) → so_far ≡ take (i * 128) held
    → part ≡ take 128 (drop (i * 128) held) → after ≡ so_far ++ part → after ≡ take ((i + 1) * 128) held
part_more held part so_far after i e f g =
    let F : List Item → List Item = λ xs. xs ++ part in
    let G : List Item → List Item = λ xs. take (i * 128) held ++ xs in
    let n : i * 128 + 128 ≡ (i + 1) * 128 = omega arith in
    g ∙ (ap F e ∙ (ap G f ∙ (sym (take-add (i * 128) 128 held) ∙ ap (λ (m : ℕ). take m held) n)))

-- the first ones of the rest are at most 128
pub part_is : {X : Type 0} (xs : List X) (n m : ℕ) → m ≡ min n 128 → length xs ≡ n → take m (take n xs) ≡ take 128 xs
part_is xs n m e l =
    let all : take n xs ≡ xs = take_all n xs (omega (arith, l)) in
    ap (take m) all ∙ elim (cases_lt n 128) [
      | inl h ↦ take_all m xs (omega (arith, e, l, h)) ∙ sym (take_all 128 xs (omega (arith, l, h)))
      | inr h ↦ (let same : m ≡ 128 = omega (arith, e, h) in ap (λ (k : ℕ). take k xs) same)
    ]

-- ---- an entry
pub made_entry : (a : Item) → IsItemFit a → IsMade (entry_of a)
made_entry a h = record { is = refl; fits = h }

pub extent_is : (e : Entry) → IsMade e → e.extent ≡ extent_of e.item.pieces
extent_is e m = ap (λ (f : Entry). f.extent) m.is

pub box_within : (e : Entry) → IsMade e → IsBoxWithin (2 ^ 29) e.extent.bounds
box_within e m = let F : Extent → Type 0 = λ x. IsBoxWithin (2 ^ 29) x.bounds in
    subst F (sym (extent_is e m)) (extent_within e.item.pieces m.fits.pieces_fit)

pub width_within : (e : Entry) → IsMade e → e.extent.width ≤ 2 ^ 28
width_within e m = let F : Extent → Type 0 = λ x. x.width ≤ 2 ^ 28 in
    subst F (sym (extent_is e m)) (extent_holds e.item.pieces m.fits.pieces_fit).width_within

pub run_rows : (area : Rect4) (e : Entry) (b : Block) → IsBlockIn area b → b ≡ own_block area e.item
    → IsRun area Rows e b.first_row b.last_row
run_rows area e b w is = record {
  order = w.order;
  within = w.rows_within;
  at = λ k. ap (λ (x : Block). is_between x.first_row x.last_row k) (sym is);
}

pub run_columns : (area : Rect4) (e : Entry) (b : Block) → IsBlockIn area b → b ≡ own_block area e.item
    → IsRun area Columns e b.first_column b.last_column
run_columns area e b w is = record {
  order = w.columns;
  within = w.columns_within;
  at = λ k. ap (λ (x : Block). is_between x.first_column x.last_column k) (sym is);
}

-- ---- one more entry at each place of a run
neither : (a b : Bool) → (a ≡ false) ⊎ (b ≡ false) → (a && b) ≡ false
neither false b h = refl
neither true b (inl e) = absurd (true≢false e)
neither true b (inr e) = e

both : (a b : Bool) → a ≡ true → b ≡ true → (a && b) ≡ true
both true b e f = f
both false b e f = e

-- the test for the places from the first to before another
abbrev pub is_before : ℕ → ℕ → ℕ → Bool
is_before first end k = leb first k && ltb k end

-- a cell with one more entry where the test holds
abbrev pub with_one : List Entry → Entry → Bool → List Entry
with_one cell e t = cond t (cell ++ e ∷ []) cell

up_to : (k n : ℕ) → ltb k (n + 1) ≡ leb k n
up_to k n = elim (cases_lt n k) [
  | inl l ↦ le-ltb k (n + 1) (omega (arith, l)) ∙ sym (lt-leb k n l)
  | inr l ↦ lt-ltb k (n + 1) (omega (arith, l)) ∙ sym (le-leb k n l)
]

-- ---- entries by their places
added : (p : Entry → Bool) (before : List Entry) (e : Entry) (t : Bool) → p e ≡ t
    → cond t (filter p before ++ e ∷ []) (filter p before) ≡ filter p (before ++ e ∷ [])
added p before e true h = let F : List Entry → List Entry = λ xs. filter p before ++ xs in
    sym (filter-append p before (e ∷ []) ∙ ap F (kept p e [] h))
added p before e false h = let F : List Entry → List Entry = λ xs. filter p before ++ xs in
    sym (filter-append p before (e ∷ []) ∙ (ap F (left_out p e [] h) ∙ append-nil (filter p before)))

-- places that have their entries are all places
pub places_are : (area : Rect4) (along : Along) (es taken : List Entry) (places : List (List Entry))
    → length places ≡ count_along area along → taken ≡ es
    → ((k : ℕ) → k < count_along area along → cell_at places k ≡ filter (stands_at area along k) taken)
    → places ≡ places_along area along es
places_are area along es taken places count all each =
    let n = count_along area along in
    let f : ℕ → List Entry = λ k. filter (stands_at area along k) es in
    ext_get_or [] places (map f (range_with_len 0 n)) (count ∙ sym (length-map-range_with_len f 0 n))
    (λ i less. let l : i < n = omega (arith, less, count) in
    each i l ∙ (ap (filter (stands_at area along i)) all
    ∙ sym (get_or-map-range_with_len f 0 n i i [] l (omega arith))))

-- ---- the grid
both_step : {X : Type 0} (p q : X → Bool) (t u : Bool) (x : X) (xs : List X) → p x ≡ t → q x ≡ u
    → filter p (filter q xs) ≡ filter (λ y. p y && q y) xs
    → filter p (cond u (x ∷ filter q xs) (filter q xs))
    ≡ cond (t && u) (x ∷ filter (λ y. p y && q y) xs) (filter (λ y. p y && q y) xs)
both_step p q true true x xs e f h = kept p x (filter q xs) e ∙ ap (λ l. x ∷ l) h
both_step p q false true x xs e f h = left_out p x (filter q xs) e ∙ h
both_step p q true false x xs e f h = h
both_step p q false false x xs e f h = h

-- one filter after another
filter_both : {X : Type 0} (p q : X → Bool) (xs : List X) → filter p (filter q xs) ≡ filter (λ y. p y && q y) xs
filter_both p q [] = refl
filter_both p q (x ∷ xs) = both_step p q (p x) (q x) x xs refl refl (filter_both p q xs)

cell_filled : (area : Rect4) (items : List Item) (row column : ℕ)
    → filter (stands_at area Columns column) (filter (stands_at area Rows row) (map entry_of items))
    ≡ entries_at area items row column
cell_filled area items row column =
    let p : Entry → Bool = stands_at area Columns column in
    let q : Entry → Bool = stands_at area Rows row in
    let mine : Item → Bool = λ a. q (entry_of a) in
    ap (filter p) (filter_of_map entry_of q items)
    ∙ (filter_of_map entry_of p (filter mine items)
    ∙ ap (map entry_of) (filter_both (λ a. p (entry_of a)) mine items))

map_range : {X Y : Type 0} (g : X → Y) (f : ℕ → X) (a n : ℕ)
    → map g (map f (range_with_len a n)) ≡ map (λ k. g (f k)) (range_with_len a n)
map_range g f a zero = refl
map_range g f a (suc n) = ap (λ l. g (f a) ∷ l) (map_range g f (a + 1) n)

-- rows of tiles, each of the entries that stand in it
pub grid_filled : (area : Rect4) (items : List Item)
    → map (row_of_tiles area) (places_along area Rows (map entry_of items)) ≡ grid_of area items
grid_filled area items =
    let es = map entry_of items in
    let f : ℕ → List Entry = λ k. filter (stands_at area Rows k) es in
    map_range (row_of_tiles area) f 0 (rows_in area)
    ∙ map_range_agree (λ k. row_of_tiles area (f k)) (row_at area items) 0 (rows_in area)
    (λ row l m. map_range_agree (λ k. filter (stands_at area Columns k) (f row)) (entries_at area items row) 0
    (columns_in area) (λ column i j. cell_filled area items row column))

-- all of them are made of their items
pub all_made : (items : List Item) → All IsItemFit items → All IsMade (map entry_of items)
all_made items fit =
    All-map IsMade entry_of items (All-weaker IsItemFit (λ (a : Item). IsMade (entry_of a)) made_entry items fit)

pub places_made : (area : Rect4) (along : Along) (es : List Entry) → All IsMade es
    → All (All IsMade) (places_along area along es)
places_made area along es made =
    All-map (All IsMade) (λ (k : ℕ). filter (stands_at area along k) es) (range_with_len 0 (count_along area along))
    (λ k d l. let p = stands_at area along (get_or (range_with_len 0 (count_along area along)) k d) in
    All-filter p IsMade es made)

-- ---- what is kept
pub spread_of : (area : Rect4) (reach : ℕ) (items : List Item) (shelf : List (List Item))
    (grid : List (List (List Entry))) → IsArea area → reach ≤ 2 ^ 28 → Ascends items
    → All (λ (b : Item). b.id < 2 ^ 64) items → All IsItemFit items → All IsChunk shelf → flat shelf ≡ items
    → grid ≡ grid_of area items → IsSpread area reach shelf grid
spread_of area reach items shelf grid a r up ids fit chunks e g =
    let P : Item → Type 0 = λ b. b.id < 2 ^ 64 in
    record {
      area_is = a;
      reach_within = r;
      chunks = chunks;
      ascends = subst Ascends (sym e) up;
      ids_within = subst (All P) (sym e) ids;
      fit = subst (All IsItemFit) (sym e) fit;
      grid_is = g ∙ ap (grid_of area) (sym e);
    }
