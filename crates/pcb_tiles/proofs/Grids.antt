-- What stands in the tiles of some items.
use Rattle.std.proofs.Common.{◌≡◌, ℕ, ◌+◌, ◌-◌, ◌<◌, ◌≤◌, Bool, true, false, cond, List, [], ◌∷◌, ◌++◌, length, map}
use Rattle.std.proofs.Common.{filter, replicate, All, get_or, refl, sym, ap, ◌∙◌, subst, inl, inr, ◌⊎◌, Option}
use Rattle.std.proofs.Common.{Some, None, arith}
use Prim.Native.Nat.{zero, suc}
use Rattle.std.specs.Prelude.{Contains}
use Rattle.std.specs.List.{range_with_len, sum_by, count_by}
use Rattle.std.proofs.lemmas.List.{length-map}
use Rattle.std.proofs.lemmas.List.FromFn.{get_or-map-range_with_len, map-range_with_len_more}
use Rattle.std.proofs.lemmas.List.FromFn.{length-map-range_with_len}
use Rattle.std.proofs.lemmas.List.Sums.{length-filter}
use Rattle.std.proofs.lemmas.List.Elements.{All-map, All-filter, All-weaker, All-contains}
use Rattle.geo_kernel.specs.declared.point.Rect4.{Rect4}
use Rattle.pcb_model.specs.declared.item.Item.{Item}
use Rattle.pcb_tiles.specs.declared.block.Block.{Block}
use Rattle.pcb_tiles.specs.declared.cells.Entry.{Entry}
use Rattle.pcb_tiles.specs.declared.cells.Change.{Change}
use Rattle.pcb_model.specs.Bounds.{IsItemFit}
use Rattle.pcb_tiles.specs.Tiling.{columns_in, rows_in, has_entry, columns_of, rows_of, is_between, IsBlockIn}
use Rattle.pcb_tiles.specs.Tiling.{entries_in}
use Rattle.pcb_tiles.specs.Searches.{IsEntry, IsPassed, IsFoundIn, RowsSoFar}
use Rattle.pcb_tiles.specs.Searches.{HasBlock, IsHit, Sought, IsMetInRows, AreRowsPassed, IsMet}
use Rattle.pcb_tiles.specs.Cells.{entry_of, entries_at, row_at, grid_of, changed_cell, cell_at, row_in, next_cell}
use Rattle.pcb_tiles.specs.Cells.{changed_row, next_row}
use Rattle.pcb_tiles.proofs.Ranges.{sum_range_agree}
use Rattle.pcb_tiles.proofs.Nearness.{extent_holds}

-- ---- one more cell, one more row
pub next_is : (change : Change) (b : Block) (row : List (List Entry)) (i : ℕ) (v x : List Entry) (t : Bool)
    → v ≡ cond t (changed_cell change x) x → t ≡ is_between b.first_column b.last_column i → x ≡ cell_at row i
    → v ≡ next_cell change b row i
next_is change b row i v x t e f g =
    let F : Bool → List Entry = λ u. cond u (changed_cell change x) x in
    let G : List Entry → List Entry =
    λ y. cond (is_between b.first_column b.last_column i) (changed_cell change y) y in
    e ∙ (ap F f ∙ ap G g)

pub next_row_is : (change : Change) (b : Block) (grid : List (List (List Entry))) (i : ℕ) (v x : List (List Entry))
    (t : Bool) → v ≡ cond t (changed_row change b x) x → t ≡ is_between b.first_row b.last_row i → x ≡ row_in grid i
    → v ≡ next_row change b grid i
next_row_is change b grid i v x t e f g =
    let F : Bool → List (List Entry) = λ u. cond u (changed_row change b x) x in
    let G : List (List Entry) → List (List Entry) =
    λ y. cond (is_between b.first_row b.last_row i) (changed_row change b y) y in
    e ∙ (ap F f ∙ ap G g)

pub made_more : {X : Type 0} (f : ℕ → X) (xs ys : List X) (i : ℕ) (v : X) → xs ≡ map f (range_with_len 0 i)
    → ys ≡ xs ++ v ∷ [] → v ≡ f i → ys ≡ map f (range_with_len 0 (i + 1))
made_more f xs ys i v h e k =
    let m = map-range_with_len_more f 0 i i (omega arith) in
    cc

-- ---- tiles without entries
made_alike : {X : Type 0} (f : ℕ → X) (x : X) (a n : ℕ) → ((k : ℕ) → f k ≡ x)
    → map f (range_with_len a n) ≡ replicate n x
made_alike f x a zero h = refl
made_alike f x a (suc n) h = let here = h a in let rest = made_alike f x (a + 1) n h in cc

pub none_at : (area : Rect4) → grid_of area [] ≡ replicate (rows_in area) (replicate (columns_in area) [])
none_at area =
    made_alike (row_at area []) (replicate (columns_in area) []) 0 (rows_in area)
    (λ k. made_alike (entries_at area [] k) [] 0 (columns_in area) (λ j. refl))

-- ---- reading
pub row_is_at : (area : Rect4) (items : List Item) (row : ℕ) → row < rows_in area
    → row_in (grid_of area items) row ≡ row_at area items row
row_is_at area items row h = get_or-map-range_with_len (row_at area items) 0 (rows_in area) row row [] h (omega arith)

pub cell_is_at : (area : Rect4) (items : List Item) (row column : ℕ) → row < rows_in area → column < columns_in area
    → cell_at (row_in (grid_of area items) row) column ≡ entries_at area items row column
cell_is_at area items row column h k =
    ap (λ (r : List (List Entry)). cell_at r column) (row_is_at area items row h)
    ∙ get_or-map-range_with_len (entries_at area items row) 0 (columns_in area) column column [] k (omega arith)

count_is : (area : Rect4) (items : List Item) (row column : ℕ)
    → length (entries_at area items row column) ≡ count_by (has_entry area row column) items
count_is area items row column =
    length-map (filter (has_entry area row column) items) entry_of ∙ length-filter (has_entry area row column) items

-- the entries in a block of the grid are as many as the items tell
pub cost_is : (area : Rect4) (items : List Item) (b : Block) → b.first_column ≤ b.last_column
    → b.first_row ≤ b.last_row → b.last_column < columns_in area → b.last_row < rows_in area
    → sum_by (λ row. sum_by (λ column. length (cell_at (row_in (grid_of area items) row) column)) (columns_of b))
    (rows_of b) ≡ entries_in area items b
cost_is area items b fc fr c r =
    let grid = grid_of area items in
    sum_range_agree (λ row. sum_by (λ column. length (cell_at (row_in grid row) column)) (columns_of b))
    (λ row. sum_by (λ column. count_by (has_entry area row column) items) (columns_of b)) b.first_row
    (suc b.last_row - b.first_row)
    (λ row l m. sum_range_agree (λ column. length (cell_at (row_in grid row) column))
    (λ column. count_by (has_entry area row column) items) b.first_column (suc b.last_column - b.first_column)
    (λ column i j. ap length (cell_is_at area items row column (omega (arith, m, r, fr)) (omega (arith, j, c, fc)))
    ∙ count_is area items row column))

pub empty_is : (area : Rect4) (n m : ℕ) (row : List (List Entry)) (rows grid : List (List (List Entry)))
    → n ≡ rows_in area → m ≡ columns_in area → row ≡ replicate m [] → rows ≡ replicate n row → grid ≡ rows
    → grid ≡ grid_of area []
empty_is area n m row rows grid e f g h k =
    let N : ℕ → List (List (List Entry)) = λ j. replicate j row in
    let M : ℕ → List (List Entry) = λ j. replicate j [] in
    k ∙ (h ∙ (ap N e ∙ (ap (replicate (rows_in area)) (g ∙ ap M f) ∙ sym (none_at area))))

-- ---- what a search through the grid answers
entry_is : (a : Item) → IsItemFit a → IsEntry (entry_of a)
entry_is a h = record { id_is = refl; item_fits = h; extent_is = extent_holds a.pieces h.pieces_fit }

all_entries : (area : Rect4) (items : List Item) → All IsItemFit items
    → All (All (All IsEntry)) (grid_of area items)
all_entries area items h =
    let P : Item → Type 0 = λ a. IsEntry (entry_of a) in
    let each : All P items = All-weaker IsItemFit P entry_is items h in
    All-map (All (All IsEntry)) (row_at area items) (range_with_len 0 (rows_in area))
    (λ k d l. All-map (All IsEntry) (entries_at area items (get_or (range_with_len 0 (rows_in area)) k d))
    (range_with_len 0 (columns_in area))
    (λ i e m. let p = has_entry area (get_or (range_with_len 0 (rows_in area)) k d)
    (get_or (range_with_len 0 (columns_in area)) i e) in
    All-map IsEntry entry_of (filter p items) (All-filter p P items each)))

all_wide : (area : Rect4) (items : List Item) (n : ℕ) → n < columns_in area
    → All (λ (row : List (List Entry)). n < length row) (grid_of area items)
all_wide area items n h =
    All-map (λ (row : List (List Entry)). n < length row) (row_at area items) (range_with_len 0 (rows_in area))
    (λ k d l. let e = length-map-range_with_len (entries_at area items (get_or (range_with_len 0 (rows_in area)) k d))
    0 (columns_in area) in omega (arith, e, h))

kept_step : {X : Type 0} (p : X → Bool) (x y : X) (t : Bool) (xs : List X) → p x ≡ t → p y ≡ true
    → (x ≡ y) ⊎ Contains (filter p xs) y → Contains (cond t (x ∷ filter p xs) (filter p xs)) y
kept_step p x y true xs e f (inl s) = (0, omega arith, s)
kept_step p x y true xs e f (inr (k, l, is)) = (suc k, omega (arith, l), is)
kept_step p x y false xs e f (inl s) = absurd (let g : p x ≡ true = ap p s ∙ f in cc)
kept_step p x y false xs e f (inr h) = h

contains_filter : {X : Type 0} (p : X → Bool) (xs : List X) (y : X) → p y ≡ true → Contains xs y
    → Contains (filter p xs) y
contains_filter p [] y f (k, l, is) = absurd (omega (arith, l))
contains_filter p (x ∷ xs) y f (zero, l, is) = kept_step p x y (p x) xs refl f (inl is)
contains_filter p (x ∷ xs) y f (suc k, l, is) =
    kept_step p x y (p x) xs refl f (inr (contains_filter p xs y f (k, omega (arith, l), is)))

contains_map : {X Y : Type 0} (f : X → Y) (xs : List X) (x : X) → Contains xs x → Contains (map f xs) (f x)
contains_map f [] x (k, l, is) = absurd (omega (arith, l))
contains_map f (y ∷ xs) x (zero, l, is) = (0, omega arith, ap f is)
contains_map f (y ∷ xs) x (suc k, l, is) = let r = contains_map f xs x (k, omega (arith, l), is) in
    (suc r.0, omega (arith, r.1), r.2)

left_step : {X : Type 0} (p : X → Bool) (x y : X) (t : Bool) (xs : List X)
    → (Contains (filter p xs) y → Contains xs y) → Contains (cond t (x ∷ filter p xs) (filter p xs)) y
    → Contains (x ∷ xs) y
left_step p x y true xs h (zero, l, is) = (0, omega arith, is)
left_step p x y true xs h (suc k, l, is) = let r = h (k, omega (arith, l), is) in (suc r.0, omega (arith, r.1), r.2)
left_step p x y false xs h c = let r = h c in (suc r.0, omega (arith, r.1), r.2)

contains_kept : {X : Type 0} (p : X → Bool) (xs : List X) (y : X) → Contains (filter p xs) y → Contains xs y
contains_kept p [] y c = c
contains_kept p (x ∷ xs) y c = left_step p x y (p x) xs (contains_kept p xs y) c

-- an entry of a list of entries is that of an item
record IsOf (items : List Item) (e : Entry) : Type 0 where
  item : Item
  there : Contains items item
  entry_is : e ≡ entry_of item

of_item : (items : List Item) (e : Entry) → Contains (map entry_of items) e → IsOf items e
of_item [] e (k, l, is) = absurd (omega (arith, l))
of_item (a ∷ items) e (zero, l, is) = record { item = a; there = (0, omega arith, refl); entry_is = sym is }
of_item (a ∷ items) e (suc k, l, is) = let r = of_item items e (k, omega (arith, l), is) in record {
  item = r.item;
  there = (suc r.there.0, (let m = r.there.1 in omega (arith, m)), r.there.2);
  entry_is =
      r.entry_is;
}

in_cell : (area : Rect4) (items : List Item) (row column : ℕ) (e : Entry) → row < rows_in area
    → column < columns_in area
    → Contains (cell_at (row_in (grid_of area items) row) column) e → IsOf items e
in_cell area items row column e h k there =
    let p = has_entry area row column in
    let F : List Entry → Type 0 = λ es. Contains es e in
    let o = of_item (filter p items) e (subst F (cell_is_at area items row column h k) there) in
    record { item = o.item; there = contains_kept p items o.item o.there; entry_is = o.entry_is }

hit : (Yes : Item → Type 0) (from : ℕ) (area : Rect4) (items : List Item) (best : Option ℕ) (row column : ℕ)
    → row < rows_in area → column < columns_in area
    → IsFoundIn Yes from best (cell_at (row_in (grid_of area items) row) column) → IsHit Yes from items best
hit Yes from area items best row column h k f =
    let o = in_cell area items row column f.entry h k f.there in
    let i : f.entry.id ≡ o.item.id = ap (λ (e : Entry). e.id) o.entry_is in
    let a : f.entry.item ≡ o.item = ap (λ (e : Entry). e.item) o.entry_is in
    record {
      item = o.item;
      there = o.there;
      answer_is = f.best_is ∙ ap Some i;
      at_least = (let l = f.at_least in omega (arith, l, i));
      yes = subst Yes a f.yes;
    }

-- an entry that is met is that of an item
pub met_of : (Yes : Item → Type 0) (area : Rect4) (items : List Item) (b : Block) → IsBlockIn area b
    → IsMetInRows Yes (grid_of area items) b → IsMet Yes items
met_of Yes area items b w m =
    let tr = m.to_end in
    let tc = m.met.to_end in
    let wr = w.rows_within in
    let wc = w.columns_within in
    let f = m.met.met in
    let o = in_cell area items m.row m.met.column f.entry (omega (arith, tr, wr)) (omega (arith, tc, wc)) f.there in
    record { item = o.item; there = o.there; yes = subst Yes (ap (λ (e : Entry). e.item) o.entry_is) f.yes }

pub sought_of : (Yes No : Item → Type 0) (from : ℕ) (area : Rect4) (items : List Item) (b : Block) (best : Option ℕ)
    → IsBlockIn area b → RowsSoFar Yes No from best (grid_of area items) b (suc b.last_row)
    → Sought Yes No from area b items best
sought_of Yes No from area items b best w s =
    let wr = w.rows_within in
    let wc = w.columns_within in
    record {
      passed = λ a c l u m.
          let mr = m.to_row in
          let mc = m.to_column in
          let cell : All (IsPassed No from best) (cell_at (row_in (grid_of area items) m.row) m.column) =
          s.passed m.row m.column m.from_row (omega (arith, mr)) m.from_column (omega (arith, mc)) in
          let entries =
          subst (All (IsPassed No from best))
          (cell_is_at area items m.row m.column (omega (arith, mr, wr)) (omega (arith, mc, wc))) cell in
          let p = has_entry area m.row m.column in
          (All-contains (IsPassed No from best) (entries_at area items m.row m.column) (entry_of a) entries
          (contains_map entry_of (filter p items) a (contains_filter p items a m.has c))).no l u;
      found = elim s.found [
        | inl e ↦ inl e
        | inr f ↦
            inr (let tr = f.to_end in let tc = f.found.to_end in
            hit Yes from area items best f.row f.found.column (omega (arith, tr, wr))
            (omega (arith, tc, wc)) f.found.found)
      ];
    }

grid_rows : (area : Rect4) (items : List Item) → length (grid_of area items) ≡ rows_in area
grid_rows area items = length-map-range_with_len (row_at area items) 0 (rows_in area)

-- the tiles of items have each block of their area
pub has_block : (area : Rect4) (items : List Item) (b : Block) → All IsItemFit items → IsBlockIn area b
    → HasBlock (grid_of area items) b
has_block area items b fit block = record {
  entries = all_entries area items fit;
  wide = all_wide area items b.last_column block.columns_within;
  within = (let m = grid_rows area items in omega (arith, m, block.rows_within));
  columns = block.columns;
  order = block.order;
}

-- where no entry of a block is met
pub none_met : (Yes No : Item → Type 0) (area : Rect4) (items : List Item) (b : Block) → IsBlockIn area b
    → AreRowsPassed No (grid_of area items) b (suc b.last_row) → Sought Yes No 0 area b items None
none_met Yes No area items b w p =
    let so : RowsSoFar Yes No 0 None (grid_of area items) b (suc b.last_row) = record {
      passed = λ row column a m f t. (p.each row a m).each column f t;
      found = inl refl;
    } in
    sought_of Yes No 0 area items b None w so
