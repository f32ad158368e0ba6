-- A search over items answers what one through the tiles does, at no more steps.
use Rattle.std.proofs.Common.{◌≡◌, ℕ, ◌+◌, ◌-◌, ◌<◌, ◌≤◌, max, Bool, true, false, cond, ◌&&◌, leb, List, [], ◌∷◌}
use Rattle.std.proofs.Common.{◌++◌, length, take, drop, All, get_or, refl, sym, ap, ◌∙◌, subst, inl, inr, arith}
use Rattle.std.proofs.Common.{append_assoc, true≢false, Option, Some, None}
use Prim.Native.Nat.{zero, suc}
use Rattle.std.specs.Prelude.{Contains, MatchOption, is_some}
use Rattle.std.specs.List.{range_with_len, sum_by, count_by}
use Rattle.std.proofs.lemmas.Bool.{le-leb, leb-true}
use Rattle.std.proofs.lemmas.List.{take-append-drop, drop_more, take_more}
use Rattle.std.proofs.lemmas.List.Concat.{flat_map-append}
use Rattle.std.proofs.lemmas.List.Elements.{All-append, All-cons, All-weaker, All-contains, All-more}
use Rattle.std.proofs.lemmas.List.Elements.{Contains-append_right}
use Rattle.std.proofs.lemmas.List.Sums.{sum_by-cons, sum_by-append, sum_by-le-sum_by}
use Rattle.geo_kernel.specs.declared.point.Rect4.{Rect4}
use Rattle.pcb_model.specs.declared.item.Item.{Item}
use Rattle.pcb_model.specs.Copper.{Ascends}
use Rattle.pcb_model.specs.Near.{vertices_of, box_of_points, greatest_width}
use Rattle.pcb_tiles.specs.declared.block.Block.{Block}
use Rattle.pcb_tiles.specs.Tiling.{IsArea, IsBlockIn, own_block, half_up, has_entry, columns_of, rows_of, entries_in}
use Rattle.pcb_tiles.specs.Searches.{Meets, Sought, IsMet}
use Rattle.pcb_tiles.specs.Scans.{is_entered, IsUnsought, IsFirstHit}
use Rattle.pcb_tiles.specs.Shelves.{flat, chunk_at}
use Rattle.pcb_tiles.proofs.Ranges.{get_or_any}
use Rattle.pcb_tiles.proofs.Tilings.{block_in}
use Rattle.pcb_tiles.proofs.Nearness.{cases_lt, has_both, all_left, all_right}
use Rattle.pcb_tiles.proofs.Changes.{IsBelow, pairs_head}
use Rattle.pcb_tiles.proofs.Shelves.{flat_parts, pairs_right, append_none}

-- ---- blocks with a tile in common
record AreTrue (a b c d : Bool) : Type 0 where
  a_is : a ≡ true
  b_is : b ≡ true
  c_is : c ≡ true
  d_is : d ≡ true

are_true : (a b c d : Bool) → ((a && b) && (c && d)) ≡ true → AreTrue a b c d
are_true true true true true h = record { a_is = refl; b_is = refl; c_is = refl; d_is = refl }
are_true true true true false h = absurd (true≢false (sym h))
are_true true true false d h = absurd (true≢false (sym h))
are_true true false c d h = absurd (true≢false (sym h))
are_true false b c d h = absurd (true≢false (sym h))

-- what has an entry in the block meets it
meets_of : (area : Rect4) (b : Block) (a : Item) → IsArea area → IsBlockIn area b → is_entered area b a ≡ true
    → Meets area b a
meets_of area b a h w e =
    let o = own_block area a in
    let v : IsBlockIn area o =
    block_in area (box_of_points (vertices_of a.pieces)) (half_up (greatest_width a.pieces)) h in
    let t = are_true (leb o.first_row b.last_row) (leb b.first_row o.last_row) (leb o.first_column b.last_column)
    (leb b.first_column o.last_column) e in
    let p = leb-true o.first_row b.last_row t.a_is in
    let q = leb-true b.first_row o.last_row t.b_is in
    let r = leb-true o.first_column b.last_column t.c_is in
    let s = leb-true b.first_column o.last_column t.d_is in
    let row = max o.first_row b.first_row in
    let column = max o.first_column b.first_column in
    let vo = v.order in
    let vc = v.columns in
    let wo = w.order in
    let wc = w.columns in
    record {
      row = row;
      column = column;
      from_row = omega arith;
      to_row = omega (arith, p, wo);
      from_column = omega arith;
      to_column = omega (arith, r, wc);
      has = has_both (leb o.first_column column) (leb column o.last_column) (leb o.first_row row)
          (leb row o.last_row) (le-leb o.first_column column (omega arith))
          (le-leb column o.last_column (omega (arith, s, vc))) (le-leb o.first_row row (omega arith))
          (le-leb row o.last_row (omega (arith, q, vo)));
    }

entered_of : (area : Rect4) (b : Block) (a : Item) → Meets area b a → is_entered area b a ≡ true
entered_of area b a m =
    let o = own_block area a in
    let t = are_true (leb o.first_column m.column) (leb m.column o.last_column) (leb o.first_row m.row)
    (leb m.row o.last_row) m.has in
    let p = leb-true o.first_column m.column t.a_is in
    let q = leb-true m.column o.last_column t.b_is in
    let r = leb-true o.first_row m.row t.c_is in
    let s = leb-true m.row o.last_row t.d_is in
    let fr = m.from_row in
    let tr = m.to_row in
    let fc = m.from_column in
    let tc = m.to_column in
    has_both (leb o.first_row b.last_row) (leb b.first_row o.last_row) (leb o.first_column b.last_column)
    (leb b.first_column o.last_column) (le-leb o.first_row b.last_row (omega (arith, r, tr)))
    (le-leb b.first_row o.last_row (omega (arith, s, fr))) (le-leb o.first_column b.last_column (omega (arith, p, tc)))
    (le-leb b.first_column o.last_column (omega (arith, q, fc)))

-- what has no entry in the block needs no test
pub unsought_apart : (No : Item → Type 0) (from : ℕ) (area : Rect4) (b : Block) (a : Item)
    → is_entered area b a ≡ false → IsUnsought No from area b a
unsought_apart No from area b a e = record {
  no = λ l m. absurd (true≢false (sym (entered_of area b a m) ∙ e));
}

-- ---- steps
-- a sum of more at one place
sum_one_more : (f g : ℕ → ℕ) (a n k : ℕ) → a ≤ k → k < a + n → ((j : ℕ) → g j ≤ f j) → g k + 1 ≤ f k
    → sum_by g (range_with_len a n) + 1 ≤ sum_by f (range_with_len a n)
sum_one_more f g a zero k l m h o = absurd (omega (arith, l, m))
sum_one_more f g a (suc n) k l m h o =
    let rest = range_with_len (a + 1) n in
    let s = sum_by-cons f a rest in
    let t = sum_by-cons g a rest in
    elim (cases_lt a k) [
      | inl i ↦ let r = sum_one_more f g (a + 1) n k (omega (arith, i)) (omega (arith, m)) h o in
          omega (arith, s, t, r, h a)
      | inr i ↦
          let e : k ≡ a = omega (arith, i, l) in
          let here : g a + 1 ≤ f a = subst (λ (j : ℕ). g j + 1 ≤ f j) e o in
          omega (arith, s, t, here, sum_by-le-sum_by g f rest h)
    ]

-- the entries of the block in a row
abbrev entries_at_row : Rect4 → Block → List Item → ℕ → ℕ
entries_at_row area b items row = sum_by (λ column. count_by (has_entry area row column) items) (columns_of b)

-- an item more makes no fewer entries in a tile
no_fewer : (p : Item → Bool) (a : Item) (items : List Item) → count_by p items ≤ count_by p (a ∷ items)
no_fewer p a items = let s = sum_by-cons (λ (x : Item). cond (p x) 1 0) a items in omega (arith, s)

no_fewer_in_row : (area : Rect4) (b : Block) (a : Item) (items : List Item) (row : ℕ)
    → entries_at_row area b items row ≤ entries_at_row area b (a ∷ items) row
no_fewer_in_row area b a items row =
    sum_by-le-sum_by (λ column. count_by (has_entry area row column) items)
    (λ column. count_by (has_entry area row column) (a ∷ items)) (columns_of b)
    (λ column. no_fewer (has_entry area row column) a items)

no_fewer_entries : (area : Rect4) (b : Block) (a : Item) (items : List Item)
    → entries_in area items b ≤ entries_in area (a ∷ items) b
no_fewer_entries area b a items =
    sum_by-le-sum_by (entries_at_row area b items) (entries_at_row area b (a ∷ items)) (rows_of b)
    (no_fewer_in_row area b a items)

one_more : (p : Item → Bool) (a : Item) (items : List Item) → p a ≡ true
    → count_by p items + 1 ≤ count_by p (a ∷ items)
one_more p a items e =
    let s = sum_by-cons (λ (x : Item). cond (p x) 1 0) a items in
    let F : Bool → ℕ = λ v. cond v 1 0 in
    let t : F (p a) ≡ F true = ap F e in
    omega (arith, s, t)

-- one that meets the block makes at least one more there
one_entry_more : (area : Rect4) (b : Block) (a : Item) (items : List Item) → Meets area b a
    → entries_in area items b + 1 ≤ entries_in area (a ∷ items) b
one_entry_more area b a items m =
    let fr = m.from_row in
    let tr = m.to_row in
    let fc = m.from_column in
    let tc = m.to_column in
    let here : entries_at_row area b items m.row + 1 ≤ entries_at_row area b (a ∷ items) m.row =
    sum_one_more (λ column. count_by (has_entry area m.row column) (a ∷ items))
    (λ column. count_by (has_entry area m.row column) items) b.first_column
    (suc b.last_column - b.first_column) m.column fc (omega (arith, fc, tc))
    (λ column. no_fewer (has_entry area m.row column) a items)
    (one_more (has_entry area m.row m.column) a items m.has) in
    sum_one_more (entries_at_row area b (a ∷ items)) (entries_at_row area b items) b.first_row
    (suc b.last_row - b.first_row) m.row fr (omega (arith, fr, tr)) (no_fewer_in_row area b a items) here

counted_step : (area : Rect4) (b : Block) (a : Item) (items : List Item) (t : Bool) → IsArea area
    → IsBlockIn area b → is_entered area b a ≡ t
    → cond t 1 0 + entries_in area items b ≤ entries_in area (a ∷ items) b
counted_step area b a items true h w e =
    let s = one_entry_more area b a items (meets_of area b a h w e) in omega (arith, s)
counted_step area b a items false h w e = let s = no_fewer_entries area b a items in omega (arith, s)

-- items that have an entry in the block are no more than its entries
pub counted : (area : Rect4) (b : Block) (items : List Item) → IsArea area → IsBlockIn area b
    → count_by (is_entered area b) items ≤ entries_in area items b
counted area b [] h w = omega arith
counted area b (a ∷ items) h w =
    let s = sum_by-cons (λ (x : Item). cond (is_entered area b x) 1 0) a items in
    let r = counted area b items h w in
    let t = counted_step area b a items (is_entered area b a) h w refl in
    omega (arith, s, r, t)

-- ---- items one after another
-- what a count of the rest is, from an item on
pub count_rest : (p : Item → Bool) (items : List Item) (i : ℕ) (a d : Item) → i < length items
    → a ≡ get_or items i d
    → count_by p (drop i items) ≡ cond (p a) 1 0 + count_by p (drop (i + 1) items)
count_rest p items i a d l is =
    let f : Item → ℕ = λ x. cond (p x) 1 0 in
    ap (sum_by f) (drop_more items i d l) ∙ (sum_by-cons f (get_or items i d) (drop (i + 1) items)
    ∙ ap (λ (x : Item). f x + sum_by f (drop (i + 1) items)) (sym is))

-- the first that is sought, behind those that aren't
pub first_here : (Yes No : Item → Type 0) (from : ℕ) (area : Rect4) (b : Block) (items : List Item) (i : ℕ)
    (a d : Item) → i < length items → a ≡ get_or items i d → All (IsUnsought No from area b) (take i items)
    → (from ≤ a.id) × Yes a → IsFirstHit Yes No from area b items a.id
first_here Yes No from area b items i a d l is p y = record {
  item = a;
  before = take i items;
  after = drop (i + 1) items;
  items_are = sym (take-append-drop i items)
      ∙ (ap (λ (xs : List Item). take i items ++ xs) (drop_more items i d l)
      ∙ ap (λ (x : Item). take i items ++ x ∷ drop (i + 1) items) (sym is));
  passed = p;
  id_is = refl;
  at_least = y.0;
  yes = y.1;
}

-- one more that isn't
pub unsought_more : (No : Item → Type 0) (from : ℕ) (area : Rect4) (b : Block) (items : List Item) (i : ℕ)
    (a d : Item) → i < length items → a ≡ get_or items i d → All (IsUnsought No from area b) (take i items)
    → IsUnsought No from area b a → All (IsUnsought No from area b) (take (i + 1) items)
unsought_more No from area b items i a d l is p y =
    All-more (IsUnsought No from area b) items i d l p (subst (IsUnsought No from area b) is y)

-- ---- chunks one after another
flat_more : (chunks : List (List Item)) (k : ℕ) (c d : List Item) → k < length chunks → c ≡ get_or chunks k d
    → flat (take (k + 1) chunks) ≡ flat (take k chunks) ++ c
flat_more chunks k c d l is =
    ap flat (take_more chunks k d l)
    ∙ (flat_map-append (λ (x : List Item). x) (take k chunks) (get_or chunks k d ∷ [])
    ∙ ap (λ (x : List Item). flat (take k chunks) ++ x) (append_none (get_or chunks k d) ∙ sym is))

-- what holds of the items of one more chunk
pub all_more : (P : Item → Type 0) (chunks : List (List Item)) (k : ℕ) (c d : List Item) → k < length chunks
    → c ≡ get_or chunks k d → All P (flat (take k chunks)) → All P c → All P (flat (take (k + 1) chunks))
all_more P chunks k c d l is p q =
    subst (All P) (sym (flat_more chunks k c d l is)) (All-append P (flat (take k chunks)) c p q)

-- what holds of all items holds of those of a chunk
pub all_in : (P : Item → Type 0) (chunks : List (List Item)) (k : ℕ) (c d : List Item) → k < length chunks
    → c ≡ get_or chunks k d → All P (flat chunks) → All P c
all_in P chunks k c d l is h =
    let R = flat (drop (suc k) chunks) in
    let e : chunk_at chunks k ≡ c = get_or_any chunks k [] d l ∙ sym is in
    subst (All P) e (all_left P (chunk_at chunks k) R
    (all_right P (flat (take k chunks)) (chunk_at chunks k ++ R) (subst (All P) (flat_parts chunks k) h)))

-- what a count of the rest is, from a chunk on
pub count_rest_in : (p : Item → Bool) (chunks : List (List Item)) (k : ℕ) (c d : List Item) → k < length chunks
    → c ≡ get_or chunks k d
    → count_by p (flat (drop k chunks)) ≡ count_by p c + count_by p (flat (drop (k + 1) chunks))
count_rest_in p chunks k c d l is =
    let f : Item → ℕ = λ x. cond (p x) 1 0 in
    let R = flat (drop (k + 1) chunks) in
    ap (λ (x : List (List Item)). sum_by f (flat x)) (drop_more chunks k d l)
    ∙ (ap (λ (x : List Item). sum_by f (x ++ R)) (sym is) ∙ sum_by-append f c R)

-- the first that is sought in a chunk, behind chunks without one
pub first_in : (Yes No : Item → Type 0) (from : ℕ) (area : Rect4) (b : Block) (chunks : List (List Item)) (k : ℕ)
    (c d : List Item) (id : ℕ) → k < length chunks → c ≡ get_or chunks k d
    → All (IsUnsought No from area b) (flat (take k chunks)) → IsFirstHit Yes No from area b c id
    → IsFirstHit Yes No from area b (flat chunks) id
first_in Yes No from area b chunks k c d id l is p h =
    let L = flat (take k chunks) in
    let R = flat (drop (suc k) chunks) in
    let e : chunk_at chunks k ≡ h.before ++ h.item ∷ h.after =
    get_or_any chunks k [] d l ∙ (sym is ∙ h.items_are) in
    record {
      item = h.item;
      before = L ++ h.before;
      after = h.after ++ R;
      items_are = flat_parts chunks k
          ∙ (ap (λ (x : List Item). L ++ (x ++ R)) e
          ∙ (ap (λ (x : List Item). L ++ x) (append_assoc h.before (h.item ∷ h.after) R)
          ∙ sym (append_assoc L h.before (h.item ∷ (h.after ++ R)))));
      passed = All-append (IsUnsought No from area b) L h.before p h.passed;
      id_is = h.id_is;
      at_least = h.at_least;
      yes = h.yes;
    }

-- ---- what is answered
-- where its id is below another, it isn't left out
record IsBehind (No : Item → Type 0) (from : ℕ) (area : Rect4) (b : Block) (id : ℕ) (a : Item) : Type 0 where
  so : a.id < id → IsUnsought No from area b a

-- the ids behind the first are above its own
sought_first : (Yes No : Item → Type 0) (from : ℕ) (area : Rect4) (b : Block) (items : List Item) (id : ℕ)
    → Ascends items → IsFirstHit Yes No from area b items id → Sought Yes No from area b items (Some id)
sought_first Yes No from area b items id up h =
    let P : Item → Type 0 = IsBehind No from area b id in
    let i = h.id_is in
    let order : All (IsBelow h.item) h.after =
    pairs_head IsBelow h.item h.after
    (pairs_right IsBelow h.before (h.item ∷ h.after) (subst Ascends h.items_are up)) in
    let all : All P (h.before ++ h.item ∷ h.after) =
    All-append P h.before (h.item ∷ h.after)
    (All-weaker (IsUnsought No from area b) P (λ a u. record { so = λ l. u }) h.before h.passed)
    (All-cons P h.item h.after (record { so = λ l. absurd (omega (arith, l, i)) })
    (All-weaker (IsBelow h.item) P (λ a u. record { so = λ l. absurd (omega (arith, l, i, u)) }) h.after order)) in
    record {
      passed = λ a c f u m.
          ((All-contains P (h.before ++ h.item ∷ h.after) a all
          (subst (λ (xs : List Item). Contains xs a) h.items_are c)).so u).no f m;
      found = inr (record {
        item = h.item;
        there = subst (λ (xs : List Item). Contains xs h.item) (sym h.items_are)
            (Contains-append_right h.before (h.item ∷ h.after) h.item (0, omega arith, refl));
        answer_is = ap Some i;
        at_least = h.at_least;
        yes = h.yes;
      });
    }

-- such an answer is that of a search
pub sought_is : (Yes No : Item → Type 0) (from : ℕ) (area : Rect4) (b : Block) (items : List Item)
    (answer : Option ℕ) → Ascends items
    → MatchOption answer (All (IsUnsought No from area b) items) (IsFirstHit Yes No from area b items)
    → Sought Yes No from area b items answer
sought_is Yes No from area b items None up h = record {
  passed = λ a c f u m. (All-contains (IsUnsought No from area b) items a h c).no f m;
  found = inl refl;
}
sought_is Yes No from area b items (Some id) up h = sought_first Yes No from area b items id up h

-- what a search finds is met
pub met_by : (Yes No : Item → Type 0) (from : ℕ) (area : Rect4) (b : Block) (items : List Item) (id : ℕ)
    → Sought Yes No from area b items (Some id) → IsMet Yes items
met_by Yes No from area b items id h = elim h.found [
  | inl e ↦ absurd (let F : Option ℕ → Bool = λ o. is_some o in true≢false (ap F e))
  | inr f ↦ record { item = f.item; there = f.there; yes = f.yes }
]
