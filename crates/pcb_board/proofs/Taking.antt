-- Items taken out by their ids, one by one.
use Rattle.std.proofs.Common.{◌≡◌, ℕ, ◌+◌, ◌<◌, zero, suc, Bool, true, false}
use Rattle.std.proofs.Common.{cond, Option, Some, None, refl, sym, ◌∙◌, ap, subst, List, [], ◌∷◌, ◌++◌}
use Rattle.std.proofs.Common.{get_or, take, arith}
use Rattle.std.specs.Prelude.{All, not, ◌||◌, slice_get, remove, MatchOption}
use Rattle.std.specs.List.{filter}
use Rattle.std.proofs.lemmas.Option.{none-some, same_Some}
use Rattle.std.proofs.lemmas.List.Elements.{All-append, All-filter, All-contains}
use Rattle.pcb_model.specs.declared.item.Item.{Item}
use Rattle.pcb_model.specs.Copper.{Ascends}
use Rattle.pcb_tiles.specs.Spread.{Spread, holding, Loses}
use Rattle.geo_kernel.specs.declared.point.Rect4.{Rect4}
use Rattle.board_offers.specs.Items.{names, without}
use Rattle.board_offers.proofs.Lists.{all_front, pairs_rest, in_from}
use Rattle.board_offers.proofs.Troubles.{names_on, only_named, names_itself}

all_pass : {X : Type 0} (p : X → Bool) (xs : List X) → All (λ x. p x ≡ true) xs → filter p xs ≡ xs
all_pass p [] all = refl
all_pass p (x ∷ xs) all =
    subst (λ (b : Bool). cond b (x ∷ filter p xs) (filter p xs) ≡ x ∷ xs) (sym (all 0 x (omega arith)))
    (ap (λ ys. x ∷ ys) (all_pass p xs (λ k d within. all (suc k) d (omega (arith, within)))))

unnamed : (y x : ℕ) → (y ≡ x → ⊥) → names (y ∷ []) x ≡ false
unnamed y x apart = by (names (y ∷ []) x) refl
  where
    by : (b : Bool) → names (y ∷ []) x ≡ b → b ≡ false
    by true e = absurd (apart (only_named y x e))
    by false e = refl

-- the item at a place, where ids ascend
pub removed_is : (items : List Item) (k : ℕ) (b : Item) → Ascends items → slice_get items k ≡ Some b
    → remove items k ≡ without (b.id ∷ []) items
removed_is [] k b up at = absurd (none-some b at)
removed_is (a ∷ items) zero b up at =
    let same : a ≡ b = same_Some a b at in
    let named : names (b.id ∷ []) a.id ≡ true =
    subst (λ (x : ℕ). names (b.id ∷ []) x ≡ true) (sym (ap (λ (c : Item). c.id) same)) (names_itself b.id) in
    let rest : All (λ (c : Item). not (names (b.id ∷ []) c.id) ≡ true) items =
    λ j d within. ap not (unnamed b.id (get_or items j d).id (λ e.
    let less : a.id < (get_or items j d).id = all_front (λ (x y : Item). x.id < y.id) a items up j d within in
    let ids : a.id ≡ b.id = ap (λ (c : Item). c.id) same in omega (arith, less, ids, e))) in
    sym (subst (λ (t : Bool). cond (not t) (a ∷ without (b.id ∷ []) items) (without (b.id ∷ []) items) ≡ items)
    (sym named) (all_pass (λ (c : Item). not (names (b.id ∷ []) c.id)) items rest))
removed_is (a ∷ items) (suc k) b up at =
    let less : a.id < b.id = All-contains (λ (y : Item). a.id < y.id) items b
    (all_front (λ (x y : Item). x.id < y.id) a items up) (in_from items k b at) in
    let free : names (b.id ∷ []) a.id ≡ false = unnamed b.id a.id (λ e. omega (arith, less, e)) in
    subst (λ (t : Bool). a ∷ remove items k ≡ cond (not t) (a ∷ without (b.id ∷ []) items) (without (b.id ∷ []) items))
    (sym free)
    (ap (λ (ys : List Item). a ∷ ys) (removed_is items k b (pairs_rest (λ (x y : Item). x.id < y.id) a items up) at))

abbrev spread : Rect4 → ℕ → List Item → Spread
spread area reach items = record { area = area; reach = reach; items = items }

-- what `remove` answers
pub taken_out : (old new : Spread) (id : ℕ) (r : Option Item) → Ascends old.items
    → MatchOption r ((new ≡ old) × All (λ (b : Item). b.id ≡ id → ⊥) old.items)
    (λ (b : Item). (b.id ≡ id) × Loses old b new)
    → new ≡ holding old (without (id ∷ []) old.items)
taken_out old new id None up h =
    h.0 ∙ ap (spread old.area old.reach)
    (sym (all_pass (λ (c : Item). not (names (id ∷ []) c.id)) old.items
    (λ j d within. ap not (unnamed id (get_or old.items j d).id (λ e. h.1 j d within (sym e))))))
taken_out old new id (Some b) up h =
    let l : Loses old b new = h.1 in
    let items_are : new.items ≡ without (id ∷ []) old.items =
    l.items.rest_is ∙ removed_is old.items l.items.place b up l.items.there
    ∙ ap (λ (x : ℕ). without (x ∷ []) old.items) h.0 in
    ap (spread new.area new.reach) items_are
    ∙ ap (λ (r : Rect4). spread r new.reach (without (id ∷ []) old.items)) l.same_area
    ∙ ap (λ (n : ℕ). spread old.area n (without (id ∷ []) old.items)) l.same_reach

-- ids one after another
step_out : (p q r : Item → Bool) (a : Item) (left both : List Item) → ((x : Item) → r x ≡ cond (p x) (q x) false)
    → filter q left ≡ both → (t : Bool) → p a ≡ t
    → filter q (cond t (a ∷ left) left) ≡ cond (r a) (a ∷ both) both
step_out p q r a left both is same true e = ap (λ ys. cond (q a) (a ∷ ys) ys) same
    ∙ ap (λ (b : Bool). cond b (a ∷ both) both) (sym (is a ∙ ap (λ (b : Bool). cond b (q a) false) e))
step_out p q r a left both is same false e = same
    ∙ ap (λ (b : Bool). cond b (a ∷ both) both) (sym (is a ∙ ap (λ (b : Bool). cond b (q a) false) e))

filter_both : (p q r : Item → Bool) (xs : List Item) → ((x : Item) → r x ≡ cond (p x) (q x) false)
    → filter q (filter p xs) ≡ filter r xs
filter_both p q r [] is = refl
filter_both p q r (a ∷ xs) is = step_out p q r a (filter p xs) (filter r xs) is (filter_both p q r xs is) (p a) refl

not_or : (a b : Bool) → not (a || b) ≡ cond (not a) (not b) false
not_or true b = refl
not_or false b = refl

pub without_more : (ids : List ℕ) (id : ℕ) (items : List Item)
    → without (id ∷ []) (without ids items) ≡ without (ids ++ id ∷ []) items
without_more ids id items =
    filter_both (λ (a : Item). not (names ids a.id)) (λ (a : Item). not (names (id ∷ []) a.id))
    (λ (a : Item). not (names (ids ++ id ∷ []) a.id)) items
    (λ a. ap not (names_on ids (id ∷ []) a.id) ∙ not_or (names ids a.id) (names (id ∷ []) a.id))

-- the new ones come behind all others
pub below_next : (ids : List ℕ) (items come : List Item) (first i : ℕ) (a : Item)
    → All (λ (b : Item). b.id < first) items → ((j : ℕ) (b : Item) → slice_get come j ≡ Some b → b.id ≡ first + j)
    → slice_get come i ≡ Some a → All (λ (b : Item). b.id < a.id) (without ids items ++ take i come)
below_next ids items come first i a below numbered at =
    let a_is : a.id ≡ first + i = numbered i a at in
    All-append (λ (b : Item). b.id < a.id) (without ids items) (take i come)
    (All-filter (λ (b : Item). not (names ids b.id)) (λ (b : Item). b.id < a.id) items
    (λ k d within. let less = below k d within in omega (arith, less, a_is)))
    (fronts i come (λ j b front e. let is = numbered j b e in omega (arith, is, a_is, front)))
  where
    fronts : (n : ℕ) (xs : List Item) → ((j : ℕ) (b : Item) → j < n → slice_get xs j ≡ Some b → b.id < a.id)
        → All (λ (b : Item). b.id < a.id) (take n xs)
    fronts zero xs says = λ k d within. absurd (omega (arith, within))
    fronts (suc n) [] says = λ k d within. absurd (omega (arith, within))
    fronts (suc n) (x ∷ xs) says = All-append (λ (b : Item). b.id < a.id) (x ∷ []) (take n xs)
        (one (says 0 x (omega arith) refl)) (fronts n xs (λ j b less e. says (suc j) b (omega (arith, less)) e))
      where
        one : x.id < a.id → All (λ (b : Item). b.id < a.id) (x ∷ [])
        one h zero d within = h
        one h (suc k) d within = absurd (omega (arith, within))

pub without_none : (items : List Item) → without [] items ≡ items
without_none items = all_pass (λ (a : Item). not (names [] a.id)) items (λ k d within. refl)
