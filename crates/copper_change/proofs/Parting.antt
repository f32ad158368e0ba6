-- Items whose ids another list lacks, and those that both lists have.
use Rattle.std.proofs.Common.{◌≡◌, ◌⊎◌, inl, inr, ℕ, ◌+◌, ◌<◌, ◌≤◌, ◌==◌, zero, suc, Bool, true, false}
use Rattle.std.proofs.Common.{cond, not, ◌||◌, refl, sym, ◌∙◌, ap, subst, List, [], ◌∷◌, ◌++◌, length, arith}
use Rattle.std.specs.Prelude.{All, Contains}
use Rattle.std.specs.List.{filter}
use Rattle.std.proofs.lemmas.Bool.{eq-eqb, or_left, or_right, or_from, ne_eqb, cases_order}
use Rattle.std.proofs.lemmas.List.Elements.{All-tail, filter-append}
use Rattle.pcb_model.specs.declared.item.Item.{Item}
use Rattle.pcb_model.specs.Copper.{Ascends, IsFirstFrom}
use Rattle.copper_change.specs.Changes.{has_id, alone, IsSince, AreOneById, IsMerge, IsChange}
use Rattle.copper_change.proofs.Listing.{AreBelow, one_below, all_below, all_by, in_here, in_later}
use Rattle.copper_change.proofs.Listing.{all_front, pairs_rest}

-- ---- the ids of a list
-- an item's id is among the ids
pub has_its_id : (items : List Item) (x : ℕ) (a : Item) → Contains items a → a.id ≡ x → has_id items x ≡ true
has_its_id [] x a (k, within, is) e = absurd (omega (arith, within))
has_its_id (b ∷ items) x a (zero, within, is) e =
    or_left (b.id == x) (has_id items x) (eq-eqb b.id x (ap (λ (c : Item). c.id) is ∙ e))
has_its_id (b ∷ items) x a (suc k, within, is) e =
    or_right (b.id == x) (has_id items x) (has_its_id items x a (k, omega (arith, within), is) e)

-- an id that no item has isn't among them
pub has_no_id : (items : List Item) (x : ℕ) → All (λ (b : Item). b.id ≡ x → ⊥) items → has_id items x ≡ false
has_no_id [] x none = refl
has_no_id (b ∷ items) x none =
    or_from (b.id == x) (has_id items x) (ne_eqb b.id x (none 0 b (omega arith)))
    (has_no_id items x (All-tail (λ (c : Item). c.id ≡ x → ⊥) b items none))

-- ---- items that another list lacks
-- an item of an id that the other lacks is alone
pub one_alone : (lone other : List Item) (x : Item) → has_id other x.id ≡ false
    → lone ++ x ∷ [] ≡ lone ++ alone (x ∷ []) other
one_alone lone other x lacks = ap (λ (t : Bool). lone ++ cond (not t) (x ∷ []) []) (sym lacks)

-- these are the items below an id that the other list lacks
pub record AreLoneTo (items other : List Item) (from : ℕ) (lone : List Item) : Type 0 where
  pub done : List Item
  pub are : AreBelow items from done
  pub lone_is : lone ≡ alone done other

-- the first item from the id on comes next
pub lone_next : (items other : List Item) (from next : ℕ) (x : Item) (lone after : List Item) → Ascends items
    → IsFirstFrom from items x → x.id + 1 ≡ next → after ≡ lone ++ alone (x ∷ []) other
    → AreLoneTo items other from lone → AreLoneTo items other next after
lone_next items other from next x lone after up first next_is after_is to =
    subst (λ (n : ℕ). AreLoneTo items other n after) next_is
    (record {
      done = to.done ++ x ∷ [];
      are = one_below items to.done from x up to.are first;
      lone_is = after_is
          ∙ (ap (λ (xs : List Item). xs ++ alone (x ∷ []) other) to.lone_is
          ∙ sym (filter-append (λ (y : Item). not (has_id other y.id)) to.done (x ∷ [])));
    })

-- where all items are below the id, these are all
pub lone_all : (items other : List Item) (from : ℕ) (lone : List Item) → AreLoneTo items other from lone
    → All (λ (b : Item). b.id < from) items → lone ≡ alone items other
lone_all items other from lone to low =
    to.lone_is ∙ ap (λ (xs : List Item). alone xs other) (all_below items to.done from to.are low)

-- so they are where no id can be above the last one
pub lone_by : (items other : List Item) (from n : ℕ) (lone : List Item) → AreLoneTo items other from lone → n ≤ from
    → All (λ (b : Item). b.id < n) items → lone ≡ alone items other
lone_by items other from n lone to high low =
    to.lone_is ∙ ap (λ (xs : List Item). alone xs other) (all_by items to.done from n to.are high low)

-- ---- items that both lists have
-- the items of a whose ids b has
abbrev both : List Item → List Item → List Item
both a b = filter (λ (x : Item). has_id b x.id) a

-- one element more goes to one side or to the other
part_one : (x : Item) (t : Bool) (a b c : List Item) → IsMerge a b c
    → IsMerge (cond (not t) (x ∷ a) a) (cond t (x ∷ b) b) (x ∷ c)
part_one x true a b c merge = inr (b, refl, merge)
part_one x false a b c merge = inl (a, refl, merge)

-- a list is that of its items whose ids another lacks, and of those whose ids it has
parts : (a b : List Item) → IsMerge (alone a b) (both a b) a
parts [] b = (refl, refl)
parts (x ∷ a) b = part_one x (has_id b x.id) (alone a b) (both a b) a (parts a b)

-- no id is among those of no item
both_none : (a : List Item) → both a [] ≡ []
both_none [] = refl
both_none (x ∷ a) = both_none a

-- one element more, kept by a test that gives the same
step_same : (z : Item) (t u : Bool) (xs ys : List Item) → t ≡ u → xs ≡ ys → cond t (z ∷ xs) xs ≡ cond u (z ∷ ys) ys
step_same z t u xs ys same rest =
    ap (λ (v : Bool). cond v (z ∷ xs) xs) same ∙ ap (λ (zs : List Item). cond u (z ∷ zs) zs) rest

-- an id that no item of a has may be left out of b
skip : (a b : List Item) (y : Item) → All (λ (z : Item). y.id ≡ z.id → ⊥) a → both a (y ∷ b) ≡ both a b
skip [] b y none = refl
skip (z ∷ a) b y none =
    step_same z ((y.id == z.id) || has_id b z.id) (has_id b z.id) (both a (y ∷ b)) (both a b)
    (ap (λ (t : Bool). t || has_id b z.id) (ne_eqb y.id z.id (none 0 z (omega arith))))
    (skip a b y (All-tail (λ (w : Item). y.id ≡ w.id → ⊥) z a none))

-- the order of ids
abbrev Before : Item → Item → Type 0
Before a b = a.id < b.id

-- what is behind an item in order has other ids
others : (x : Item) (a : List Item) → Ascends (x ∷ a) → All (λ (z : Item). x.id ≡ z.id → ⊥) a
others x a up = λ k d within e. let less = all_front Before x a up k d within in omega (arith, e, less)

-- and so have all items from a greater one on
behind : (x y : Item) (b : List Item) → x.id < y.id → Ascends (y ∷ b) → All (λ (z : Item). x.id ≡ z.id → ⊥) (y ∷ b)
behind x y b less up zero d within = λ e. omega (arith, e, less)
behind x y b less up (suc k) d within =
    λ e. let more = all_front Before y b up k d (omega (arith, within)) in omega (arith, e, less, more)

-- the same, the other way round
turned : (x : Item) (b : List Item) → All (λ (z : Item). x.id ≡ z.id → ⊥) b → All (λ (z : Item). z.id ≡ x.id → ⊥) b
turned x b none = λ k d within e. none k d within (sym e)

-- an item that is before all of another list is left out on both sides
first_out : (x y : Item) (a b : List Item) → x.id < y.id → Ascends (y ∷ b)
    → both a (y ∷ b) ≡ both (y ∷ b) a → both (x ∷ a) (y ∷ b) ≡ both (y ∷ b) (x ∷ a)
first_out x y a b less up rest =
    let none = behind x y b less up in
    ap (λ (t : Bool). cond t (x ∷ both a (y ∷ b)) (both a (y ∷ b)))
    (has_no_id (y ∷ b) x.id (turned x (y ∷ b) none))
    ∙ (rest ∙ sym (skip (y ∷ b) a x none))

-- an item that is first in both lists is kept on both sides
first_kept : (x y : Item) (a b : List Item) → x ≡ y → Ascends (x ∷ a) → both a b ≡ both b a
    → both (x ∷ a) (y ∷ b) ≡ y ∷ both b a
first_kept x y a b same up rest =
    let id_is : y.id ≡ x.id = ap (λ (z : Item). z.id) (sym same) in
    ap (λ (t : Bool). cond (t || has_id b x.id) (x ∷ both a (y ∷ b)) (both a (y ∷ b))) (eq-eqb y.id x.id id_is)
    ∙ (ap (λ (zs : List Item). x ∷ zs)
    (skip a b y (subst (λ (n : ℕ). All (λ (z : Item). n ≡ z.id → ⊥) a) (sym id_is) (others x a up)) ∙ rest)
    ∙ ap (λ (z : Item). z ∷ both b a) same)

-- the lists without their first items have one item by id too
one_left : (x : Item) (a b : List Item) → AreOneById (x ∷ a) b → AreOneById a b
one_left x a b one = record { same = λ u v there here e. one.same u v (in_later x u a there) here e }

one_right : (y : Item) (a b : List Item) → AreOneById a (y ∷ b) → AreOneById a b
one_right y a b one = record { same = λ u v there here e. one.same u v there (in_later y v b here) e }

-- the items of the one list whose ids the other has are those of the other whose ids the one has
common : (n : ℕ) (a b : List Item) → length a + length b ≤ n → Ascends a → Ascends b → AreOneById a b
    → both a b ≡ both b a
common n [] b few up down one = sym (both_none b)
common n (x ∷ a) [] few up down one = both_none (x ∷ a)
common zero (x ∷ a) (y ∷ b) few up down one = absurd (omega (arith, few))
common (suc n) (x ∷ a) (y ∷ b) few up down one =
    by (λ same. common n a b (omega (arith, few)) (pairs_rest Before x a up) (pairs_rest Before y b down)
    (one_right y a b (one_left x a (y ∷ b) one)))
    (common n a (y ∷ b) (omega (arith, few)) (pairs_rest Before x a up) down (one_left x a (y ∷ b) one))
    (common n (x ∷ a) b (omega (arith, few)) up (pairs_rest Before y b down) (one_right y (x ∷ a) b one))
    (cases_order x.id y.id)
  where
    by : (x ≡ y → both a b ≡ both b a) → both a (y ∷ b) ≡ both (y ∷ b) a → both (x ∷ a) b ≡ both b (x ∷ a)
        → (x.id ≡ y.id) ⊎ ((x.id < y.id) ⊎ (y.id < x.id)) → both (x ∷ a) (y ∷ b) ≡ both (y ∷ b) (x ∷ a)
    by equal left right (inl e) =
        let same : x ≡ y = one.same x y (in_here x a) (in_here y b) e in
        first_kept x y a b same up (equal same)
        ∙ (sym (ap (λ (z : Item). z ∷ both b a) same)
        ∙ (ap (λ (zs : List Item). x ∷ zs) (sym (equal same))
        ∙ sym (first_kept y x b a (sym same) down (sym (equal same)))))
    by equal left right (inr (inl less)) = first_out x y a b less down left
    by equal left right (inr (inr more)) = sym (first_out y x b a more up (sym right))

-- what each list has alone, with what both have, makes a change
pub change_told : (old new gone come : List Item) → Ascends old → Ascends new → AreOneById old new
    → IsSince old new gone come → IsChange old gone come new
change_told old new gone come up down one since = record {
  kept = both old new;
  before = subst (λ (xs : List Item). IsMerge xs (both old new) old) (sym since.gone_is) (parts old new);
  after = subst (λ (xs : List Item). IsMerge xs (both old new) new) (sym since.come_is)
      (subst (λ (xs : List Item). IsMerge (alone new old) xs new)
      (sym (common (length old + length new) old new (omega arith) up down one)) (parts new old));
}
