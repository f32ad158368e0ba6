-- Lists in order of id.
use Rattle.std.proofs.Common.{◌≡◌, ◌⊎◌, inl, inr, ℕ, ◌+◌, ◌<◌, zero, suc, Bool, true, false}
use Rattle.std.proofs.Common.{cond, Some, refl, sym, ◌∙◌, ap, subst, List, [], ◌∷◌, ◌++◌, get_or, arith}
use Rattle.std.specs.Prelude.{All, Contains, slice_get}
use Rattle.std.specs.List.{filter}
use Rattle.std.proofs.lemmas.Option.{same_Some, slice_get-get_or}
use Rattle.std.proofs.lemmas.List.Elements.{All-contains}
use Rattle.std.proofs.lemmas.List.Kept.{AllPairs-filter}
use Rattle.pcb_model.specs.declared.item.Item.{Item}
use Rattle.pcb_model.specs.declared.design.Design.{Design}
use Rattle.pcb_model.specs.Copper.{Ascends}
use Rattle.board_offers.specs.Items.{is_on}
use Rattle.board_offers.specs.Given.{AreGiven}
use Rattle.board_offers.proofs.Lists.{in_here, in_later, in_from, all_from, all_front, pairs_rest, pairs_append}
use Rattle.board_offers.proofs.Lists.{found_at}
use Rattle.board_offers.proofs.Lists.{stayed, passes, on_item}
use Rattle.board_offers.proofs.Troubles.{is_on_in}

abbrev Before : Item → Item → Type 0
Before a b = a.id < b.id

-- the item at place j has the id n + j
abbrev pub AreNumberedFrom : List Item → ℕ → Type 0
AreNumberedFrom items n = (j : ℕ) (a : Item) → slice_get items j ≡ Some a → a.id ≡ n + j

pub numbered_ascends : (items : List Item) (n : ℕ) → AreNumberedFrom items n → Ascends items
numbered_ascends items n numbered = λ i j d before within.
    let first = numbered i (get_or items i d) (slice_get-get_or items i d (omega (arith, before, within))) in
    let second = numbered j (get_or items j d) (slice_get-get_or items j d within) in
    omega (arith, first, second, before)

-- items numbered from n on, behind items below n
pub ascends_behind : (items come : List Item) (n : ℕ) → Ascends items → All (λ (a : Item). a.id < n) items
    → AreNumberedFrom come n → Ascends (items ++ come)
ascends_behind items come n up below numbered =
    pairs_append Before items come up (numbered_ascends come n numbered)
    (λ a there. all_from (Before a) come (λ b here.
    let f = found_at come b here in
    let is : b.id ≡ n + f.place = numbered f.place b f.there in
    let less : a.id < n = All-contains (λ (x : Item). x.id < n) items a below there in
    omega (arith, is, less)))

pub given_numbered : (d : Design) (items : List Item) → AreGiven d items → AreNumberedFrom items 0
given_numbered d items given j a at = (given j a at).numbered ∙ (let e : j ≡ 0 + j = omega arith in e)

pub given_ascends : (d : Design) (items : List Item) → AreGiven d items → Ascends items
given_ascends d items given = numbered_ascends items 0 (given_numbered d items given)

-- ---- equal lists
first_or_later : (x y : Item) (ys : List Item) → Ascends (y ∷ ys) → Contains (y ∷ ys) x → (x ≡ y) ⊎ (y.id < x.id)
first_or_later x y ys up (zero, within, is) = inl (sym is)
first_or_later x y ys up (suc k, within, is) =
    inr (All-contains (λ (z : Item). y.id < z.id) ys x (all_front Before y ys up) (k, omega (arith, within), is))

not_first : (x y : Item) (ys : List Item) → x.id < y.id → Contains (x ∷ ys) y → Contains ys y
not_first x y ys less (zero, within, is) =
    absurd (let e : x.id ≡ y.id = ap (λ (a : Item). a.id) is in omega (arith, less, e))
not_first x y ys less (suc k, within, is) = (k, omega (arith, within), is)

tails : (x y : Item) (xs ys : List Item) → (x ≡ y → xs ≡ ys) → (x ≡ y) ⊎ (y.id < x.id) → (y ≡ x) ⊎ (x.id < y.id)
    → x ∷ xs ≡ y ∷ ys
tails x y xs ys rest first second = by first second
  where
    both : x ≡ y → x ∷ xs ≡ y ∷ ys
    both same = ap (λ (a : Item). a ∷ xs) same ∙ ap (λ (zs : List Item). y ∷ zs) (rest same)

    by : (x ≡ y) ⊎ (y.id < x.id) → (y ≡ x) ⊎ (x.id < y.id) → x ∷ xs ≡ y ∷ ys
    by (inl same) other = both same
    by (inr less) (inl same) = both (sym same)
    by (inr less) (inr more) = absurd (omega (arith, less, more))

-- what is in a list behind its first item is in the other behind its first
behind : (x y : Item) (xs ys : List Item) → x ≡ y → Ascends (x ∷ xs)
    → ((a : Item) → Contains (x ∷ xs) a → Contains (y ∷ ys) a)
    → (a : Item) → Contains xs a → Contains ys a
behind x y xs ys same up to a there =
    not_first y a ys
    (let less = All-contains (λ (z : Item). x.id < z.id) xs a (all_front Before x xs up) there in
    let e : x.id ≡ y.id = ap (λ (b : Item). b.id) same in omega (arith, less, e))
    (to a (in_later x a xs there))

-- two lists in order of id that hold the same items are equal
pub same_items : (xs ys : List Item) → Ascends xs → Ascends ys → ((a : Item) → Contains xs a → Contains ys a)
    → ((a : Item) → Contains ys a → Contains xs a) → xs ≡ ys
same_items [] [] up down to back = refl
same_items [] (y ∷ ys) up down to back = none (back y (in_here y ys))
  where
    none : Contains [] y → [] ≡ y ∷ ys
    none (k, within, is) = absurd (omega (arith, within))
same_items (x ∷ xs) [] up down to back = none (to x (in_here x xs))
  where
    none : Contains [] x → x ∷ xs ≡ []
    none (k, within, is) = absurd (omega (arith, within))
same_items (x ∷ xs) (y ∷ ys) up down to back =
    tails x y xs ys
    (λ same. same_items xs ys (pairs_rest Before x xs up) (pairs_rest Before y ys down) (behind x y xs ys same up to)
    (behind y x ys xs (sym same) down back))
    (first_or_later x y ys down (to x (in_here x xs))) (first_or_later y x xs up (back y (in_here y ys)))

-- ---- items by their ids
kept_step : (p : Item → Bool) (a b : Item) (xs : List Item) (t : Bool) → Contains (filter p xs) b
    → Contains (cond t (a ∷ filter p xs) (filter p xs)) b
kept_step p a b xs true h = in_later a b (filter p xs) h
kept_step p a b xs false h = h

pub kept_there : (p : Item → Bool) (xs : List Item) (b : Item) → Contains xs b → p b ≡ true → Contains (filter p xs) b
kept_there p [] b (k, within, is) e = absurd (omega (arith, within))
kept_there p (a ∷ xs) b (zero, within, is) e =
    subst (λ (t : Bool). Contains (cond t (a ∷ filter p xs) (filter p xs)) b) (sym (ap p is ∙ e))
    (subst (Contains (a ∷ filter p xs)) is (in_here a (filter p xs)))
kept_there p (a ∷ xs) b (suc k, within, is) e =
    kept_step p a b xs (p a) (kept_there p xs b (k, omega (arith, within), is) e)

abbrev by_id : (ℕ → Bool) → Item → Bool
by_id p a = p a.id

-- items that were given their ids are those of the given ones whose ids pass
pub standing_is : (d : Design) (given items : List Item) (p : ℕ → Bool) → AreGiven d given → Ascends items
    → All (λ (a : Item). slice_get given a.id ≡ Some a) items
    → ((a : Item) → Contains given a → p a.id ≡ is_on a.id items)
    → filter (λ (a : Item). p a.id) given ≡ items
standing_is d given items p are up found same =
    same_items (filter (by_id p) given) items
    (AllPairs-filter Before (by_id p) given (given_ascends d given are)) up
    (λ a there. there_too a (stayed (by_id p) given a there) (passes (by_id p) given a there))
    (λ a there. kept_there (by_id p) given a (given_too a there)
    (same a (given_too a there) ∙ is_on_in items a.id a there refl))
  where
    given_too : (a : Item) → Contains items a → Contains given a
    given_too a there = in_from given a.id a
        (All-contains (λ (b : Item). slice_get given b.id ≡ Some b) items a found there)

    there_too : (a : Item) → Contains given a → p a.id ≡ true → Contains items a
    there_too a there passed =
        let on = on_item items a.id (sym (same a there) ∙ passed) in
        let f = found_at given a there in
        let at : slice_get given a.id ≡ Some a =
        subst (λ (x : ℕ). slice_get given x ≡ Some a) (sym (are f.place a f.there).numbered) f.there in
        let other : slice_get given on.item.id ≡ Some on.item =
        All-contains (λ (b : Item). slice_get given b.id ≡ Some b) items on.item found on.there in
        let equal : on.item ≡ a = same_Some on.item a (sym other ∙ ap (λ (x : ℕ). slice_get given x) on.id_is ∙ at) in
        subst (Contains items) equal on.there
