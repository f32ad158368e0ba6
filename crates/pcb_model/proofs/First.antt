-- The first item in a list whose ids ascend, and lists that stand side by side.
use Rattle.std.proofs.Common.{◌≡◌, ℕ, pos, ◌+◌, ◌<◌, ◌≤◌, List, [], ◌∷◌, ◌++◌, length, take, Option, get_or, sym, refl}
use Rattle.std.proofs.Common.{ap, ◌∙◌, subst, inl, inr, arith, ◌⊎◌, All}
use Rattle.std.specs.Prelude.{Contains, remove}
use Rattle.std.specs.List.{AllZip}
use Rattle.std.specs.List.Sorted.{IsNonDecreasingBy}
use Prim.Native.Nat.{zero, suc}
use Rattle.std.proofs.lemmas.List.{length-take, get_or-take}
use Rattle.std.proofs.lemmas.List.Elements.{All-more}
use Rattle.pcb_model.specs.declared.item.Item.{Item}
use Rattle.pcb_model.specs.Copper.{IsOther, IsLookedAt, IsLeast, IsFirstFrom, Ascends, IsAt, AreExtentsOf}
use Rattle.pcb_model.specs.declared.near.Extent.{Extent}
use Rattle.pcb_model.specs.Near.{IsExtentOf}

get_or_any : (items : List Item) (k : ℕ) (d e : Item) → k < length items → get_or items k d ≡ get_or items k e
get_or_any [] k d e h = absurd (omega arith)
get_or_any (x ∷ xs) zero d e h = refl
get_or_any (x ∷ xs) (suc k) d e h = get_or_any xs k d e (omega arith)

same_or_more : (i k : ℕ) → i ≤ k → (i ≡ k) ⊎ (i < k)
same_or_more zero zero h = inl refl
same_or_more zero (suc k) h = inr (omega arith)
same_or_more (suc i) zero h = absurd (omega arith)
same_or_more (suc i) (suc k) h =
    elim (same_or_more i k (omega arith)) [ inl a ↦ inl (ap suc a) | inr a ↦ inr (omega arith) ]

pub cases_lt : (k i : ℕ) → (k < i) ⊎ (i ≤ k)
cases_lt k zero = inr (omega arith)
cases_lt zero (suc i) = inl (omega arith)
cases_lt (suc k) (suc i) = elim (cases_lt k i) [ inl a ↦ inl (omega arith) | inr a ↦ inr (omega arith) ]

pub rises : (items : List Item) → Ascends items → IsNonDecreasingBy (λ (b : Item). b.id) items
rises items up i j d h l = elim (same_or_more i j h) [
  | inl e ↦ let s : (get_or items i d).id ≡ (get_or items j d).id = ap (λ (k : ℕ). (get_or items k d).id) e in
      omega (arith, s)
  | inr m ↦ omega (arith, up i j d m l)
]

id_at : (items : List Item) (i k : ℕ) (b c : Item) → b ≡ get_or items i b → get_or items k c ≡ c → i ≡ k
    → i < length items → b.id ≡ c.id
id_at items i k b c bi kc e h =
    ap (λ (x : Item). x.id) (bi ∙ (get_or_any items i b c h ∙ (ap (λ (x : ℕ). get_or items x c) e ∙ kc)))

earlier : (items : List Item) (i k : ℕ) (b c : Item) → Ascends items → i < length items → b ≡ get_or items i b
    → k < length items → get_or items k c ≡ c → c.id < b.id → k < i
earlier items i k b c up h bi kl kc lt = elim (cases_lt k i) [
  | inl a ↦ a
  | inr a ↦ elim (same_or_more i k a) [
    | inl e ↦ absurd (omega (arith, lt, id_at items i k b c bi kc e h))
    | inr m ↦ absurd
        (omega (
          arith,
          lt,
          up i k b m kl,
          ap (λ (x : Item). x.id) bi,
          ap (λ (x : Item). x.id) kc,
          ap (λ (x : Item). x.id) (get_or_any items k b c kl),
        ))
  ]
]

in_take : (xs : List Item) (i k : ℕ) (d : Item) → k < i → k < length xs
    → (k < length (take i xs)) × (get_or (take i xs) k d ≡ get_or xs k d)
in_take xs i k d h l = (omega (arith, length-take i xs), get_or-take i xs k d h)

-- before a search begins
pub none_below : (No : Item → Type 0) (from : ℕ) (but : Option ℕ) (items : List Item) (i : ℕ)
    → ((k : ℕ) (e : Item) → k < i → (get_or items k e).id < from)
    → All (λ b. IsLookedAt from but b → No b) (take i items)
none_below No from but items i h = λ k d l look.
    let m : k < i = omega (arith, l, length-take i items) in
    absurd (omega (arith, h k d m, look.0, ap (λ (x : Item). x.id) (get_or-take i items k d m)))

-- one item is passed over
pub one_more : (No : Item → Type 0) (from : ℕ) (but : Option ℕ) (items : List Item) (i : ℕ) (b : Item)
    → i < length items → All (λ c. IsLookedAt from but c → No c) (take i items) → b ≡ get_or items i b
    → (IsOther but b → No b)
    → All (λ c. IsLookedAt from but c → No c) (take (i + 1) items)
one_more No from but items i b h before bi n =
    All-more (λ c. IsLookedAt from but c → No c) items i b h before
    (subst (λ (c : Item). IsLookedAt from but c → No c) bi (λ look. n look.1))

-- the search ends at an item
found : (Yes No : Item → Type 0) (from : ℕ) (but : Option ℕ) (items : List Item) (i : ℕ) (b : Item) → Ascends items
    → i < length items → All (λ c. IsLookedAt from but c → No c) (take i items)
    → b ≡ get_or items i b → from ≤ (get_or items i b).id → IsOther but b → Yes b → IsLeast Yes No from but items b.id
found Yes No from but items i b up h before bi le other holds = record {
  item = b;
  there = (i, h, sym bi);
  id_is = refl;
  looked_at = (omega (arith, le, ap (λ (x : Item). x.id) bi), other);
  holds = holds;
  before = λ c m l lt. let e = earlier items i m.0 b c up h bi m.1 m.2 lt in let t = in_take items i m.0 c e m.1 in
      subst No (t.1 ∙ m.2) (before m.0 c t.0 (subst (IsLookedAt from but) (sym (t.1 ∙ m.2)) l));
}

pub found_id : (Yes No : Item → Type 0) (from : ℕ) (but : Option ℕ) (items : List Item) (i : ℕ) (b e : Item)
    → Ascends items → i < length items → All (λ c. IsLookedAt from but c → No c) (take i items)
    → b ≡ get_or items i b → from ≤ (get_or items i b).id → IsOther but b → Yes b
    → IsLeast Yes No from but items (get_or items i e).id
found_id Yes No from but items i b e up h before bi le other holds =
    subst (IsLeast Yes No from but items) (ap (λ (x : Item). x.id) (bi ∙ get_or_any items i b e h))
    (found Yes No from but items i b up h before bi le other holds)

-- the search ends at the end of the list
pub none_found : (No : Item → Type 0) (from : ℕ) (but : Option ℕ) (items : List Item) (i : ℕ) → length items ≤ i
    → All (λ b. IsLookedAt from but b → No b) (take i items)
    → (b : Item) → Contains items b → IsLookedAt from but b → No b
none_found No from but items i h all b m l = let t = in_take items i m.0 b (omega (arith, m.1)) m.1 in
    subst No (t.1 ∙ m.2) (all m.0 b t.0 (subst (IsLookedAt from but) (sym (t.1 ∙ m.2)) l))

pub item_at : (P : Item → Type 0) (items : List Item) → All P items → (i : ℕ) → i < length items → (b : Item)
    → b ≡ get_or items i b → P b
item_at P items h i l b bi = subst P (sym bi) (h i b l)

-- the first item whose id isn't below a number
pub first_is : (items : List Item) (from i : ℕ) (b : Item) → Ascends items → i < length items → b ≡ get_or items i b
    → ((k : ℕ) (e : Item) → k < i → (get_or items k e).id < from) → from ≤ (get_or items i b).id
    → IsFirstFrom from items b
first_is items from i b up h bi below from_on = record {
  there = (i, h, sym bi);
  from_on = omega (arith, from_on, ap (λ (x : Item). x.id) bi);
  before = λ e m lt. let k = earlier items i m.0 b e up h bi m.1 m.2 lt in
      omega (arith, below m.0 e k, ap (λ (x : Item). x.id) m.2);
}

-- ---- an id that is nowhere, and one that is somewhere
pub nowhere : (items : List Item) (i id : ℕ) (b : Item) → Ascends items → i < length items → b ≡ get_or items i b
    → ((k : ℕ) (e : Item) → k < i → (get_or items k e).id < id)
    → ((k : ℕ) (e : Item) → i ≤ k → k < length items → id ≤ (get_or items k e).id) → (b.id ≡ id → ⊥)
    → All (λ c. c.id ≡ id → ⊥) items
nowhere items i id b up h bi below above n = λ k d l e. elim (cases_lt k i) [
  | inl a ↦ omega (arith, e, below k d a)
  | inr a ↦ elim (same_or_more i k a) [
    | inl s ↦ n (ap (λ (x : Item). x.id) (bi ∙ (get_or_any items i b d h ∙ ap (λ (x : ℕ). get_or items x d) s)) ∙ e)
    | inr m ↦ omega (arith, e, up i k d m l, above i d (omega arith) h)
  ]
]

pub is_at : (items : List Item) (i id : ℕ) (b : Item) → i < length items → b ≡ get_or items i b → b.id ≡ id
    → IsAt items i id
is_at items i id b h bi e =
    record { within = h; id_is = λ d. ap (λ (x : Item). x.id) (get_or_any items i d b h ∙ sym bi) ∙ e }

-- ---- lists side by side
pub zip_length : {X Y : Type 0} (R : X → Y → Type 0) (xs : List X) (ys : List Y) → AllZip R xs ys
    → length ys ≡ length xs
zip_length R [] [] h = refl
zip_length R [] (y ∷ ys) h = absurd h
zip_length R (x ∷ xs) [] h = absurd h
zip_length R (x ∷ xs) (y ∷ ys) h = let e = zip_length R xs ys h.1 in omega (arith, e)

pub zip_at : {X Y : Type 0} (R : X → Y → Type 0) (xs : List X) (ys : List Y) (i : ℕ) (x : X) (y : Y) → AllZip R xs ys
    → i < length xs → R (get_or xs i x) (get_or ys i y)
zip_at R [] ys i x y h l = absurd (omega (arith, l))
zip_at R (a ∷ xs) [] i x y h l = absurd h
zip_at R (a ∷ xs) (b ∷ ys) zero x y h l = h.0
zip_at R (a ∷ xs) (b ∷ ys) (suc i) x y h l = zip_at R xs ys i x y h.1 (omega (arith, l))

pub zip_push : {X Y : Type 0} (R : X → Y → Type 0) (xs : List X) (ys : List Y) (x : X) (y : Y) → AllZip R xs ys → R x y
    → AllZip R (xs ++ x ∷ []) (ys ++ y ∷ [])
zip_push R [] [] x y h r = (r, tt)
zip_push R [] (b ∷ ys) x y h r = absurd h
zip_push R (a ∷ xs) [] x y h r = absurd h
zip_push R (a ∷ xs) (b ∷ ys) x y h r = (h.0, zip_push R xs ys x y h.1 r)

pub zip_remove : {X Y : Type 0} (R : X → Y → Type 0) (xs : List X) (ys : List Y) (i : ℕ) → AllZip R xs ys
    → AllZip R (remove xs i) (remove ys i)
zip_remove R [] [] zero h = tt
zip_remove R [] [] (suc i) h = tt
zip_remove R [] (b ∷ ys) i h = absurd h
zip_remove R (a ∷ xs) [] i h = absurd h
zip_remove R (a ∷ xs) (b ∷ ys) zero h = h.1
zip_remove R (a ∷ xs) (b ∷ ys) (suc i) h = (h.0, zip_remove R xs ys i h.1)

pub extent_at : (items : List Item) (extents : List Extent) (i : ℕ) (b : Item) (y : Extent) → AreExtentsOf items extents
    → i < length items → b ≡ get_or items i b → IsExtentOf b.pieces (get_or extents i y)
extent_at items extents i b y h l is =
    subst (λ (x : Item). IsExtentOf x.pieces (get_or extents i y)) (sym is)
    (zip_at (λ (a : Item) (e : Extent). IsExtentOf a.pieces e) items extents i b y h l)

-- what stands for no extent
abbrev pub no_extent : Extent
no_extent = record {
  bounds = record { x0 = pos 0; y0 = pos 0; x1 = pos 0; y1 = pos 0 };
  width = 0;
  first = 0;
  last = 0;
}
