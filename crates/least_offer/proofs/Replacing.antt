-- Shoved items and their replacements, one by one.
use Rattle.std.proofs.Common.{◌≡◌, ◌≢◌, ℕ, zero, suc, ◌+◌, ◌<◌, ◌^◌, ◌==◌, eq-eqb, Bool, true, false, true≢false, cond}
use Rattle.std.proofs.Common.{List, [], ◌∷◌, map, length, get_or, Option, Some, refl, sym, ap, ◌∙◌, subst, arith, inl}
use Rattle.std.proofs.Common.{inr, ◌⊎◌, All}
use Rattle.std.specs.Prelude.{AllPairs, Contains}
use Rattle.std.specs.List.{AllZip, find}
use Rattle.std.specs.Option.{option_map_or}
use Rattle.std.proofs.lemmas.Bool.{eqb-true}
use Rattle.std.proofs.lemmas.Option.{same_Some}
use Rattle.std.proofs.lemmas.List.Kept.{AllPairs-cons}
use Rattle.std.proofs.lemmas.List.Elements.{All-nil, All-cons}
use Rattle.geo_kernel.specs.declared.point.Point.{Point}
use Rattle.geo_kernel.specs.Plane.{IsWithin}
use Rattle.pcb_model.specs.declared.item.Metal.{Metal}
use Rattle.pcb_model.specs.declared.item.Metal.TheVariants as metal
use Rattle.pcb_model.specs.declared.item.Item.{Item}
use Rattle.pcb_model.specs.declared.design.Design.{Design}
use Rattle.pcb_model.specs.Pieces.{item_of}
use Rattle.pcb_model.specs.Pairs.{Agrees}
use Rattle.pcb_model.specs.Bounds.{IsMetalFit}
use Rattle.route_lattice.specs.Mesh.{Mesh}
use Rattle.shove.specs.Shoves as shove
use Rattle.shove.specs.Shoves.{chain_of}
use Rattle.board_offers.specs.declared.offer.Shoved.{Shoved}
use Rattle.board_offers.specs.Items as board
use Rattle.board_offers.specs.Items.{reshaped, item_at, replaced_from, after_shoves}
use Rattle.board_offers.specs.Offers as offers
use Rattle.board_offers.proofs.Lists.{in_here, in_later}
use Rattle.least_offer.specs.Least.{IsShoveOf}

-- ---- lists side by side
pub record Zipped {X Y : Type 0} (R : X → Y → Type 0) (xs : List X) (y : Y) : Type 0 where
  pub left : X
  pub left_in : Contains xs left
  pub holds : R left y

pub zip_right : {X Y : Type 0} (R : X → Y → Type 0) (xs : List X) (ys : List Y) (y : Y) → AllZip R xs ys
    → Contains ys y → Zipped R xs y
zip_right R [] [] y h (k, within, is) = absurd (omega (arith, within))
zip_right R [] (z ∷ ys) y h there = absurd h
zip_right R (x ∷ xs) [] y h there = absurd h
zip_right R (x ∷ xs) (z ∷ ys) y h (zero, within, is) = record {
  left = x;
  left_in = in_here x xs;
  holds = subst
      (R x) is h.0;
}
zip_right R (x ∷ xs) (z ∷ ys) y h (suc k, within, is) =
    let rest = zip_right R xs ys y h.1 (
      k,
      omega
          (arith, within),
      is,
    ) in record { left = rest.left; left_in = in_later x rest.left xs rest.left_in; holds = rest.holds }

pub zip_ids : (d : Design) (m : Mesh) (items new : List Item) (ids : List ℕ) (shoves : List Shoved)
    → AllZip (IsShoveOf d m items new) ids shoves → map (λ (s : Shoved). s.id) shoves ≡ ids
zip_ids d m items new [] [] h = refl
zip_ids d m items new [] (s ∷ ss) h = absurd h
zip_ids d m items new (x ∷ xs) [] h = absurd h
zip_ids d m items new (x ∷ xs) (s ∷ ss) h = λ i. h.0.id_is i ∷ zip_ids d m items new xs ss h.1 i

pub same_some : (x y : Item) → Some x ≡ Some y → x ≡ y
same_some x y e = same_Some x y e

order : (n m : ℕ) → (n < m) ⊎ ((m < n) ⊎ (n ≡ m))
order zero zero = inr (inr refl)
order zero (suc m) = inl (omega arith)
order (suc n) zero = inr (inl (omega arith))
order (suc n) (suc m) = elim (order n m) [
  | inl h ↦ inl (omega arith)
  | inr h ↦ elim h [
    | inl k ↦ inr
        (inl (omega arith))
    | inr e ↦ inr (inr (ap suc e))
  ]
]

-- of two elements one comes first
pub either_way : {X : Type 0} (R : X → X → Type 0) (xs : List X) (x y : X) → AllPairs R xs → Contains xs x
    → Contains xs y → x ≢ y → R x y ⊎ R y x
either_way {X} R xs x y pairs (i, i_in, i_is) (j, j_in, j_is) apart = elim (order i j) [
  | inl h ↦ inl (subst (λ (p : X × X). R p.0 p.1) (λ k. (i_is k, (same_at j j_in ∙ j_is) k)) (pairs i j x h j_in))
  | inr h ↦ elim h [
    | inl g ↦ inr (subst (λ (p : X × X). R p.0 p.1) (λ k. ((same_at j j_in ∙ j_is) k, i_is k)) (pairs j i x g i_in))
    | inr e ↦ absurd (apart (sym i_is ∙ ap (λ (n : ℕ). get_or xs n x) e ∙ same_at j j_in ∙ j_is))
  ]
]
  where
    any : (zs : List X) (n : ℕ) → n < length zs → get_or zs n x ≡ get_or zs n y
    any [] n h = absurd (omega arith)
    any (z ∷ zs) zero h = refl
    any (z ∷ zs) (suc n) h = any zs n (omega arith)

    same_at : (n : ℕ) → n < length xs → get_or xs n x ≡ get_or xs n y
    same_at n h = any xs n h

-- ---- wires
pub wire_same : (mt : Metal) → shove.IsWire mt → offers.IsWire mt
wire_same (metal.Wire layer width chain) h = h
wire_same (metal.Via padstack at) h = h
wire_same (metal.Pad pin) h = h
wire_same (metal.Ban wires vias) h = h

pub chain_same : (ps : List Point) (mt : Metal) → shove.with_chain ps mt ≡ board.with_chain ps mt
chain_same ps (metal.Wire layer width chain) = refl
chain_same ps (metal.Via padstack at) = refl
chain_same ps (metal.Pad pin) = refl
chain_same ps (metal.Ban wires vias) = refl

pub to_board : (d : Design) (i : ℕ) (ps : List Point) (a : Item) → shove.reshaped d i ps a ≡ reshaped d i ps a
to_board d i ps a = ap (λ (mt : Metal). item_of d i a.net false mt) (chain_same ps a.metal)

pub wire_within : (mt : Metal) → IsMetalFit mt → All (IsWithin (2 ^ 29)) (chain_of mt)
wire_within (metal.Wire layer width chain) h = h.1
wire_within (metal.Via padstack at) h = All-nil (IsWithin (2 ^ 29))
wire_within (metal.Pad pin) h = All-nil (IsWithin (2 ^ 29))
wire_within (metal.Ban wires vias) h = All-nil (IsWithin (2 ^ 29))

-- an id doesn't matter
pub left_id : (d : Design) (i j : ℕ) (net : Option ℕ) (mt : Metal) (x : Item) → Agrees d (item_of d i net false mt) x
    → Agrees d (item_of d j net false mt) x
left_id d i j net mt x h = record { keep = h.keep; stay_off = h.stay_off }

pub right_id : (d : Design) (x : Item) (i j : ℕ) (net : Option ℕ) (mt : Metal) → Agrees d x (item_of d i net false mt)
    → Agrees d x (item_of d j net false mt)
right_id d x i j net mt h = record { keep = h.keep; stay_off = h.stay_off }

-- ---- replacements
module _ (d : Design) (gv : List Item) where
  pub all_replaced : (P : Item → Type 0) (id : ℕ) (ss : List Shoved)
      → ((i : ℕ) (s : Shoved) → Contains ss s → P (reshaped d i s.chain (item_at gv s.id)))
      → All P (replaced_from d gv id ss)
  all_replaced P id [] f = All-nil P
  all_replaced P id (s ∷ ss) f = All-cons P (reshaped d id s.chain (item_at gv s.id)) (replaced_from d gv (id + 1) ss)
      (f id s (in_here s ss)) (all_replaced P (id + 1) ss (λ i t there. f i t (in_later s t ss there)))

  pub pairs_replaced : (id : ℕ) (ss : List Shoved)
      → ((p q : ℕ) (x : Shoved) → p < q → q < length ss → (i k : ℕ)
      → Agrees d (reshaped d i (get_or ss p x).chain (item_at gv (get_or ss p x).id))
      (reshaped d k (get_or ss q x).chain (item_at gv (get_or ss q x).id)))
      → AllPairs (Agrees d) (replaced_from d gv id ss)
  pairs_replaced id [] f = λ i j x before within. absurd (omega arith)
  pairs_replaced id (s ∷ ss) f =
      AllPairs-cons (Agrees d) (reshaped d id s.chain (item_at gv s.id)) (replaced_from d gv (id + 1) ss)
      (all_replaced (Agrees d (reshaped d id s.chain (item_at gv s.id))) (id + 1) ss
      (λ k t there. subst (λ (u : Shoved). Agrees d (reshaped d id s.chain (item_at gv s.id))
      (reshaped d k u.chain (item_at gv u.id))) there.2 (f 0 (suc there.0) t (omega arith)
      (omega (arith, there.1)) id k)))
      (pairs_replaced (id + 1) ss (λ p q x before within i k. f (suc p) (suc q) x (omega arith) (omega arith) i k))

-- ---- an item after the shoves
pub record ShovedBy (d : Design) (shoves : List Shoved) (a : Item) : Type 0 where
  pub by : Shoved
  pub by_in : Contains shoves by
  pub id_is : by.id ≡ a.id
  pub after : after_shoves d shoves a ≡ reshaped d a.id by.chain a

pub record NotShoved (d : Design) (shoves : List Shoved) (a : Item) : Type 0 where
  pub others : (s : Shoved) → Contains shoves s → s.id ≢ a.id
  pub after : after_shoves d shoves a ≡ a

one_more : (d : Design) (s : Shoved) (ss : List Shoved) (a : Item) → (b : Bool) → (s.id == a.id) ≡ b
    → (ShovedBy d ss a ⊎ NotShoved d ss a) → ShovedBy d (s ∷ ss) a ⊎ NotShoved d (s ∷ ss) a
one_more d s ss a true e rest = inl (record {
  by = s;
  by_in = in_here s ss;
  id_is = eqb-true s.id a.id e;
  after = ap (λ (t : Bool). option_map_or (λ (u : Shoved). reshaped d a.id u.chain a)
      (cond t (Some s) (find (λ (u : Shoved). u.id == a.id) ss)) a) e;
})
one_more d s ss a false e (inl h) = inl (record {
  by = h.by;
  by_in = in_later s h.by ss h.by_in;
  id_is = h.id_is;
  after = ap (λ (t : Bool). option_map_or (λ (u : Shoved). reshaped d a.id u.chain a)
      (cond t (Some s) (find (λ (u : Shoved). u.id == a.id) ss)) a) e ∙ h.after;
})
one_more d s ss a false e (inr h) = inr (record {
  others = λ t there same. elim (first_or_later t there) [
    | inl here ↦ true≢false (sym (eq-eqb s.id a.id (ap (λ (u : Shoved). u.id) here ∙ same)) ∙ e)
    | inr later ↦ h.others t later same
  ];
  after = ap (λ (t : Bool). option_map_or (λ (u : Shoved). reshaped d a.id u.chain a)
      (cond t (Some s) (find (λ (u : Shoved). u.id == a.id) ss)) a) e ∙ h.after;
})
  where
    first_or_later : (t : Shoved) → Contains (s ∷ ss) t → (s ≡ t) ⊎ Contains ss t
    first_or_later t (zero, within, is) = inl is
    first_or_later t (suc k, within, is) = inr (k, omega (arith, within), is)

pub shoved_or_not : (d : Design) (shoves : List Shoved) (a : Item) → ShovedBy d shoves a ⊎ NotShoved d shoves a
shoved_or_not d [] a = inr (record { others = λ s there. absurd (omega (arith, there.1)); after = refl })
shoved_or_not d (s ∷ ss) a = one_more d s ss a (s.id == a.id) refl (shoved_or_not d ss a)
