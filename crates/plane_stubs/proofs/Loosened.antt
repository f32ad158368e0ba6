-- Items of which some are routed ones.
use Rattle.std.proofs.Common.{◌≡◌, ℕ, zero, suc, ◌+◌, arith, refl, sym, ap, ◌∙◌, List, [], ◌∷◌, ◌++◌, Bool, true, cond}
use Rattle.std.proofs.Common.{All, Some}
use Rattle.std.specs.Prelude.{filter, map, slice_get}
use Rattle.std.proofs.lemmas.List.Elements.{All-append, All-cons, All-head, All-nil, All-tail}
use Rattle.std.proofs.lemmas.Option.{same_Some}
use Rattle.geo_kernel.proofs.Paths.{All-append_first, All-append_second}
use Rattle.pcb_model.specs.declared.item.Item.{Item}
use Rattle.pcb_model.specs.declared.design.Design.{Design}
use Rattle.pcb_model.specs.Board.{is_fixed}
use Rattle.pcb_model.specs.Sound.{IsFixedSound, IsItemOf, IsSound, Serves}
use Rattle.plane_joins.specs.Stubs.{loose}

-- items numbered by their places, some of them as routed ones
pub numbered : (xs ys : List Item) (n : ℕ)
    → ((i : ℕ) (a : Item) → slice_get (xs ++ ys) i ≡ Some a → a.id ≡ n + i)
    → (i : ℕ) (a : Item) → slice_get (xs ++ map loose ys) i ≡ Some a → a.id ≡ n + i
numbered [] [] n h i a e = h i a e
numbered [] (y ∷ ys) n h zero a e =
    sym (ap (λ (b : Item). b.id) (same_Some (loose y) a e)) ∙ h zero y refl
numbered [] (y ∷ ys) n h (suc i) a e =
    let f = numbered [] ys (suc n) (λ j b g. let m = h (suc j) b g in omega (arith, m)) i a e in omega (arith, f)
numbered (x ∷ xs) ys n h zero a e = h zero a e
numbered (x ∷ xs) ys n h (suc i) a e =
    let f = numbered xs ys (suc n) (λ j b g. let m = h (suc j) b g in omega (arith, m)) i a e in omega (arith, f)

-- ---- they serve the design
pub all_loose : (P : Item → Type 0) → ((b : Item) → P b → P (loose b)) → (xs : List Item) → All P xs
    → All P (map loose xs)
all_loose P f [] h = All-nil P
all_loose P f (x ∷ xs) h =
    All-cons P (loose x) (map loose xs) (f x (All-head P x xs h)) (all_loose P f xs (All-tail P x xs h))

none_fixed : (xs : List Item) → filter is_fixed (map loose xs) ≡ []
none_fixed [] = refl
none_fixed (x ∷ xs) = none_fixed xs

fixed_only : (xs ys : List Item) → All (λ (a : Item). a.fixed ≡ true) xs → filter is_fixed (xs ++ map loose ys) ≡ xs
fixed_only [] ys h = none_fixed ys
fixed_only (x ∷ xs) ys h =
    ap (λ (b : Bool). cond b (x ∷ filter is_fixed (xs ++ map loose ys)) (filter is_fixed (xs ++ map loose ys)))
    (All-head (λ (a : Item). a.fixed ≡ true) x xs h)
    ∙ ap (λ (zs : List Item). x ∷ zs) (fixed_only xs ys (All-tail (λ (a : Item). a.fixed ≡ true) x xs h))

-- what holds of each item at its place
pub each_all : (P : ℕ → Item → Type 0) (Q : Item → Type 0) (xs : List Item)
    → ((i : ℕ) (a : Item) → slice_get xs i ≡ Some a → P i a) → ((i : ℕ) (a : Item) → P i a → Q a) → All Q xs
each_all P Q [] h f = All-nil Q
each_all P Q (x ∷ xs) h f =
    All-cons Q x xs (f 0 x (h 0 x refl)) (each_all (λ i. P (suc i)) Q xs (λ i a e. h (suc i) a e) (λ i a. f (suc i) a))

loose_of : (d : Design) (a : Item) → IsItemOf d a → IsItemOf d (loose a)
loose_of d a h = record {
  fits = record { pieces_fit = h.fits.pieces_fit };
  metal_fits = h.metal_fits;
  metal_in_range = h.metal_in_range;
  layers_in_range = h.layers_in_range;
  net_in_range = h.net_in_range;
}

-- the fixed items with what was added, as routed items
pub ribs_serve : (d : Design) → IsSound d → (ribs : List Item)
    → ((i : ℕ) (a : Item) → slice_get (d.fixed ++ ribs) i ≡ Some a → IsFixedSound d i a)
    → Serves (d.fixed ++ map loose ribs) d
ribs_serve d s ribs each =
    let all = each_all (λ i a. IsFixedSound d i a) (IsItemOf d) (d.fixed ++ ribs) each (λ i a e. e.item) in record {
      design_fits = s.fits;
      fixed_there = fixed_only d.fixed ribs
          (each_all (λ i a. IsFixedSound d i a) (λ (a : Item). a.fixed ≡ true) d.fixed s.fixed (λ i a e. e.fixed));
      items_fit = All-append (IsItemOf d) d.fixed (map loose ribs)
          (All-append_first (IsItemOf d) d.fixed ribs all)
          (all_loose (IsItemOf d) (loose_of d) ribs (All-append_second (IsItemOf d) d.fixed ribs all));
    }
