-- The table before any item comes, place by place, and as the items of some copper come one after another.
use Rattle.std.proofs.Common.{◌≡◌, ℕ, ◌+◌, ◌*◌, ◌<◌, ◌≤◌, List, [], ◌∷◌, ◌++◌, length}
use Rattle.std.proofs.Common.{sym, ap, ◌∙◌, subst, arith}
use Rattle.std.specs.Prelude.{All}
use Rattle.std.proofs.lemmas.Nat.{mul-add-lt}
use Rattle.std.proofs.lemmas.List.{append-nil}
use Rattle.pcb_model.specs.declared.item.Item.{Item}
use Rattle.pcb_model.specs.declared.design.Design.{Design}
use Rattle.pcb_model.specs.Copper.{Ascends, IsFirstFrom}
use Rattle.route_lattice.specs.Mesh.{Mesh, node_count}
use Rattle.route_lattice.specs.Ways.{way_count}
use Rattle.move_maps.specs.Maps.{place_at}
use Rattle.move_maps.specs.Paint.{AreTallied, IsFilled}
use Rattle.move_maps.proofs.Merging.{moved_in}
use Rattle.move_maps.proofs.Tallied.{weaker}
use Rattle.copper_change.proofs.Listing.{AreBelow, none_below, one_below, all_below, all_by}

-- ---- place by place
-- no place is filled at first
pub filled_first : (d : Design) (m : Mesh) (g : ℕ) (xs : List ℕ) (to : ℕ) → xs ≡ [] → to ≡ 0 → IsFilled d m g to xs
filled_first d m g xs to e z = record {
  size = ap length e
      ∙ sym z;
  each = λ v i h l. absurd (never (place_at d m g v i) to l z);
}
  where
    never : (x t : ℕ) → x < t → t ≡ 0 → ⊥
    never x t l z = omega (arith, l, z)

-- the same for an equal place
pub filled_at : (d : Design) (m : Mesh) (g t u : ℕ) (xs : List ℕ) → t ≡ u → IsFilled d m g t xs → IsFilled d m g u xs
filled_at d m g t u xs e f = subst (λ n. IsFilled d m g n xs) e f

-- at last all places are filled
pub filled_all : (d : Design) (m : Mesh) (g v : ℕ) (xs : List ℕ) → v ≡ node_count m
    → IsFilled d m g (v * way_count d m g) xs → AreTallied d m g [] xs
filled_all d m g v xs e f =
    let h = filled_at d m g (v * way_count d m g) (node_count m * way_count d m g) xs
    (ap (λ n. n * way_count d m g) e) f in
    record { size = h.size; each = λ w i hw hi. h.each w i hi (within w (node_count m) (way_count d m g) i hw hi) }
  where
    within : (v n a i : ℕ) → v < n → i < a → v * a + i < n * a
    within v n a i h k = let l = mul-add-lt v a i n h k in omega (arith, l)

-- ---- item by item
-- the items below an id are painted in
pub record IsPaintedTo (d : Design) (m : Mesh) (g : ℕ) (items : List Item) (from : ℕ) (counts : List ℕ) : Type 0 where
  pub done : List Item
  pub are : AreBelow items from done
  pub tallied : AreTallied d m g done counts

-- no item is painted in at first
pub painted_first : (d : Design) (m : Mesh) (g : ℕ) (items : List Item) (xs : List ℕ) → AreTallied d m g [] xs
    → IsPaintedTo d m g items 0 xs
painted_first d m g items xs t = record { done = []; are = none_below items; tallied = t }

-- the next item is painted in
pub painted_next : (d : Design) (m : Mesh) (g : ℕ) (items : List Item) (from to : ℕ) (a : Item) (xs ys : List ℕ)
    → Ascends items → IsFirstFrom from items a → a.id + 1 ≡ to
    → ((done : List Item) → AreTallied d m g done xs → AreTallied d m g (a ∷ done) ys)
    → IsPaintedTo d m g items from xs
    → IsPaintedTo d m g items to ys
painted_next d m g items from to a xs ys up first e p h =
    let come = p h.done h.tallied in
    let padded : AreTallied d m g (a ∷ (h.done ++ [])) ys =
    subst (λ (l : List Item). AreTallied d m g (a ∷ l) ys) (sym (append-nil h.done)) come in
    subst (λ n. IsPaintedTo d m g items n ys) e
    (record {
      done = h.done ++ a ∷ [];
      are = one_below items h.done from a up h.are first;
      tallied = weaker d m g (a ∷ (h.done ++ [])) (h.done ++ a ∷ []) ys
          (λ o n s. moved_in d g a h.done [] o n s) padded;
    })

-- where all ids are below, all items are painted in
pub painted_all : (d : Design) (m : Mesh) (g : ℕ) (items : List Item) (from : ℕ) (xs : List ℕ)
    → All (λ (b : Item). b.id < from) items → IsPaintedTo d m g items from xs → AreTallied d m g items xs
painted_all d m g items from xs low h = subst (λ (l : List Item). AreTallied d m g l xs)
    (all_below items h.done from h.are low) h.tallied

-- so it is where no id can be as large
pub painted_by : (d : Design) (m : Mesh) (g : ℕ) (items : List Item) (from n : ℕ) (xs : List ℕ) → n ≤ from
    → All (λ (b : Item). b.id < n) items → IsPaintedTo d m g items from xs → AreTallied d m g items xs
painted_by d m g items from n xs high low h =
    subst (λ (l : List Item). AreTallied d m g l xs) (all_by items h.done from n h.are high low) h.tallied
