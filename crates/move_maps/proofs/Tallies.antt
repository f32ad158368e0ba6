-- The places of tallies, and what one says.
use Rattle.std.proofs.Common.{◌≡◌, ℕ, ◌+◌, ◌*◌, ◌<◌, List, length, sym, ap, ◌∙◌, subst, arith}
use Rattle.std.proofs.Common.{slice_index_or}
use Rattle.std.specs.Prelude.{slice_index}
use Rattle.std.proofs.lemmas.Nat.{mul-add-lt}
use Rattle.pcb_model.specs.declared.item.Item.{Item}
use Rattle.pcb_model.specs.declared.design.Design.{Design}
use Rattle.route_lattice.specs.Mesh.{Mesh, node_count}
use Rattle.route_lattice.specs.Ways.{way_count}
use Rattle.route_lattice.specs.Legal.{probe_at, CanMove, IsOpen}
use Rattle.move_maps.specs.declared.map.GroupMap.{GroupMap}
use Rattle.move_maps.specs.Groups.{AreAlike}
use Rattle.move_maps.specs.Maps.{IsTally, IsMapOf, place_at}
use Rattle.move_maps.proofs.Alike.{same_way_count, bit_opens}

module _ (d : Design) (m : Mesh) (items : List Item) (g : GroupMap) (net a v i : ℕ) (h : IsMapOf d m items g)
    (k : AreAlike d g.first net) (e : a ≡ way_count d m net) where
  -- a place is below the number of counts
  pub within : v < node_count m → i < way_count d m net → v * a + i < length g.counts
  within p q = subst (λ n. n < length g.counts) (ap (λ n. v * n + i) (same_way_count d m g.first net k ∙ sym e))
      (subst (λ n. v * way_count d m g.first + i < n) (sym h.size)
      (below (node_count m) (way_count d m g.first) v i p
      (subst (λ n. i < n) (sym (same_way_count d m g.first net k)) q)))
    where
      below : (n a v i : ℕ) → v < n → i < a → v * a + i < n * a
      below n a v i hl hi = let k = mul-add-lt v a i n hl hi in omega (arith, k)

  -- the place is that of the group's first net
  pub place : slice_index_or g.counts (v * a + i) 0 ≡ slice_index g.counts (place_at d m g.first v i)
  place = ap (λ n. slice_index g.counts (v * n + i)) (e ∙ sym (same_way_count d m g.first net k))

module _ (d : Design) (m : Mesh) (items : List Item) (g : GroupMap) (net v i n : ℕ) (h : IsMapOf d m items g)
    (k : AreAlike d g.first net) where
  -- a count of 0 opens the move
  pub opens : v < node_count m → i < way_count d m net → n ≡ slice_index g.counts (place_at d m g.first v i) → n ≡ 0
      → IsOpen d items net (probe_at d m net v i)
  opens p q e z = bit_opens d m items g.first net v i k
      (subst (IsTally d g.first items (probe_at d m g.first v i)) (sym e ∙ z)
      (h.tallies v i p (subst (λ n. i < n) (sym (same_way_count d m g.first net k)) q)))

-- moves whose parts are those of moves that may be used may be used too
pub can_move_at : (d e : Design) (m n : Mesh) (net g cost price : ℕ) → e ≡ d → n ≡ m → g ≡ net → price ≡ cost
    → CanMove d m net cost → CanMove e n g price
can_move_at d e m n net g cost price ed em en ep h =
    subst (λ x. CanMove e n g x) (sym ep) (subst (λ x. CanMove e n x cost) (sym en)
    (subst (λ (x : Mesh). CanMove e x net cost) (sym em)
    (subst (λ (x : Design). CanMove x m net cost) (sym ed) h)))
