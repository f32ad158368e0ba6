-- Moves that items shut for good, item by item.
use Rattle.std.proofs.Common.{◌≡◌, ℕ, ◌+◌, ◌*◌, ◌<◌, ◌≤◌, List}
use Rattle.std.proofs.Common.{◌∷◌, length, take, All, Option, Some, None}
use Rattle.std.proofs.Common.{refl, sym, ◌∙◌, subst, arith, inl, inr, ◌⊎◌, get_or}
use Rattle.std.specs.Prelude.{slice_index}
use Rattle.std.proofs.lemmas.Nat.{mul-add-lt}
use Rattle.std.proofs.lemmas.List.Elements.{All-nil, All-more}
use Rattle.pcb_model.specs.declared.item.Item.{Item}
use Rattle.pcb_model.specs.declared.item.Probe.{Probe}
use Rattle.pcb_model.specs.declared.design.Design.{Design}
use Rattle.route_lattice.specs.Mesh.{Mesh, node_count}
use Rattle.route_lattice.specs.Ways.{way_count}
use Rattle.route_lattice.specs.Legal.{probe_at}
use Rattle.move_maps.specs.declared.brush.Stroke.TheVariants.{Stays}
use Rattle.move_maps.specs.Maps.{IsTally, place_at}
use Rattle.move_maps.specs.Paint.{IsClearAt, IsRepainted, Paints, Shuts, AreTallied}
use Rattle.move_maps.specs.Parts.{IsStrung, parts}
use Rattle.move_maps.proofs.Stringing.{move_strung}
use Rattle.move_maps.proofs.Tallied.{come_at}

-- a place is as it was and its move clear of all the items, or has the top
abbrev IsShut : Design → ℕ → List Item → Option Probe → ℕ → ℕ → Type 0
IsShut d g items o x y = (y ≡ 255) ⊎ ((y ≡ x) × All (λ (b : Item). IsClearAt d g b o) items)

-- one item more
shut_more : (d : Design) (g : ℕ) (items : List Item) (k : ℕ) (b : Item) (o : Option Probe) (x y z : ℕ)
    → k < length items → b ≡ get_or items k b → IsRepainted Stays d g b o y z → IsShut d g (take k items) o x y
    → IsShut d g (take (k + 1) items) o x z
shut_more d g items k b o x y z h e (inr (inl (bad, f))) s = inl f
shut_more d g items k b o x y z h e (inr (inr (top, f))) s = inl f
shut_more d g items k b o x y z h e (inl (clear, f)) (inl top) = inl (f ∙ top)
shut_more d g items k b o x y z h e (inl (clear, f)) (inr (same, all)) = inr (
  f ∙ same,
  All-more (λ (a : Item). IsClearAt d g a o) items k b h all (subst (λ (a : Item). IsClearAt d g a o) e clear),
)

-- the tally of a move, once the parts of the item have shut what they shut
tally_shut : (d : Design) (g : ℕ) (b : Item) (items : List Item) (o : Option Probe) (x y : ℕ) → IsStrung b
    → IsShut d g (parts b) o x y → IsTally d g items o x → IsTally d g (b ∷ items) o y
tally_shut d g b items o x y s (inl e) t = subst (λ n. IsTally d g (b ∷ items) o n) (sym e) (top o)
  where
    top : (q : Option Probe) → IsTally d g (b ∷ items) q 255
    top None = refl
    top (Some p) = inl refl
tally_shut d g b items o x y s (inr (e, all)) t = come_at d g b items o x y (inl (move_strung d g b o s all, e)) t

-- a place is below the number of places
within : (v n a i : ℕ) → v < n → i < a → v * a + i < n * a
within v n a i h k = let l = mul-add-lt v a i n h k in omega (arith, l)

-- no number is below 0
low : (n : ℕ) → 0 ≤ n
low n = omega arith

module _ (d : Design) (m : Mesh) (g : ℕ) where
  -- no item shuts a move
  pub shut_first : (items : List Item) (xs : List ℕ) → Shuts d m g (take 0 items) xs xs
  shut_first items xs = record {
    size = refl;
    each = λ v i hv hi. inr (refl, All-nil (λ (b : Item). IsClearAt d g b (probe_at d m g v i)));
  }

  -- the next item has shut what it shuts
  pub shut_next : (items : List Item) (k : ℕ) (b : Item) (xs ys zs : List ℕ) → k < length items
      → b ≡ get_or items k b → Paints Stays d m g b 0 (node_count m * way_count d m g) ys zs
      → Shuts d m g (take k items) xs ys → Shuts d m g (take (k + 1) items) xs zs
  shut_next items k b xs ys zs h e p s = record {
    size = p.size ∙ s.size;
    each = λ v i hv hi.
        shut_more d g items k b (probe_at d m g v i) (slice_index xs (place_at d m g v i))
        (slice_index ys (place_at d m g v i)) (slice_index zs (place_at d m g v i)) h e
        (p.painted v i hi (low (place_at d m g v i)) (within v (node_count m) (way_count d m g) i hv hi))
        (s.each v i hv hi);
  }

  -- once all parts of an item have, the item has come
  pub come_strung : (b : Item) (items : List Item) (xs ys : List ℕ) → IsStrung b → Shuts d m g (parts b) xs ys
      → AreTallied d m g items xs → AreTallied d m g (b ∷ items) ys
  come_strung b items xs ys s p t = record {
    size = p.size ∙ t.size;
    each = λ v i hv hi.
        tally_shut d g b items (probe_at d m g v i) (slice_index xs (place_at d m g v i))
        (slice_index ys (place_at d m g v i)) s (p.each v i hv hi) (t.each v i hv hi);
  }
