-- The copper of a net itself: its windows as they are added, item by item.
use Rattle.std.proofs.Common.{◌≡◌, ℕ, ◌+◌, ◌<◌, ◌≤◌, ◌⊎◌, Bool, true, false, List, [], ◌∷◌, ◌++◌}
use Rattle.std.proofs.Common.{All, refl, sym, subst, arith, inl, inr, ltb-true}
use Rattle.std.specs.Prelude.{Contains, nat_lt}
use Rattle.std.proofs.lemmas.Bool.{ltb-false}
use Rattle.std.proofs.lemmas.List.Elements.{All-nil, All-cons, All-head, All-append, All-contains}
use Rattle.geo_kernel.proofs.Paths.{All-append_first, All-append_second}
use Rattle.pcb_model.specs.declared.item.Item.{Item}
use Rattle.pcb_model.specs.declared.design.Design.{Design}
use Rattle.pcb_model.specs.Copper.{Ascends, IsFirstFrom}
use Rattle.route_lattice.specs.Mesh.{Mesh, column, row}
use Rattle.route_lattice.proofs.Among.{same_item}
use Rattle.move_maps.specs.declared.window.Window.{Window}
use Rattle.move_maps.specs.Windows.{IsOutOf, IsOutOfAll, Widens}
use Rattle.move_maps.specs.Paint.{Covers, CoverTogether, IsHeld}
use Rattle.move_maps.specs.OwnCopper.{IsForeign, IsOwnCopper, IsOwnBelow, TakesOwn}

-- ---- windows
-- a node out of a window is out of those in it
out_held : (m : Mesh) (w u : Window) (v : ℕ) → IsHeld w u → IsOutOf m u v → IsOutOf m w v
out_held m w u v h (inl (inl k)) = inl (inl (below (column m v) u.left w.left k h.left))
  where
    below : (c a b : ℕ) → c < a → a ≤ b → c < b
    below c a b k l = omega (arith, k, l)
out_held m w u v h (inl (inr k)) = inl (inr (beyond (column m v) u.right w.right k h.right))
  where
    beyond : (c a b : ℕ) → a ≤ c → b ≤ a → b ≤ c
    beyond c a b k l = omega (arith, k, l)
out_held m w u v h (inr (inl k)) = inr (inl (below (row m v) u.bottom w.bottom k h.bottom))
  where
    below : (c a b : ℕ) → c < a → a ≤ b → c < b
    below c a b k l = omega (arith, k, l)
out_held m w u v h (inr (inr k)) = inr (inr (beyond (row m v) u.top w.top k h.top))
  where
    beyond : (c a b : ℕ) → a ≤ c → b ≤ a → b ≤ c
    beyond c a b k l = omega (arith, k, l)

-- the window that stands last in a list
last_out : (m : Mesh) (v : ℕ) (ws : List Window) (w : Window) → IsOutOfAll m (ws ++ w ∷ []) v → IsOutOf m w v
last_out m v ws w all = All-head (λ (u : Window). IsOutOf m u v) w [] (All-append_second
    (λ (u : Window). IsOutOf m u v) ws (w ∷ []) all)

-- a window more widens
pub pushed_widens : (ws new : List Window) (w : Window) → new ≡ ws ++ w ∷ [] → Widens ws w new
pushed_widens ws new w e = record {
  each = λ m v all.
      let all' = subst (λ (us : List Window). IsOutOfAll m us v) e all in
      (All-append_first (λ (u : Window). IsOutOf m u v) ws (w ∷ []) all', last_out m v ws w all');
}

-- so does a window that is joined to the last one
pub joined_widens : (ws rest new : List Window) (last w u : Window) → ws ≡ rest ++ last ∷ [] → IsHeld last u
    → IsHeld w u → new ≡ rest ++ u ∷ [] → Widens ws w new
joined_widens ws rest new last w u e held_last held_w f = record {
  each = λ m v all.
      let all' = subst (λ (us : List Window). IsOutOfAll m us v) f all in
      let out = last_out m v rest u all' in
      let front = All-append_first (λ (x : Window). IsOutOf m x v) rest (u ∷ []) all' in (
        subst (λ (us : List Window). IsOutOfAll m us v) (sym e)
            (All-append (λ (x : Window). IsOutOf m x v) rest (last ∷ []) front
            (All-cons (λ (x : Window). IsOutOf m x v) last [] (out_held m last u v held_last out)
            (All-nil (λ (x : Window). IsOutOf m x v)))),
        out_held m w u v held_w out,
      );
}

-- ---- items
module _ (d : Design) (m : Mesh) (g net : ℕ) where
  -- what was covered stays so
  pub kept_covered : (a : Item) (w : Window) (old new : List Window) → Widens old w new → CoverTogether d m g a old
      → CoverTogether d m g a new
  kept_covered a w old new wide h = record { each = λ v i hv hi out. h.each v i hv hi (wide.each m v out).0 }

  -- an item is taken in by its window
  pub taken_in : (b : Item) (w : Window) (old new : List Window) → Widens old w new → Covers d m g b w
      → TakesOwn d m g net b old new
  taken_in b w old new wide h = record {
    kept = λ a k. kept_covered a w old new wide k;
    taken = inl (record { each = λ v i hv hi out. h.each v i hv hi (wide.each m v out).1 });
  }

  -- at first no item has to be covered
  pub own_first : (items : List Item) (ws : List Window) → IsOwnBelow d m items g net 0 ws
  own_first items ws = record { each = λ b there low. absurd (omega (arith, low)) }

  -- the first item from an id on is taken in
  pub own_next : (items : List Item) (from to : ℕ) (a : Item) (old new : List Window) → Ascends items
      → IsFirstFrom from items a → a.id + 1 ≡ to → TakesOwn d m g net a old new
      → IsOwnBelow d m items g net from old → IsOwnBelow d m items g net to new
  own_next items from to a old new up first next takes h = record {
    each = λ b there low. either b there (nat_lt b.id a.id) refl low;
  }
    where
      same : (b : Item) → b ≡ a → CoverTogether d m g b new ⊎ IsForeign d g net b
      same b s = subst (λ (x : Item). CoverTogether d m g x new ⊎ IsForeign d g net x) (sym s) takes.taken

      still : (b : Item) → CoverTogether d m g b old ⊎ IsForeign d g net b
          → CoverTogether d m g b new ⊎ IsForeign d g net b
      still b (inl k) = inl (takes.kept b k)
      still b (inr k) = inr k

      meet : (x y t : ℕ) → y + 1 ≡ t → x < t → y ≤ x → x ≡ y
      meet x y t e l k = omega (arith, e, l, k)

      either : (b : Item) → Contains items b → (s : Bool) → nat_lt b.id a.id ≡ s → b.id < to
          → CoverTogether d m g b new ⊎ IsForeign d g net b
      either b there true s low = still b (h.each b there (first.before b there (ltb-true b.id a.id s)))
      either b there false s low = same b (same_item items b a up there first.there
          (meet b.id a.id to next low (ltb-false b.id a.id s)))

  -- where no item is left, each is covered or foreign
  pub own_all : (items : List Item) (from : ℕ) (ws : List Window) → All (λ (b : Item). b.id < from) items
      → IsOwnBelow d m items g net from ws → IsOwnCopper d m items g net ws
  own_all items from ws below h = record {
    each = λ b there. h.each b there (All-contains (λ (x : Item). x.id < from) items b below there);
  }

  -- so it is where no id can be higher
  pub own_by : (items : List Item) (from n : ℕ) (ws : List Window) → n ≤ from → All (λ (b : Item). b.id < n) items
      → IsOwnBelow d m items g net from ws → IsOwnCopper d m items g net ws
  own_by items from n ws h below own = record {
    each = λ b there.
        let low : b.id < n = All-contains (λ (x : Item). x.id < n) items b below there in
        own.each b there (omega (arith, low, h));
  }
