-- The copper on which stubs are sought serves its design.
use Rattle.std.proofs.Common.{◌≡◌, ℕ, ◌+◌, ◌<◌, arith, sym, ap, ◌∙◌, subst, List, ◌++◌, length, get_or, All, Some}
use Rattle.std.specs.Prelude.{slice_get}
use Rattle.std.proofs.lemmas.Option.{slice_get-get_or}
use Rattle.pcb_model.specs.declared.item.Item.{Item}
use Rattle.pcb_model.specs.Sound.{IsSound, Serves}
use Rattle.pcb_tiles.specs.Spread.{ServesSpread}
use Rattle.plane_stubs.specs.declared.held.Held.{Held}
use Rattle.plane_stubs.specs.inner.Holding.{IsHeld}
use Rattle.plane_stubs.specs.inner.Sites.{SiteOf}
use Rattle.plane_stubs.proofs.Loosened.{numbered, ribs_serve}
use Rattle.plane_stubs.proofs.Metals.{held_count}

module _ (s : SiteOf) (sound : IsSound s.d) (h : Held) (k : IsHeld s h) where
  pub held_serves : ServesSpread h.tiles s.d
  held_serves = record {
    serves = subst (λ (xs : List Item). Serves xs s.d) (sym k.held) (ribs_serve s.d sound h.added k.each);
    reaches = k.reach;
  }

  held_numbered : (i : ℕ) (a : Item) → slice_get h.tiles.items i ≡ Some a → a.id ≡ i
  held_numbered i a at =
      let n = numbered s.d.fixed h.added 0 (λ j b f. let m = (k.each j b f).numbered in omega (arith, m)) i a
      (ap (λ (xs : List Item). slice_get xs i) (sym k.held) ∙ at) in omega (arith, n)

  pub held_below : All (λ (b : Item). b.id < length (s.d.fixed ++ h.added)) h.tiles.items
  held_below = λ j e within.
      let m = held_numbered j (get_or h.tiles.items j e) (slice_get-get_or h.tiles.items j e within) in
      let n = held_count s h k in
      omega (arith, m, n, within)
