-- The nodes that anchor the items of each island, island by island.
use Rattle.std.proofs.Common.{◌≡◌, ◌∙◌, inl, inr, ℕ, ◌+◌, ◌<◌, ◌≤◌, List, [], ◌∷◌, ◌++◌, Some, ap, arith, get_or}
use Rattle.std.proofs.Common.{length}
use Rattle.std.proofs.Common.{length-append, refl, subst, sym}
use Rattle.std.specs.Prelude.{All, slice_get}
use Rattle.std.proofs.lemmas.Option.{same_Some, slice_get-get_or, slice_get_cases, slice_get_read, slice_get_within}
use Rattle.std.proofs.lemmas.List.Elements.{Contains-get_or}
use Rattle.pcb_model.specs.declared.item.Item.{Item}
use Rattle.pcb_model.specs.declared.design.Design.{Design}
use Rattle.pcb_islands.specs.declared.net.Island.{Island}
use Rattle.pcb_islands.proofs.Elements.{look_cases}
use Rattle.route_lattice.specs.Mesh.{Mesh, node_count}
use Rattle.route_lattice.specs.Anchors.{AreAnchorsAmong}
use Rattle.cut_check.specs.Sizes.{AreAnchored}
use Rattle.cut_check.specs.inner.Outs.{AreAnchoredBelow}

module _ (d : Design) (m : Mesh) (items : List Item) (own : List Island) where
  pub anchored_none : AreAnchoredBelow d m items own 0 []
  anchored_none = record {
    all = refl;
    each = λ k island nodes own_at at. absurd (omega (arith, slice_get_within [] k nodes at));
  }

  pub anchored_more : (i : ℕ) (anchors more : List (List ℕ)) (found : List ℕ) (island : Island) → i < length own
      → island ≡ get_or own i island → AreAnchoredBelow d m items own i anchors
      → AreAnchorsAmong d m items island.items found → more ≡ anchors ++ found ∷ []
      → AreAnchoredBelow d m items own (i + 1) more
  anchored_more i anchors more found island within is before are e =
      subst (AreAnchoredBelow d m items own (i + 1)) (sym e) (record {
        all = length-append anchors (found ∷ []) ∙ ap (λ (n : ℕ). n + 1) before.all;
        each = λ k one nodes own_at at. elim (look_cases anchors found k nodes at) [
          | inl old ↦ before.each k one nodes own_at old
          | inr last ↦
              let place : k ≡ i = last.0 ∙ before.all in
              let read : slice_get own i ≡ Some island = slice_get_read own (length own) i island refl within is in
              let same : island ≡ one =
              same_Some island one (sym read ∙ ap (λ (n : ℕ). slice_get own n) (sym place) ∙ own_at) in
              subst (λ (s : Island). AreAnchorsAmong d m items s.items nodes) same
              (subst (AreAnchorsAmong d m items island.items) last.1 are)
        ];
      })

  pub anchored_all : (i : ℕ) (anchors : List (List ℕ)) → AreAnchoredBelow d m items own i anchors → length own ≤ i
      → i ≤ length own → AreAnchored d m items own anchors
  anchored_all i anchors before past low = record {
    all = let e = before.all in omega (arith, e, past, low);
    each = before.each;
  }

  -- there is an island at the place
  island_at : (k : ℕ) → k < length own → (island : Island) × (slice_get own k ≡ Some island)
  island_at k within = elim (slice_get_cases own k).1 [
    | inl here ↦ (here.0, here.2)
    | inr past ↦ let p = past.0 in absurd (omega (arith, within, p))
  ]

  -- all of them are nodes
  pub anchors_within : (anchors : List (List ℕ)) → AreAnchored d m items own anchors
      → All (All (λ v. v < node_count m)) anchors
  anchors_within anchors are k nodes within i v low =
      let found = get_or anchors k nodes in
      let island = island_at k (omega (arith, within, are.all)) in
      (((are.each k island.0 found island.1 (slice_get-get_or anchors k nodes within)).exact (get_or found i v)).0
      (Contains-get_or found i v low)).0
