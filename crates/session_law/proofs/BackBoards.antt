-- The printed copper of a board can be read.
use Rattle.std.proofs.Common.{◌≡◌, inl, inr, ap, subst, ℕ, ◌<◌, ◌^◌, true, List, [], ◌∷◌, map, length, refl, arith}
use Rattle.std.proofs.Common.{Some, None}
use Rattle.std.specs.Prelude.{All, Option, slice_get}
use Rattle.std.specs.List.{list_all}
use Rattle.std.specs.Option.{IsSomeAnd}
use Rattle.std.proofs.lemmas.Bool.{and_parts, cases_Bool}
use Rattle.std.proofs.lemmas.Option.{slice_get-get_or}
use Rattle.std.proofs.lemmas.List.Elements.{All-head, All-tail, All-nil, All-cons}
use Rattle.geo_kernel.specs.declared.point.Point.{Point}
use Rattle.geo_kernel.specs.Spine.{IsSpineWithin}
use Rattle.geo_kernel.specs.Moved.{moved_spine}
use Rattle.pcb_model.specs.declared.item.Item.{Item}
use Rattle.pcb_model.specs.declared.item.Metal.{Metal}
use Rattle.pcb_model.specs.declared.item.Metal.TheVariants.{Wire, Via, Pad, Ban}
use Rattle.pcb_model.specs.declared.item.Piece.{Piece}
use Rattle.pcb_model.specs.declared.design.Padstack.{Padstack}
use Rattle.pcb_model.specs.declared.design.Design.{Design}
use Rattle.pcb_model.specs.Board.{IsMade, IsRouted}
use Rattle.pcb_model.specs.Bounds.{IsFit, IsMetalFit}
use Rattle.pcb_model.specs.Pieces.{moved_piece, pieces_in, pieces_of}
use Rattle.pcb_model.specs.Scale.{is_whole, is_whole_point}
use Rattle.pcb_model.specs.Sound.{HasDistinctNames, HasFewParts, IsItemOf, IsMetalInRange}
use Rattle.session_law.specs.Told.{is_copper, is_whole_copper}
use Rattle.session_law.proofs.ToldMetals.{exact_points}
use Rattle.session_law.proofs.ToldPoints.{IsExactPoint, all_directed}
use Rattle.session_law.proofs.BackMeasured.{Measure}
use Rattle.ses_reader.specs.Sound.{IsStackNear}
use Rattle.session_law.specs.Back.{HasTwoPoints, IsReadable}
use Rattle.session_law.proofs.BackNumbers.{IsScaled}
use Rattle.session_law.proofs.BackMetals.{directed_long}
use Rattle.session_law.proofs.BackNets.{IsReadBack}

-- pieces that fit where they are moved to have vertices within the limit there
pieces_within : (at : Point) (cs : List Piece) → All IsFit (map (moved_piece at) cs)
    → All (λ (c : Piece). IsSpineWithin (2 ^ 29) (moved_spine at c.spine)) cs
pieces_within at [] h = All-nil (λ (c : Piece). IsSpineWithin (2 ^ 29) (moved_spine at c.spine))
pieces_within at (c ∷ cs) h = All-cons (λ (x : Piece). IsSpineWithin (2 ^ 29) (moved_spine at x.spine)) c cs
    (All-head IsFit (moved_piece at c) (map (moved_piece at) cs) h).within
    (pieces_within at cs (All-tail IsFit (moved_piece at c) (map (moved_piece at) cs) h))

-- so have those of a padstack that is there
stack_within : (at : Point) (stacks : List Padstack) (k : ℕ) → k < length stacks
    → All IsFit (map (moved_piece at) (pieces_in (slice_get stacks k)))
    → IsSomeAnd (slice_get stacks k) (IsStackNear at)
stack_within at [] k within h = absurd (omega (arith, within))
stack_within at (s ∷ stacks) k within h = by (slice_get (s ∷ stacks) k) (slice_get-get_or (s ∷ stacks) k s within) h
  where
    by : {x : Padstack} (o : Option Padstack) → o ≡ Some x → All IsFit (map (moved_piece at) (pieces_in o))
        → IsSomeAnd o (IsStackNear at)
    by None e all = cc
    by (Some y) e all = pieces_within at y.pieces all

-- the pieces of copper are those of its metal
pieces_are : (d : Design) (a : Item) → (IsRouted a → IsMade d a) → IsReadable d a → is_copper a.metal ≡ true
    → a.pieces ≡ pieces_of d a.metal
pieces_are d a made readable copper = elim (cases_Bool a.fixed) [
  | inl fixed ↦ readable.pieces fixed copper
  | inr routed ↦ ap (λ (b : Item). b.pieces) (made routed).made
]

module _ (d : Design) (m : Measure) (nm : ℕ) (scaled : IsScaled m nm) (differ : HasDistinctNames d)
    (few : HasFewParts d) where
  -- copper within the bounds and whole in the unit is read back
  metal_back : (c : Metal) → IsMetalFit c → IsMetalInRange d c → is_whole_copper nm c ≡ true → HasTwoPoints c
      → (is_copper c ≡ true → All IsFit (pieces_of d c)) → IsReadBack d m nm scaled differ few c
  metal_back (Wire layer width chain) fits within whole two pieces =
      let parts = and_parts (is_whole nm width) (list_all (is_whole_point nm) chain) whole in
      record {
        within = within;
        exact = record { whole = parts.0; small = omega (arith, fits.2) };
        small = fits.2;
        long = omega (arith, two, directed_long chain);
        points = all_directed (IsExactPoint nm) chain (exact_points nm chain parts.1 fits.1);
      }
  metal_back (Via padstack at) fits within whole two pieces = record {
    within = within;
    exact = record { whole = whole; within = fits };
    near = stack_within at d.padstacks padstack within (pieces refl);
  }
  metal_back (Pad pin) fits within whole two pieces = tt
  metal_back (Ban wires vias) fits within whole two pieces = tt

  -- so is that of an item
  item_back : (a : Item) → IsItemOf d a → (IsRouted a → IsMade d a) → is_whole_copper nm a.metal ≡ true
      → IsReadable d a → IsReadBack d m nm scaled differ few a.metal
  item_back a fits made whole readable = metal_back a.metal fits.metal_fits fits.metal_in_range whole readable.points
      (λ copper. subst (All IsFit) (pieces_are d a made readable copper) fits.fits.pieces_fit)

  -- so is that of each
  pub all_back : (items : List Item) → All (IsItemOf d) items → All (λ (a : Item). IsRouted a → IsMade d a) items
      → All (λ (a : Item). is_whole_copper nm a.metal ≡ true) items → All (IsReadable d) items
      → All (λ (a : Item). IsReadBack d m nm scaled differ few a.metal) items
  all_back [] fits made whole readable = All-nil (λ (a : Item). IsReadBack d m nm scaled differ few a.metal)
  all_back (a ∷ items) fits made whole readable =
      All-cons (λ (x : Item). IsReadBack d m nm scaled differ few x.metal) a items
      (item_back a (All-head (IsItemOf d) a items fits) (All-head (λ (x : Item). IsRouted x → IsMade d x) a items made)
      (All-head (λ (x : Item). is_whole_copper nm x.metal ≡ true) a items whole)
      (All-head (IsReadable d) a items readable))
      (all_back items (All-tail (IsItemOf d) a items fits)
      (All-tail (λ (x : Item). IsRouted x → IsMade d x) a items made)
      (All-tail (λ (x : Item). is_whole_copper nm x.metal ≡ true) a items whole)
      (All-tail (IsReadable d) a items readable))
