-- What holds of a design's ribs and stubs.
use Rattle.std.proofs.Common.{◌≡◌, ℕ, zero, suc, ◌+◌, ◌<◌, ◌≤◌, arith, refl, sym, ap, ◌∙◌, subst, Bool, true, List, []}
use Rattle.std.proofs.Common.{◌∷◌, ◌++◌, length, All, Some}
use Rattle.std.specs.Prelude.{AllPairs, Contains, map, slice_get}
use Rattle.std.proofs.lemmas.List.{append_assoc, append_cancel_left, length-append, map-append}
use Rattle.std.proofs.lemmas.List.Elements.{All-append, All-contains, All-cons, All-head, All-nil, All-tail, All-weaker}
use Rattle.std.specs.List.{list_all}
use Rattle.std.proofs.lemmas.Bool.{and_from}
use Rattle.std.proofs.lemmas.List.Folds.{list_all-append}
use Rattle.std.proofs.lemmas.List.Kept.{AllPairs-cons}
use Rattle.std.proofs.lemmas.Option.{same_Some}
use Rattle.geo_kernel.proofs.Paths.{All-append_first, All-append_second}
use Rattle.pcb_model.specs.declared.item.Item.{Item}
use Rattle.pcb_model.specs.declared.design.Design.{Design}
use Rattle.pcb_model.specs.Plain.{IsPlainCopper, IsPlainItem}
use Rattle.pcb_model.specs.Scale.{is_whole_metal, scale_of}
use Rattle.pcb_model.specs.Sound.{IsCopper, IsFixedSound, IsItemOf, IsSound}
use Rattle.pcb_tiles.proofs.Changes.{pairs_head, pairs_tail}
use Rattle.pcb_islands.proofs.Elements.{in_from}
use Rattle.route_lattice.specs.Fits.{FitsDesign}
use Rattle.route_lattice.specs.Gather.{unit_of}
use Rattle.route_lattice.specs.Mesh.{Mesh}
use Rattle.plane_joins.specs.declared.area.PlaneArea.{PlaneArea}
use Rattle.plane_joins.specs.Changed.{AreOnScale, MayFollow}
use Rattle.plane_joins.specs.Holding.{AgreesIfAdded, HoldAsRibs}
use Rattle.plane_joins.specs.Planes.{IsPlaneOf}
use Rattle.plane_joins.specs.Ribs.{AreRibs}
use Rattle.plane_stubs.specs.Holding.{HoldAsPlaned, LeavesNoStub, ObeysAsRouted}
use Rattle.plane_joins.specs.Planned.{IsPlaned, nets_of, ribbed, tight}
use Rattle.plane_joins.specs.Stubs.{IsServed, RibGround, with_items, loose}
use Rattle.plane_stubs.proofs.Adding.{all_at, all_fixed, nets_there, retight}
use Rattle.plane_stubs.proofs.Loosened.{all_loose, numbered, ribs_serve}
use Rattle.plane_stubs.proofs.Keeping.{AreNumbered, IsWholeItem, Keeps, OwnAgree, Steps, nets_steps}
use Rattle.plane_stubs.proofs.Scale.{HasWholeLines}
use Rattle.plane_stubs.proofs.Left.{all_served, nets_tried}

-- ---- items of which some are made fixed ones, or routed ones
module _ (d : Design) (f : Item → Item) (first : (a b : Item) → AgreesIfAdded d a b → AgreesIfAdded d (f a) b)
    (second : (a b : Item) → AgreesIfAdded d a b → AgreesIfAdded d a (f b)) where
  all_second : (x : Item) (ys : List Item) → All (AgreesIfAdded d x) ys → All (AgreesIfAdded d x) (map f ys)
  all_second x [] h = All-nil (AgreesIfAdded d x)
  all_second x (y ∷ ys) h =
      All-cons (AgreesIfAdded d x) (f y) (map f ys) (second x y (All-head (AgreesIfAdded d x) y ys h))
      (all_second x ys (All-tail (AgreesIfAdded d x) y ys h))

  pairs_all : (ys : List Item) → AllPairs (AgreesIfAdded d) ys → AllPairs (AgreesIfAdded d) (map f ys)
  pairs_all [] h = h
  pairs_all (y ∷ ys) h =
      AllPairs-cons (AgreesIfAdded d) (f y) (map f ys)
      (all_second (f y) ys
      (All-weaker (AgreesIfAdded d y) (AgreesIfAdded d (f y)) (λ b k. first y b k) ys
      (pairs_head (AgreesIfAdded d) y ys h)))
      (pairs_all ys (pairs_tail (AgreesIfAdded d) y ys h))

  pairs_behind : (xs ys : List Item) → AllPairs (AgreesIfAdded d) (xs ++ ys)
      → AllPairs (AgreesIfAdded d) (xs ++ map f ys)
  pairs_behind [] ys h = pairs_all ys h
  pairs_behind (x ∷ xs) ys h =
      let here = pairs_head (AgreesIfAdded d) x (xs ++ ys) h in
      AllPairs-cons (AgreesIfAdded d) x (xs ++ map f ys)
      (All-append (AgreesIfAdded d x) xs (map f ys) (All-append_first (AgreesIfAdded d x) xs ys here)
      (all_second x ys (All-append_second (AgreesIfAdded d x) xs ys here)))
      (pairs_behind xs ys (pairs_tail (AgreesIfAdded d) x (xs ++ ys) h))

first_loose : (d : Design) (a b : Item) → AgreesIfAdded d a b → AgreesIfAdded d (loose a) b
first_loose d a b h =
    record { agrees = λ past. let r = h.agrees past in record { keep = r.keep; stay_off = r.stay_off } }

second_loose : (d : Design) (a b : Item) → AgreesIfAdded d a b → AgreesIfAdded d a (loose b)
second_loose d a b h =
    record { agrees = λ past. let r = h.agrees past in record { keep = r.keep; stay_off = r.stay_off } }

first_tight : (d : Design) (a b : Item) → AgreesIfAdded d a b → AgreesIfAdded d (tight a) b
first_tight d a b h =
    record { agrees = λ past. let r = h.agrees past in record { keep = r.keep; stay_off = r.stay_off } }

second_tight : (d : Design) (a b : Item) → AgreesIfAdded d a b → AgreesIfAdded d a (tight b)
second_tight d a b h =
    record { agrees = λ past. let r = h.agrees past in record { keep = r.keep; stay_off = r.stay_off } }

all_tightened : (P : Item → Type 0) → ((b : Item) → P b → P (tight b)) → (xs : List Item) → All P xs
    → All P (map tight xs)
all_tightened P f [] h = All-nil P
all_tightened P f (x ∷ xs) h =
    All-cons P (tight x) (map tight xs) (f x (All-head P x xs h)) (all_tightened P f xs (All-tail P x xs h))

tight_fixed : (xs : List Item) → All (λ (a : Item). a.fixed ≡ true) (map tight xs)
tight_fixed [] = All-nil (λ (a : Item). a.fixed ≡ true)
tight_fixed (x ∷ xs) = All-cons (λ (a : Item). a.fixed ≡ true) (tight x) (map tight xs) refl (tight_fixed xs)

-- numbers stay
tight_numbered : (xs ys : List Item) (n : ℕ)
    → ((i : ℕ) (a : Item) → slice_get (xs ++ ys) i ≡ Some a → a.id ≡ n + i)
    → (i : ℕ) (a : Item) → slice_get (xs ++ map tight ys) i ≡ Some a → a.id ≡ n + i
tight_numbered [] [] n h i a e = h i a e
tight_numbered [] (y ∷ ys) n h zero a e =
    sym (ap (λ (b : Item). b.id) (same_Some (tight y) a e)) ∙ h zero y refl
tight_numbered [] (y ∷ ys) n h (suc i) a e =
    let f = tight_numbered [] ys (suc n) (λ j b g. let m = h (suc j) b g in omega (arith, m)) i a e in omega (arith, f)
tight_numbered (x ∷ xs) ys n h zero a e = h zero a e
tight_numbered (x ∷ xs) ys n h (suc i) a e =
    let f = tight_numbered xs ys (suc n) (λ j b g. let m = h (suc j) b g in omega (arith, m)) i a e in omega (arith, f)

mapped : (xs : List Item) → length (map loose xs) ≡ length xs
mapped [] = refl
mapped (x ∷ xs) = ap suc (mapped xs)

-- ---- the copper at first
module _ (d : Design) (lat : Mesh) (planes : List PlaneArea) (via_cost : ℕ) (sound : IsSound d)
    (plain : IsPlainCopper d) (ribs : List Item) (hold : HoldAsRibs d planes ribs) where
  pub ribs_keep : Keeps (ribbed d lat via_cost ribs)
  ribs_keep = record {
    numbered = λ i a at. let n = numbered d.fixed ribs 0
        (λ k b e. let m = (hold.follow.each k b e).numbered in omega (arith, m)) i a at in omega (arith, n);
    serves = ribs_serve d sound ribs hold.follow.each;
    past = let m = length-append d.fixed (map loose ribs) in let n = mapped ribs in omega (arith, m, n);
    plain = All-append IsPlainItem d.fixed (map loose ribs) plain.fixed
        (all_loose IsPlainItem (λ b p. record { plain = p.plain }) ribs hold.plain);
    agree = pairs_behind d loose (first_loose d) (second_loose d) d.fixed ribs hold.agree;
  }

-- ---- the design with its planes
module _ (d : Design) (lat : Mesh) (planes : List PlaneArea) (via_cost : ℕ) (e : Design) (sound : IsSound d)
    (plain : IsPlainCopper d) (fits : FitsDesign d lat) (own : OwnAgree) (h : IsPlaned d lat planes via_cost e)
    (hold : HoldAsRibs d planes h.ribs) where
  abbrev g : RibGround
  g = ribbed d lat via_cost h.ribs

  abbrev before : List Item
  before = d.fixed ++ map loose h.ribs

  abbrev after : List Item
  after = before ++ h.stubs

  keep : Keeps g
  keep = ribs_keep d lat planes via_cost sound plain h.ribs hold

  steps : Steps g after
  steps = nets_steps g sound plain fits own (nets_of d planes) after (nets_there d planes) keep h.are_stubs

  obey : All (ObeysAsRouted d) h.stubs
  obey =
      subst (All (ObeysAsRouted d)) (sym (append_cancel_left before h.stubs steps.grows.more steps.grows.is)) steps.obey

  -- ribs and stubs as they stand in the end
  added_are : map tight (map loose h.ribs ++ h.stubs) ≡ h.ribs ++ map tight h.stubs
  added_are =
      map-append tight (map loose h.ribs) h.stubs
      ∙ ap (λ (xs : List Item). xs ++ map tight h.stubs) (retight h.ribs (all_fixed d h.ribs hold.follow.each))

  in_order : after ≡ d.fixed ++ (map loose h.ribs ++ h.stubs)
  in_order = append_assoc d.fixed (map loose h.ribs) h.stubs

  abbrev ended : List Item
  ended = d.fixed ++ (h.ribs ++ map tight h.stubs)

  ended_are : d.fixed ++ map tight (map loose h.ribs ++ h.stubs) ≡ ended
  ended_are = ap (λ (xs : List Item). d.fixed ++ xs) added_are

  ended_numbered : AreNumbered ended
  ended_numbered =
      subst AreNumbered ended_are
      (λ i a at. let n = tight_numbered d.fixed (map loose h.ribs ++ h.stubs) 0
      (λ j b f. let m = steps.keeps.numbered j b (ap (λ (xs : List Item). slice_get xs j) in_order ∙ f) in
      omega (arith, m)) i a at in omega (arith, n))

  -- what holds of all items that were sought in, and stays where they are made fixed ones
  all_ended : (P : Item → Type 0) → ((b : Item) → P b → P (tight b)) → All P after → All P ended
  all_ended P f all =
      let parts = subst (All P) in_order all in
      subst (All P) ended_are
      (All-append P d.fixed (map tight (map loose h.ribs ++ h.stubs))
      (All-append_first P d.fixed (map loose h.ribs ++ h.stubs) parts)
      (all_tightened P f (map loose h.ribs ++ h.stubs)
      (All-append_second P d.fixed (map loose h.ribs ++ h.stubs) parts)))

  ended_fit : All (IsItemOf d) ended
  ended_fit =
      all_ended (IsItemOf d)
      (λ b k. record {
        fits = record { pieces_fit = k.fits.pieces_fit };
        metal_fits = k.metal_fits;
        metal_in_range = k.metal_in_range;
        layers_in_range = k.layers_in_range;
        net_in_range = k.net_in_range;
      }) steps.keeps.serves.items_fit

  ended_fixed : All (λ (a : Item). a.fixed ≡ true) ended
  ended_fixed =
      let P : Item → Type 0 = λ a. a.fixed ≡ true in
      let both = all_fixed d h.ribs hold.follow.each in
      All-append P d.fixed (h.ribs ++ map tight h.stubs) (own_fixed) (All-append P h.ribs (map tight h.stubs) both
      (tight_fixed h.stubs))
    where
      own_fixed : All (λ (a : Item). a.fixed ≡ true) d.fixed
      own_fixed = all_at (λ (a : Item). a.fixed ≡ true) d.fixed (λ i a at. (sound.fixed i a at).fixed)

  pub planed_holds : HoldAsPlaned d planes h.ribs h.stubs
  planed_holds = record {
    are_ribs = hold;
    obey = obey;
    follow = record {
      each = λ i a at.
          let there = in_from ended i a at in record {
            numbered = ended_numbered i a at;
            fixed = All-contains (λ (b : Item). b.fixed ≡ true) ended a ended_fixed there;
            item = All-contains (IsItemOf d) ended a ended_fit there;
          };
      copper = All-append (λ (b : Item). IsCopper b.metal) h.ribs (map tight h.stubs) hold.follow.copper
          (all_tightened (λ (b : Item). IsCopper b.metal) (λ b k. k) h.stubs
          (All-weaker (ObeysAsRouted d) (λ (b : Item). IsCopper b.metal) (λ b k. k.copper) h.stubs obey));
    };
    plain = All-append_second IsPlainItem d.fixed (h.ribs ++ map tight h.stubs)
        (all_ended IsPlainItem (λ b p. record { plain = p.plain }) steps.keeps.plain);
    agree = subst (AllPairs (AgreesIfAdded d)) ended_are
        (pairs_behind d tight (first_tight d) (second_tight d) d.fixed (map loose h.ribs ++ h.stubs)
        (subst (AllPairs (AgreesIfAdded d)) in_order steps.keeps.agree));
  }

  -- whole in the session's unit, where the lattice's lines are
  pub ended_whole : HasWholeLines (unit_of d) lat → AreOnScale d (h.ribs ++ map tight h.stubs)
  ended_whole lines =
      let f : Item → Bool = λ a. is_whole_metal d (scale_of d).nm a.metal in
      let whole = subst (All (IsWholeItem d)) (sym (append_cancel_left before h.stubs steps.grows.more steps.grows.is))
      (steps.whole lines) in
      list_all-append f h.ribs (map tight h.stubs)
      ∙ and_from (list_all f h.ribs) (list_all f (map tight h.stubs)) hold.on_scale (all_whole h.stubs whole)
    where
      all_whole : (xs : List Item) → All (IsWholeItem d) xs
          → list_all (λ (a : Item). is_whole_metal d (scale_of d).nm a.metal) (map tight xs) ≡ true
      all_whole [] k = refl
      all_whole (x ∷ xs) k =
          and_from (is_whole_metal d (scale_of d).nm x.metal)
          (list_all (λ (a : Item). is_whole_metal d (scale_of d).nm a.metal) (map tight xs))
          (All-head (IsWholeItem d) x xs k) (all_whole xs (All-tail (IsWholeItem d) x xs k))

  pub none_left : LeavesNoStub d lat planes via_cost h.ribs h.stubs
  none_left = λ net found there are.
      all_served (with_items g after) net found
      (nets_tried g sound plain fits own keep (nets_of d planes) after (nets_there d planes) h.are_stubs net there) are
