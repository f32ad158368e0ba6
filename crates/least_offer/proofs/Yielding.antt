-- A least offer may be made: what is in the way of its walk is taken out, moved aside, ripped or shoved.
use Rattle.std.proofs.Common.{◌≡◌, ◌≢◌, ℕ, zero, suc, ◌+◌, ◌<◌, ◌≤◌, Bool, true, false, true≢false, List, [], ◌∷◌}
use Rattle.std.proofs.Common.{◌++◌, map, length, get_or, Option, Some, None, refl, sym, ap, ◌∙◌, subst, arith, inl}
use Rattle.std.proofs.Common.{inr, All, cond, not}
use Rattle.std.specs.Prelude.{AllPairs, Any, Contains, slice_get, remove}
use Rattle.std.specs.Option.{IsSomeAnd}
use Rattle.std.proofs.lemmas.List.{append-nil}
use Rattle.std.proofs.lemmas.List.Kept.{AllPairs-from_increasing}
use Rattle.std.proofs.lemmas.List.Elements.{All-nil, All-cons, All-contains, Contains-get_or, All-append}
use Rattle.std.proofs.lemmas.List.Elements.{Contains-append_left, Contains-append_right}
use Rattle.pcb_model.specs.declared.item.Item.{Item}
use Rattle.pcb_model.specs.declared.item.Metal.{Metal}
use Rattle.pcb_model.specs.declared.design.Design.{Design}
use Rattle.pcb_model.specs.Pairs.{Agrees, AreTouching}
use Rattle.pcb_model.specs.Pieces.{pieces_of}
use Rattle.pcb_model.specs.Plain.{IsPlainCopper}
use Rattle.pcb_model.specs.Board.{AreJoined, AreInside}
use Rattle.pcb_model.specs.Sound.{IsSound, Serves}
use Rattle.pcb_model.specs.Copper.{Ascends}
use Rattle.pcb_model.proofs.Symmetry.{touching_swapped}
use Rattle.pcb_islands.specs.declared.net.Island.{Island}
use Rattle.pcb_islands.specs.Islands.{AreIslands, HasItemAt}
use Rattle.pcb_islands.proofs.Elements.{in_none, in_cons}
use Rattle.route_lattice.specs.Mesh.{Mesh, node_count}
use Rattle.route_lattice.specs.Fits.{FitsDesign}
use Rattle.route_lattice.specs.Walks.{IsWalk, MoveGraph}
use Rattle.route_lattice.specs.Legal.{IsLegalProbe, disc_at, legal_graph}
use Rattle.path_wire.specs.Wires.{copper_of}
use Rattle.path_wire.specs.Lays.{laid_item, IsMetalInside}
use Rattle.ripup.specs.Rips.{IsInWayOf, HasIdInWay, AreIdsInWay}
use Rattle.ripup.proofs.Fixed.{fixed_held, fixed_known}
use Rattle.board_offers.specs.declared.offer.Offer.{Offer}
use Rattle.board_offers.specs.declared.offer.Shoved.{Shoved}
use Rattle.board_offers.specs.Items.{is_on, without, added, replaced, replaced_from, new_items, shoved_ids, gone}
use Rattle.board_offers.specs.Items.{reshaped, item_at, after_shoves, names}
use Rattle.pcb_board.specs.Boards.{BoardOf, given}
use Rattle.board_offers.specs.Offers.{IsInTheWay, IsShovable, IsWellFormed, HasEnds, HasMetals, LeadsAcross}
use Rattle.board_offers.specs.Offers.{RipsInTheWay}
use Rattle.board_offers.specs.Troubles.{wanted}
use Rattle.pcb_board.specs.Answers.{known, IsClearOn}
use Rattle.pcb_board.specs.Keeping.{IsBoard}
use Rattle.board_offers.specs.Given.{IsGiven}
use Rattle.board_offers.proofs.Lists.{named_in, in_named, HasItem, all_from, pairs_append}
use Rattle.least_offer.specs.Least.{MayBeMade, cleared, walks_of, judged_on, JoinsLeast, TakesNothing, MakesWay}
use Rattle.least_offer.specs.Least.{Chooses, IsLaidLeast, IsLeastOffer, IsShoveOf, FitsFirst, AreShovesOf}
use Rattle.least_offer.proofs.Resting.{unpriced_walk, on_fixed}
use Rattle.least_offer.specs.Together.{StandsWith, StandTogether}
use Rattle.shove.specs.Shoves.{chain_of}
use Rattle.shove.proofs.Shoving.{enough_points, chain_within}
use Rattle.ripup.proofs.Passing.{same_key}
use Rattle.std.proofs.lemmas.Option.{get_or_from_slice_get}
use Rattle.geo_kernel.specs.declared.point.Point.{Point}
use Rattle.least_offer.proofs.Replacing.{zip_ids, zip_right, wire_same, chain_same, to_board, wire_within, left_id}
use Rattle.least_offer.proofs.Replacing.{right_id, all_replaced, pairs_replaced, shoved_or_not, either_way, same_some}
use Rattle.least_offer.proofs.Adding.{all_added, added_agree, own_agree, added_inside}
use Rattle.least_offer.proofs.Standing.{true_or_false, some_and, on_board, uncleared, Stands, stands}
use Rattle.shove.specs.Shoves as shove
use Rattle.least_offer.proofs.Standing as stand

-- an item that isn't named stays
kept_on : (ids : List ℕ) (items : List Item) (a : Item) → Contains items a → names ids a.id ≡ false
    → Contains (without ids items) a
kept_on ids [] a (k, within, is) e = absurd (omega (arith, within))
kept_on ids (x ∷ items) a (zero, within, is) e =
    here x a (without ids items) (names ids x.id) (ap (λ (y : Item). names ids y.id) is ∙ e) is
  where
    here : (x a : Item) (rest : List Item) (b : Bool) → b ≡ false → x ≡ a
        → Contains (cond (not b) (x ∷ rest) rest) a
    here x a rest true n is = absurd (true≢false n)
    here x a rest false n is = (zero, omega arith, is)
kept_on ids (x ∷ items) a (suc k, within, is) e =
    later x a (without ids items) (names ids x.id) (kept_on ids items a (k, omega (arith, within), is) e)
  where
    later : (x a : Item) (rest : List Item) (b : Bool) → Contains rest a → Contains (cond (not b) (x ∷ rest) rest) a
    later x a rest true h = h
    later x a rest false (k, within, is) = (suc k, omega (arith, within), is)

pub joined_by : (m : Mesh) (via_cost : ℕ) (b : BoardOf) (o : Offer) → IsLeastOffer m via_cost b o
    → IsLaidLeast m via_cost b o
joined_by m via_cost b o l = record {
  found = l.found;
  islands = l.islands;
  place = l.place;
  island = l.island;
  island_is = l.island_is;
  joins = l.joins;
}

module _ (m : Mesh) (via_cost : ℕ) (b : BoardOf) (o : Offer)
    (own : (d : Design) (net i j : ℕ) (a c : Metal) → Agrees d (laid_item d net i a) (laid_item d net j c))
    (fewer : (d : Design) (items later : List Item) (net : ℕ) (old found : List Island) → IsSound d → Serves items d
    → Ascends items → ((x : Item) → Contains items x → Contains later x) → AreIslands d items net old
    → AreIslands d later net found
    → (i j : ℕ) (a c : Item) → Contains items a → Contains items c → HasItemAt old i a.id → HasItemAt old j c.id
    → i ≢ j → ¬ (¬ (AreJoined later a c)) → length found < length old)
    (board : IsBoard b) (up : Ascends b.items) (plain : IsPlainCopper b.design) (fits : FitsDesign b.design m)
    (base : o.base ≤ length b.history) (worker : o.worker ≤ 16) (net_there : o.net < length b.design.nets) where
  abbrev d : Design
  d = b.design

  -- ---- the board
  given_at : (a : Item) → Contains b.items a → slice_get (given b) a.id ≡ Some a
  given_at = stand.given_at m via_cost b o own fewer board up plain fits base worker net_there

  is_given : (a : Item) → Contains b.items a → IsGiven d a.id a
  is_given = stand.is_given m via_cost b o own fewer board up plain fits base worker net_there

  serves : Serves b.items d
  serves = stand.serves m via_cost b o own fewer board up plain fits base worker net_there

  -- ---- what the walk of a least offer lays
  module _ (l : IsLaidLeast m via_cost b o) where
    abbrev graph : MoveGraph
    graph = walks_of m via_cost b o o.penalty

    abbrev j : JoinsLeast m via_cost b o l.island (remove l.found l.place)
    j = l.joins

    ends_are : HasEnds (known b) o
    ends_are = stand.ends_are m via_cost b o own fewer board up plain fits base worker net_there graph l

    starts_there : All (λ x. x < node_count m) j.starts
    starts_there = stand.starts_there m via_cost b o own fewer board up plain fits base worker net_there graph l

    first_legal : (penalty : Option ℕ) → o.penalty ≡ penalty
        → IsLegalProbe d (judged_on b o penalty) o.net (disc_at d m o.net j.start)
    first_legal = stand.first_legal m via_cost b o own fewer board up plain fits base worker net_there graph l

    module _ (bases : List Item) (s : Stands d m o.net bases j.walk.nodes j.walk.moves) where
      on_add : (P : Metal → Type 0) → All P (copper_of d m o.net j.walk.nodes j.walk.moves) → All P o.add
      on_add = stand.on_add m via_cost b o own fewer board up plain fits base worker net_there graph l bases s

      across : LeadsAcross (known b) o
      across = stand.across m via_cost b o own fewer board up plain fits base worker net_there graph l bases s

      metals_are : HasMetals (known b) o
      metals_are = stand.metals_are m via_cost b o own fewer board up plain fits base worker net_there graph l bases s

      formed : o.shoves ≡ [] → AllPairs (λ (x y : ℕ). x ≢ y) o.rip → RipsInTheWay (known b) o
          → IsWellFormed (known b) o
      formed = stand.formed m via_cost b o own fewer board up plain fits base worker net_there graph l bases s

      clear : o.shoves ≡ [] → ((x : ℕ) → Contains o.rip x → HasItem b.items x)
          → ((a : Item) → Contains b.items a → (Contains o.rip a.id → ⊥)
          → All (λ (n : Item). Agrees d n a) (added d (given b) o)) → (x : ℕ) → IsClearOn b o x
      clear = stand.clear m via_cost b o own fewer board up plain fits base worker net_there graph l bases s

    -- ---- the walk itself
    module _ (penalty : Option ℕ) (penalty_is : o.penalty ≡ penalty) where
      walk_by : IsWalk (walks_of m via_cost b o penalty) j.starts j.goals j.walk
      walk_by = subst (λ (q : Option ℕ). IsWalk
          (walks_of m via_cost b o q) j.starts j.goals j.walk) penalty_is j.least.walk

    -- ---- nothing is taken out
    takes_nothing : o.penalty ≡ None → TakesNothing o → MayBeMade b o
    takes_nothing none takes =
        stand.may_take_nothing m via_cost b o own fewer board up plain fits base worker net_there graph l takes
        (stands d m o.net via_cost b.items j.starts j.goals j.walk j.start j.rest fits starts_there
        (subst (λ (xs : List Item). IsWalk (legal_graph d m xs o.net via_cost) j.starts j.goals j.walk)
        (uncleared b o takes) (walk_by None none)) j.nodes_are
        (stand.first_on_board m via_cost b o own fewer board up plain fits base worker net_there graph l none takes))

    -- ---- one item is taken out, without a penalty
    module _ (none : o.penalty ≡ None) (id : ℕ) (rip_is : o.rip ≡ id ∷ []) (no_shove : o.shoves ≡ [])
        (way : HasIdInWay d b.items (added d (given b) o) id) where
      stands_cleared : Stands d m o.net (cleared b o) j.walk.nodes j.walk.moves
      stands_cleared = stands d m o.net via_cost (cleared b o) j.starts j.goals j.walk j.start j.rest fits starts_there
          (walk_by None none) j.nodes_are (first_legal None none)

      -- what stays is on the cleared board
      stays_on : (a : Item) → Contains b.items a → (Contains o.rip a.id → ⊥) → Contains (cleared b o) a
      stays_on a there stays = Contains-append_left (without (gone o) b.items) (replaced d (given b) o) a
          (kept_on (gone o) b.items a there (elim (true_or_false (names (gone o) a.id)) [
            | inl named ↦ absurd (stays (subst (λ (xs : List ℕ). Contains xs a.id)
                (ap (λ (ss : List Shoved). o.rip ++ map (λ (t : Shoved). t.id) ss) no_shove ∙ append-nil o.rip)
                (named_in (gone o) a.id named)))
            | inr free ↦ free
          ]))

      only : (x : ℕ) → Contains o.rip x → id ≡ x
      only x there = elim (in_cons id x [] (subst (λ (xs : List ℕ). Contains xs x) rip_is there)) [
        | inl e ↦ e
        | inr rest ↦ absurd (in_none x rest)
      ]

      any_is : {X : Type 0} (P : X → Type 0) (xs : List X) → All P xs → Any (λ (x : X). ¬ (P x)) xs → ⊥
      any_is P xs all (k, x, within, is, fails) = fails (subst P is (all k x within))

      one_net : (x y : ℕ) → Some x ≡ Some y → x ≡ y
      one_net x y e = cc

      -- it isn't of the net: its own copper agrees
      other_than : way.item.net ≢ Some o.net
      other_than e =
          let made = (is_given way.item way.there).made way.in_way.routed in
          let net_is : made.net ≡ o.net = one_net made.net o.net (sym (ap (λ (x : Item). x.net) made.made) ∙ e) in
          let is : way.item ≡ laid_item d o.net way.item.id way.item.metal =
          made.made ∙ ap (λ (n : ℕ). laid_item d n way.item.id way.item.metal) net_is in
          any_is (λ (n : Item). Agrees d n way.item) (added d (given b) o)
          (subst (λ (x : Item). All (λ (n : Item). Agrees d n x) (added d (given b) o)) (sym is)
          (own_agree d o.net (λ i k x c. own d o.net i k x c) (length (given b)) way.item.id o.add way.item.metal))
          way.in_way.clashes

      rips_it : RipsInTheWay (known b) o
      rips_it = record {
        each = λ k x within.
            let at = get_or o.rip k x in
            let is : id ≡ at = only at (Contains-get_or o.rip k x within) in
            some_and (slice_get (given b) at) way.item (IsInTheWay (known b) o)
            (subst (λ (y : ℕ). slice_get (given b) y ≡ Some way.item) (way.id_is ∙ is) (given_at way.item way.there))
            (record { routed = way.in_way.routed; other_net = other_than; disagrees = way.in_way.clashes });
      }

      pub may_take_out : MayBeMade b o
      may_take_out =
          let s = stands_cleared in
          record {
            formed = formed (cleared b o) s no_shove
                (subst (λ (ids : List ℕ). AllPairs (λ (x y : ℕ). x ≢ y) ids) (sym rip_is)
                (λ i k x before within. absurd (omega (arith, before, within)))) rips_it;
            clear = clear (cleared b o) s no_shove
                (λ x there. record { item = way.item; there = way.there; id_is = way.id_is ∙ only x there })
                (λ a there stays. all_added d o.net (λ (n : Item). Agrees d n a) (length (given b)) o.add
                (λ i. on_add (cleared b o) s (λ (x : Metal). Agrees d (laid_item d o.net i x) a)
                (s.agree i a (stays_on a there stays))));
          }

    -- ---- one item is moved aside, without a penalty
    module _ (none : o.penalty ≡ None) (item : Item) (item_in : Contains b.items item) (wire : shove.IsWire item.metal)
        (r : ℕ) (way_up : Bool) (chain : List Point) (fit : shove.IsShove b.design m b.items item r way_up chain)
        (shoves_are : o.shoves ≡ record { id = item.id; chain = chain } ∷ []) (no_rip : o.rip ≡ [])
        (way : IsInWayOf b.design (added b.design (given b) o) item) where
      abbrev moved_by : Shoved
      moved_by = record { id = item.id; chain = chain }

      abbrev moved_id : ℕ
      moved_id = length (given b) + length o.add

      abbrev moved : Item
      moved = shove.reshaped d moved_id chain item

      gone_it : gone o ≡ item.id ∷ []
      gone_it = λ i. no_rip i ++ map (λ (t : Shoved). t.id) (shoves_are i)

      moved_is : replaced d (given b) o ≡ moved ∷ []
      moved_is = ap (replaced_from d (given b) moved_id) shoves_are
          ∙ ap (λ (a : Item). reshaped d moved_id chain a ∷ [])
          (get_or_from_slice_get (given b) item.id item _ (given_at item item_in))
          ∙ ap (λ (a : Item). a ∷ []) (sym (to_board d moved_id chain item))

      only_it : (t : Shoved) → Contains o.shoves t → moved_by ≡ t
      only_it t there = elim (in_cons moved_by t [] (subst (λ (ss : List Shoved). Contains ss t) shoves_are there)) [
        | inl e ↦ e
        | inr rest ↦ absurd (in_none t rest)
      ]

      one_left : (x : ℕ) → Contains (gone o) x → item.id ≡ x
      one_left x there = elim (in_cons item.id x [] (subst (λ (xs : List ℕ). Contains xs x) gone_it there)) [
        | inl e ↦ e
        | inr rest ↦ absurd (in_none x rest)
      ]

      stands_moved : Stands d m o.net (cleared b o) j.walk.nodes j.walk.moves
      stands_moved = stands d m o.net via_cost (cleared b o) j.starts j.goals j.walk j.start j.rest fits starts_there
          (walk_by None none) j.nodes_are (first_legal None none)

      moved_in : Contains (cleared b o) moved
      moved_in = Contains-append_right (without (gone o) b.items) (replaced d (given b) o) moved
          (subst (λ (xs : List Item). Contains xs moved) (sym moved_is) (zero, omega arith, refl))

      other_in : (a : Item) → Contains b.items a → (item.id ≡ a.id → ⊥) → Contains (cleared b o) a
      other_in a there apart_id = Contains-append_left (without (gone o) b.items) (replaced d (given b) o) a
          (kept_on (gone o) b.items a there (elim (true_or_false (names (gone o) a.id)) [
            | inl named ↦ absurd (apart_id (one_left a.id (named_in (gone o) a.id named)))
            | inr free ↦ free
          ]))

      added_with : (a : Item) → Contains (cleared b o) a → All (λ (n : Item). Agrees d n a) (added d (given b) o)
      added_with a there = all_added d o.net (λ (n : Item). Agrees d n a) (length (given b)) o.add
          (λ i. on_add (cleared b o) stands_moved (λ (x : Metal). Agrees d (laid_item d o.net i x) a)
          (stands_moved.agree i a there))

      any_of : {X : Type 0} (P : X → Type 0) (xs : List X) → All P xs → Any (λ (x : X). ¬ (P x)) xs → ⊥
      any_of P xs all (k, x, within, is, fails) = fails (subst P is (all k x within))

      net_one : (x y : ℕ) → Some x ≡ Some y → x ≡ y
      net_one x y e = cc

      -- it isn't of the net: its own copper agrees
      of_other : item.net ≢ Some o.net
      of_other e =
          let made = (is_given item item_in).made way.routed in
          let net_is : made.net ≡ o.net = net_one made.net o.net (sym (ap (λ (x : Item). x.net) made.made) ∙ e) in
          let is : item ≡ laid_item d o.net item.id item.metal =
          made.made ∙ ap (λ (n : ℕ). laid_item d n item.id item.metal) net_is in
          any_of (λ (n : Item). Agrees d n item) (added d (given b) o)
          (subst (λ (x : Item). All (λ (n : Item). Agrees d n x) (added d (given b) o)) (sym is)
          (own_agree d o.net (λ i k x c. own d o.net i k x c) (length (given b)) item.id o.add item.metal))
          way.clashes

      shovable_it : IsShovable (known b) o moved_by item
      shovable_it = record {
        in_the_way = record { routed = way.routed; other_net = of_other; disagrees = way.clashes };
        wire = wire_same item.metal wire;
        points = enough_points m (chain_of item.metal) r way_up chain fit.shoved;
        within = chain_within d m (chain_of item.metal) r way_up chain fits
            (wire_within item.metal (is_given item item_in).fits.metal_fits) fit.shoved;
        inside = subst (λ (mt : Metal). AreInside d.bounds (pieces_of d mt)) (chain_same chain item.metal)
            fit.fits.inside;
      }

      on_moved : (P : Item → Type 0) → P moved → All P (replaced d (given b) o)
      on_moved P p = subst (λ (xs : List Item). All P xs) (sym moved_is) (All-cons P moved [] p (All-nil P))

      formed_moved : IsWellFormed (known b) o
      formed_moved = record {
        timely = record { base = base; worker = worker };
        ends = ends_are;
        metals = metals_are (cleared b o) stands_moved;
        across = across (cleared b o) stands_moved;
        inside = record {
          each = added_inside d o.net (length (given b)) o.add
              (on_add (cleared b o) stands_moved (IsMetalInside d) stands_moved.inside);
        };
        once = record {
          one_kind = inl no_rip;
          rip_once = subst (λ (xs : List ℕ). AllPairs (λ (x y : ℕ). x ≢ y) xs) (sym no_rip)
              (λ i k x before within. absurd (omega arith));
          shove_once = subst (λ (ss : List Shoved). AllPairs (λ (x y : ℕ). x ≢ y) (map (λ (t : Shoved). t.id) ss))
              (sym shoves_are) (λ i k x before within. absurd (omega (arith, before, within)));
        };
        rips = record {
          each = subst (λ (xs : List ℕ). All
              (λ x. IsSomeAnd (slice_get (given b) x) (IsInTheWay (known b) o)) xs) (sym no_rip) (All-nil _);
        };
        shoves = record {
          each = subst (λ (ss : List Shoved). All (λ (t : Shoved). IsSomeAnd (slice_get (given b) t.id)
              (IsShovable (known b) o t)) ss) (sym shoves_are)
              (All-cons (λ (t : Shoved). IsSomeAnd (slice_get (given b) t.id) (IsShovable (known b) o t)) moved_by []
              (some_and (slice_get (given b) item.id) item (IsShovable (known b) o moved_by) (given_at item item_in)
              shovable_it) (All-nil _));
        };
        agree = record {
          each = pairs_append (Agrees d) (added d (given b) o) (replaced d (given b) o)
              (added_agree d o.net (λ i k a c. own d o.net i k a c) (length (given b)) o.add)
              (subst (λ (xs : List Item). AllPairs (Agrees d) xs) (sym moved_is)
              (λ i k x before within. absurd (omega (arith, before, within))))
              (λ n n_in. on_moved (Agrees d n)
              (All-contains (λ (x : Item). Agrees d x moved) (added d (given b) o) n (added_with moved moved_in) n_in));
        };
      }

      -- what touched it touches it still
      touched : (a : Item) → Contains b.items a → (item.id ≡ a.id → ⊥) → AreTouching item a
          → AreTouching (after_shoves d o.shoves item) (after_shoves d o.shoves a)
      touched a there apart_id touch = elim (shoved_or_not d o.shoves item) [
        | inr none_is ↦ absurd (none_is.others moved_by
            (subst (λ (ss : List Shoved). Contains ss moved_by) (sym shoves_are) (zero, omega arith, refl)) refl)
        | inl t ↦ elim (shoved_or_not d o.shoves a) [
          | inl u ↦ absurd (apart_id (ap (λ (x : Shoved). x.id) (only_it u.by u.by_in) ∙ u.id_is))
          | inr free ↦ subst (λ (y : Item × Item). AreTouching y.0 y.1) (λ k. (
            (ap (λ (x : Shoved). shove.reshaped d item.id x.chain item) (only_it t.by t.by_in)
                ∙ to_board d item.id t.by.chain item ∙ sym t.after) k,
            sym free.after k,
          )) (fit.fits.touches a there (λ e. apart_id (sym e)) touch)
        ]
      ]

      pub may_move_aside : MayBeMade b o
      may_move_aside = record {
        formed = formed_moved;
        clear = λ x. record {
          there = λ named. elim (in_cons o.from x (o.to ∷ gone o) (named_in (wanted o) x named)) [
            | inl is_from ↦ subst (λ (y : ℕ). is_on y b.items ≡ true) (j.from_anchored.id_is
                ∙ is_from) (on_board b.items j.from_anchored.item j.from_anchored.there)
            | inr later ↦ elim (in_cons o.to x (gone o) later) [
              | inl is_to ↦ subst (λ (y : ℕ). is_on y b.items ≡ true) (j.to_anchored.id_is
                  ∙ is_to) (on_board b.items j.to_anchored.item j.to_anchored.there)
              | inr left ↦ subst (λ (y : ℕ). is_on y b.items ≡ true) (one_left x left) (on_board b.items item item_in)
            ]
          ];
          agrees = λ a there is stays.
              let apart_id : item.id ≡ a.id → ⊥ = λ e. true≢false (sym (in_named (gone o) x
              (subst (λ (xs : List ℕ). Contains xs x) (sym gone_it) (zero, omega arith, e ∙ is))) ∙ stays) in
              All-append (λ (n : Item). Agrees d n a) (added d (given b) o) (replaced d (given b) o)
              (added_with a (other_in a there apart_id))
              (on_moved (λ (n : Item). Agrees d n a) (left_id d item.id moved_id item.net
              (shove.with_chain chain item.metal) a (fit.fits.agrees a there (λ e. apart_id (sym e)))));
          joined = λ a there is t t_in apart_id old old_is touch.
              let by_id : item.id ≡ t.id = ap (λ (y : Shoved). y.id) (only_it t t_in) in
              let same : item ≡ old = same_some item old (sym (given_at item item_in)
              ∙ ap (λ (y : ℕ). slice_get (given b) y) by_id ∙ old_is) in
              subst (λ (y : Item). AreTouching (after_shoves d o.shoves y) (after_shoves d o.shoves a)) same
              (touched a there (λ e. apart_id (sym by_id ∙ e ∙ is))
              (subst (λ (y : Item). AreTouching y a) (sym same) touch));
        };
      }

    -- ---- what is in the way is ripped
    module _ (penalty : ℕ) (some : o.penalty ≡ Some penalty) where
      on_fixed_items : Stands d m o.net d.fixed j.walk.nodes j.walk.moves
      on_fixed_items =
          let walk = walk_by (Some penalty) some in
          let first = first_legal (Some penalty) some in
          stands d m o.net via_cost d.fixed j.starts j.goals
          (unpriced_walk d m b.items o.net via_cost penalty j.starts j.goals j.walk walk) j.start j.rest fits
          starts_there
          (on_fixed d m b.items o.net via_cost penalty j.starts j.goals j.walk walk) j.nodes_are
          (record {
            agrees = λ x there. first.agrees x
                (fixed_held d b.items board.sound serves x there);
            inside = first.inside;
          })

      any_fails : {X : Type 0} (P : X → Type 0) (xs : List X) → All P xs → Any (λ (x : X). ¬ (P x)) xs → ⊥
      any_fails P xs all (k, x, within, is, fails) = fails (subst P is (all k x within))

      same_net : (x y : ℕ) → Some x ≡ Some y → x ≡ y
      same_net x y e = cc

      other_net : (a : Item) → Contains b.items a → IsInWayOf d (added d (given b) o) a → a.net ≢ Some o.net
      other_net a there way e =
          let made = (is_given a there).made way.routed in
          let net_is : made.net ≡ o.net = same_net made.net o.net (sym (ap (λ (x : Item). x.net) made.made) ∙ e) in
          let is : a ≡ laid_item d o.net a.id a.metal = made.made ∙ ap (λ (n : ℕ). laid_item d n a.id a.metal) net_is in
          any_fails (λ (n : Item). Agrees d n a) (added d (given b) o)
          (subst (λ (x : Item). All (λ (n : Item). Agrees d n x) (added d (given b) o)) (sym is)
          (own_agree d o.net (λ i k a c. own d o.net i k a c) (length (given b)) a.id o.add a.metal))
          way.clashes

      module _ (ids : List ℕ) (in_way : AreIdsInWay d b.items (added d (given b) o) ids) (rips_are : o.rip
          ≡ ids) (no_shove : o.shoves ≡ []) where
        ripped : (x : ℕ) → Contains o.rip x → HasIdInWay d b.items (added d (given b) o) x
        ripped x there = in_way.each x (subst (λ (xs : List ℕ). Contains xs x) rips_are there)

        once : AllPairs (λ (x y : ℕ). x ≢ y) o.rip
        once = subst (λ (xs : List ℕ). AllPairs (λ (x y : ℕ). x ≢ y) xs) (sym rips_are)
            (λ i k x before within e. let lt = AllPairs-from_increasing ids in_way.ascend i k x before within in
            absurd (omega (arith, e, lt)))

        rips_in_way : RipsInTheWay (known b) o
        rips_in_way = record {
          each = λ k x within.
              let id = get_or o.rip k x in
              let h = ripped id (Contains-get_or o.rip k x within) in
              some_and (slice_get (given b) id) h.item (IsInTheWay (known b) o)
              (subst (λ (y : ℕ). slice_get (given b) y ≡ Some h.item) h.id_is (given_at h.item h.there))
              (record {
                routed = h.in_way.routed;
                other_net = other_net h.item h.there h.in_way;
                disagrees =
                    h.in_way.clashes;
              });
        }

        pub may_rip : MayBeMade b o
        may_rip =
            let s = on_fixed_items in
            record {
              formed = formed d.fixed s no_shove once rips_in_way;
              clear = clear d.fixed s no_shove
                  (λ x there. let h = ripped x there in record { item = h.item; there = h.there; id_is = h.id_is })
                  (λ a there stays. elim (true_or_false a.fixed) [
                    | inl fixed ↦ all_added d o.net (λ (n : Item). Agrees d n a) (length (given b)) o.add
                        (λ i. on_add d.fixed s (λ (x : Metal). Agrees d (laid_item d o.net i x) a)
                        (s.agree i a (fixed_known d b.items board.sound serves a there fixed)))
                    | inr routed ↦ elim (in_way.whole a there routed) [
                      | inl named ↦ absurd (stays (subst (λ (xs : List ℕ). Contains xs a.id) (sym rips_are) named))
                      | inr agrees ↦ agrees
                    ]
                  ]);
            }

      -- ---- what is in the way is shoved
      module _ (ids : List ℕ) (in_way : AreIdsInWay d b.items (added d (given b) o) ids)
          (shoves_are : AreShovesOf d m b.items (added d (given b) o) ids o.shoves) (no_rip : o.rip
          ≡ []) (together : StandTogether d b.items o.shoves) where
        abbrev new : List Item
        new = added d (given b) o

        ids_are : shoved_ids o ≡ ids
        ids_are = zip_ids d m b.items new ids o.shoves shoves_are

        gone_shoved : gone o ≡ ids
        gone_shoved = ap (λ (xs : List ℕ). xs ++ shoved_ids o) no_rip ∙ ids_are

        -- a shove, its item, and what they are
        record Shoves (s : Shoved) : Type 0 where
          item : Item
          there : Contains b.items item
          id_is : item.id ≡ s.id
          named : Contains ids s.id
          way : IsInWayOf d new item
          given_is : slice_get (given b) s.id ≡ Some item
          first : FitsFirst d m b.items new item s.chain

        shoves_at : (s : Shoved) → Contains o.shoves s → Shoves s
        shoves_at s s_in =
            let z = zip_right (IsShoveOf d m b.items new) ids o.shoves s shoves_are s_in in
            let h = in_way.each z.left z.left_in in
            let id_is : z.holds.item.id ≡ s.id = z.holds.item_is ∙ sym z.holds.id_is in
            let same : h.item ≡ z.holds.item = same_key (λ
            (x : Item). x.id) b.items h.item z.holds.item up h.there z.holds.there (h.id_is
            ∙ sym z.holds.item_is) in
            record {
              item = z.holds.item;
              there = z.holds.there;
              id_is = id_is;
              named = subst (Contains ids) (sym z.holds.id_is) z.left_in;
              way = subst (IsInWayOf d new) same h.in_way;
              given_is = subst (λ (x : ℕ). slice_get (given b) x
                  ≡ Some z.holds.item) id_is (given_at z.holds.item z.holds.there);
              first = z.holds.first;
            }

        item_is : (s : Shoved) → (h : Shoves s) → item_at (given b) s.id ≡ h.item
        item_is s h = get_or_from_slice_get (given b) s.id h.item _ h.given_is

        -- the replacement of a shoved item, under any id
        new_of : (i : ℕ) (s : Shoved) → (h : Shoves s) → reshaped d i s.chain (item_at (given b) s.id)
            ≡ shove.reshaped d i s.chain h.item
        new_of i s h = ap (λ (a : Item). reshaped d i s.chain a) (item_is s h) ∙ sym (to_board d i s.chain h.item)

        each_replaced : (P : Item → Type 0) → ((i : ℕ) (s : Shoved) → Contains o.shoves s → (h : Shoves s)
            → P (shove.reshaped d i s.chain h.item)) → All P (replaced d (given b) o)
        each_replaced P f = all_replaced d (given b) P (length (given b) + length o.add) o.shoves
            (λ i s s_in. let h = shoves_at s s_in in subst P (sym (new_of i s h)) (f i s s_in h))

        shovable : (s : Shoved) → Contains o.shoves s → (h : Shoves s) → IsShovable (known b) o s h.item
        shovable s s_in h =
            let fit = h.first.fits in
            let chain = fit.shove.shoved in
            record {
              in_the_way = record {
                routed = h.way.routed;
                other_net = other_net h.item h.there h.way;
                disagrees =
                    h.way.clashes;
              };
              wire = wire_same h.item.metal fit.wire;
              points = enough_points m (chain_of h.item.metal) h.first.r h.first.up s.chain chain;
              within = chain_within d m (chain_of h.item.metal) h.first.r h.first.up s.chain fits
                  (wire_within h.item.metal (is_given h.item h.there).fits.metal_fits) chain;
              inside = subst (λ (mt : Metal). AreInside d.bounds (pieces_of d mt))
                  (chain_same s.chain h.item.metal) fit.shove.fits.inside;
            }

        replaced_pairs : AllPairs (Agrees d) (replaced d (given b) o)
        replaced_pairs = pairs_replaced d (given b) (length (given b) + length o.add) o.shoves
            (λ p q x before within i k.
            let s = get_or o.shoves p x in
            let t = get_or o.shoves q x in
            let s_in : Contains o.shoves s = Contains-get_or o.shoves p x (omega arith) in
            let t_in : Contains o.shoves t = Contains-get_or o.shoves q x within in
            let f = shoves_at s s_in in
            let g = shoves_at t t_in in
            subst (λ (y : Item × Item). Agrees d y.0 y.1) (λ j. (sym (new_of i s f) j, sym (new_of k t g) j))
            (right_id d (shove.reshaped d i s.chain f.item) g.item.id k g.item.net
            (shove.with_chain t.chain g.item.metal)
            (left_id d f.item.id i f.item.net (shove.with_chain s.chain f.item.metal)
            (shove.reshaped d g.item.id t.chain g.item)
            ((together p q x before within).agree f.item g.item f.there g.there f.id_is g.id_is))))

        formed_shoves : IsWellFormed (known b) o
        formed_shoves =
            let st = on_fixed_items in
            record {
              timely = record { base = base; worker = worker };
              ends = ends_are;
              metals = metals_are d.fixed st;
              across = across d.fixed st;
              inside = record {
                each = added_inside d o.net (length (given b)) o.add
                    (on_add d.fixed st (IsMetalInside d) st.inside);
              };
              once = record {
                one_kind = inl no_rip;
                rip_once = subst (λ (xs : List ℕ). AllPairs (λ (x y : ℕ). x ≢ y) xs) (sym no_rip)
                    (λ i k x before within. absurd (omega arith));
                shove_once = subst (λ (xs : List ℕ). AllPairs (λ (x y : ℕ). x ≢ y) xs) (sym ids_are)
                    (λ i k x before within e. let lt = AllPairs-from_increasing ids in_way.ascend i k x before within in
                    absurd (omega (arith, e, lt)));
              };
              rips = record {
                each = subst (λ (xs : List ℕ). All
                    (λ x. IsSomeAnd (slice_get (given b) x) (IsInTheWay (known b) o)) xs) (sym no_rip) (All-nil _);
              };
              shoves = record {
                each = all_from (λ (s : Shoved). IsSomeAnd (slice_get (given b) s.id)
                    (IsShovable (known b) o s)) o.shoves (λ s s_in. let h = shoves_at s s_in in some_and
                    (slice_get (given b) s.id) h.item (IsShovable (known b) o s) h.given_is (shovable s s_in h));
              };
              agree = record {
                each = pairs_append (Agrees d) (added d (given b) o) (replaced d (given b) o)
                    (added_agree d o.net (λ i k a c. own d o.net i k a c) (length (given b)) o.add) replaced_pairs
                    (λ n n_in. each_replaced (Agrees d n) (λ i s s_in h. right_id d n h.item.id i h.item.net
                    (shove.with_chain s.chain h.item.metal)
                    (All-contains (λ (x : Item). Agrees d x (shove.reshaped d h.item.id s.chain h.item))
                    (added d (given b) o) n h.first.fits.agrees n_in)));
              };
            }

        -- an item that isn't shoved agrees with all new ones
        agrees_new : (a : Item) → Contains b.items a → (Contains ids a.id → ⊥)
            → All (λ (n : Item). Agrees d n a) (new_items d (given b) o)
        agrees_new a there stays =
            let st = on_fixed_items in
            All-append (λ (n : Item). Agrees d n a) (added d (given b) o) (replaced d (given b) o)
            (elim (true_or_false a.fixed) [
              | inl fixed ↦ all_added d o.net (λ (n : Item). Agrees d n a) (length (given b)) o.add
                  (λ i. on_add d.fixed st (λ (x : Metal). Agrees d (laid_item d o.net i x) a)
                  (st.agree i a (fixed_known d b.items board.sound serves a there fixed)))
              | inr routed ↦ elim (in_way.whole a there routed) [
                | inl named ↦ absurd
                    (stays named)
                | inr agrees ↦ agrees
              ]
            ])
            (each_replaced (λ (n : Item). Agrees d n a) (λ i s s_in h. left_id d h.item.id i h.item.net
            (shove.with_chain s.chain h.item.metal) a
            (h.first.fits.shove.fits.agrees a there (λ e. stays (subst (Contains ids) (sym h.id_is ∙ sym e) h.named)))))

        touches_after : (a : Item) → Contains b.items a → (s : Shoved) → Contains o.shoves s → s.id ≢ a.id
            → (old : Item) → slice_get (given b) s.id ≡ Some old → AreTouching old a
            → AreTouching (after_shoves d o.shoves old) (after_shoves d o.shoves a)
        touches_after a there s s_in apart_ids old old_is touch =
            let h = shoves_at s s_in in
            let same : h.item ≡ old = same_some h.item old (sym h.given_is ∙ old_is) in
            let old_id : old.id ≡ s.id = ap (λ (x : Item). x.id) (sym same) ∙ h.id_is in
            let old_in : Contains b.items old = subst (Contains b.items) same h.there in
            elim (shoved_or_not d o.shoves old) [
              | inr none ↦ absurd (none.others s s_in (sym old_id))
              | inl t ↦
                  let g = shoves_at t.by t.by_in in
                  let g_is : g.item ≡ old = same_key (λ (x : Item). x.id) b.items g.item old up g.there old_in
                  (g.id_is ∙ t.id_is) in
                  elim (shoved_or_not d o.shoves a) [
                    | inr stays ↦
                        subst (λ (y : Item × Item). AreTouching y.0 y.1) (λ k. (
                          (to_board d old.id t.by.chain old
                              ∙ sym t.after) k,
                          sym stays.after k,
                        ))
                        (subst (λ (x : Item). AreTouching (shove.reshaped d x.id t.by.chain x) a) g_is
                        (g.first.fits.shove.fits.touches a there (λ e. apart_ids (sym old_id
                        ∙ sym (e ∙ ap (λ (x : Item). x.id) g_is)))
                        (subst (λ (x : Item). AreTouching x a) (sym g_is) touch)))
                    | inl u ↦
                        subst (λ (y : Item × Item). AreTouching y.0 y.1) (λ k. (
                          (to_board d old.id t.by.chain old
                              ∙ sym t.after) k,
                          (to_board d a.id u.by.chain a ∙ sym u.after) k,
                        ))
                        (elim (either_way (StandsWith d b.items) o.shoves t.by u.by together t.by_in u.by_in
                        (λ e. apart_ids (sym old_id ∙ sym t.id_is ∙ ap (λ (x : Shoved). x.id) e ∙ u.id_is))) [
                          | inl tu ↦ tu.touch old a old_in there (sym t.id_is) (sym u.id_is) touch
                          | inr ut ↦ touching_swapped _ _ (ut.touch a old there old_in (sym u.id_is) (sym t.id_is)
                              (touching_swapped old a touch))
                        ])
                  ]
            ]

        pub may_shove : MayBeMade b o
        may_shove = record {
          formed = formed_shoves;
          clear = λ x. record {
            there = λ named. elim (in_cons o.from x (o.to ∷ gone o) (named_in (wanted o) x named)) [
              | inl is_from ↦ subst (λ (y : ℕ). is_on y b.items ≡ true) (j.from_anchored.id_is
                  ∙ is_from) (on_board b.items j.from_anchored.item j.from_anchored.there)
              | inr later ↦ elim (in_cons o.to x (gone o) later) [
                | inl is_to ↦ subst (λ (y : ℕ). is_on y b.items ≡ true) (j.to_anchored.id_is
                    ∙ is_to) (on_board b.items j.to_anchored.item j.to_anchored.there)
                | inr shoved ↦
                    let h = in_way.each x (subst (λ (xs : List ℕ). Contains xs x) gone_shoved shoved) in
                    subst (λ (y : ℕ). is_on y b.items ≡ true) h.id_is (on_board b.items h.item h.there)
              ]
            ];
            agrees = λ a there is stays. agrees_new a there (λ named. true≢false
                (sym (in_named (gone o) x (subst (λ (xs : List ℕ). Contains xs x) (sym gone_shoved)
                (subst (Contains ids) is named))) ∙ stays));
            joined = λ a there is s s_in apart_id old old_is touch. touches_after a there s s_in (λ e. apart_id (e
                ∙ is)) old old_is touch;
          };
        }

  -- ---- any least offer
  pub may_be_made : (l : IsLeastOffer m via_cost b o) → (o.penalty ≡ None → TakesNothing o) → MayBeMade b o
  may_be_made l takes = by o.penalty refl
    where
      by : (q : Option ℕ) → o.penalty ≡ q → MayBeMade b o
      by None e = takes_nothing (joined_by m via_cost b o l) e (takes e)
      by (Some penalty) e =
          let way : MakesWay m b o = subst (Chooses m b o) e l.chooses in
          elim way.chosen [
            | inl shoves ↦ shoves.may
            | inr rips ↦ may_rip
                (joined_by m via_cost b o l) penalty e way.ids way.in_way rips.rips_are rips.no_shove
          ]

  -- an offer without a penalty that takes out one item in its way
  pub may_take_one : (l : IsLeastOffer m via_cost b o) → o.penalty ≡ None → (id : ℕ) → o.rip ≡ id ∷ [] → o.shoves ≡ []
      → HasIdInWay d b.items (added d (given b) o) id → MayBeMade b o
  may_take_one l none id rip_is no_shove way = may_take_out (joined_by m via_cost b o l) none id rip_is no_shove way

  -- and one that moves one item aside
  pub may_move_one : (l : IsLeastOffer m via_cost b o) → o.penalty ≡ None → (item : Item) → Contains b.items item
      → shove.IsWire item.metal → (r : ℕ) (way_up : Bool) (chain : List Point)
      → shove.IsShove b.design m b.items item r way_up chain
      → o.shoves ≡ record { id = item.id; chain = chain } ∷ [] → o.rip ≡ []
      → IsInWayOf b.design (added b.design (given b) o) item → MayBeMade b o
  may_move_one l none item item_in wire r way_up chain fit shoves_are no_rip way =
      may_move_aside (joined_by m via_cost b o l) none item item_in wire r way_up chain fit shoves_are no_rip way
