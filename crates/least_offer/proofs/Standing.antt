-- What a walk lays stands beside the items that its moves agree with; where nothing is taken out for it, its offer
-- may be made.
use Rattle.std.proofs.Common.{◌≡◌, ◌≢◌, ℕ, zero, suc, ◌+◌, ◌<◌, ◌≤◌, ◌==◌, eq-eqb, Bool, true, false, true≢false}
use Rattle.std.proofs.Common.{List, [], ◌∷◌, ◌++◌, map, length, get_or, Option, Some, None, refl, sym, ap, ◌∙◌, subst}
use Rattle.std.proofs.Common.{arith, inl, inr, ◌⊎◌, All}
use Rattle.std.specs.Prelude.{◌||◌, AllPairs, Contains, slice_get, remove}
use Rattle.std.specs.Option.{IsSomeAnd}
use Rattle.std.proofs.lemmas.List.{append-nil}
use Rattle.std.proofs.lemmas.List.Elements.{All-nil, All-cons, All-contains, Contains-get_or}
use Rattle.pcb_model.specs.declared.item.Item.{Item}
use Rattle.pcb_model.specs.declared.item.Metal.{Metal}
use Rattle.pcb_model.specs.declared.design.Design.{Design}
use Rattle.pcb_model.specs.Pairs.{Agrees}
use Rattle.pcb_model.specs.Rules.{width_for}
use Rattle.pcb_model.specs.Plain.{ArePlain, IsPlainItem, IsPlainCopper}
use Rattle.pcb_model.specs.Board.{IsLegal, AreJoined, IsMade}
use Rattle.pcb_model.specs.Sound.{IsSound, Serves}
use Rattle.pcb_model.specs.Copper.{Ascends}
use Rattle.pcb_model.proofs.Symmetry.{touching_swapped}
use Rattle.pcb_islands.specs.declared.net.Island.{Island}
use Rattle.pcb_islands.specs.Islands.{AreIslands, HasItemAt}
use Rattle.pcb_islands.proofs.Elements.{in_none, in_cons, look_at}
use Rattle.pcb_islands.proofs.Others.{item_net}
use Rattle.route_lattice.specs.declared.moves.Move.{Move}
use Rattle.route_lattice.specs.declared.moves.Walk.{Walk}
use Rattle.route_lattice.specs.Mesh.{Mesh, node_count}
use Rattle.route_lattice.specs.Fits.{FitsDesign}
use Rattle.route_lattice.specs.Walks.{IsWalk, MoveGraph}
use Rattle.route_lattice.specs.Legal.{IsLegalProbe, disc_at, legal_graph}
use Rattle.path_wire.specs.Wires.{IsNetWalk, copper_of}
use Rattle.path_wire.specs.Lays.{move_probes, walk_probes, laid_item, IsMetalInside, IsWellLaid}
use Rattle.path_wire.specs.Joins.{Connect, last_node}
use Rattle.path_wire.proofs.Hopping.{walk_of_net, walk_legal, wide_walk_of_net, wide_walk_legal}
use Rattle.path_wire.proofs.Agreeing.{walk_agrees, walk_inside}
use Rattle.path_wire.proofs.Fitted.{walk_laid}
use Rattle.path_wire.proofs.Joining.{walk_connects}
use Rattle.path_wire.proofs.Touching.{metal_plain, anchored_touches, neighbours_touch}
use Rattle.ripup.proofs.Fixed.{fixed_known}
use Rattle.board_offers.specs.declared.offer.Offer.{Offer}
use Rattle.board_offers.specs.declared.offer.Shoved.{Shoved}
use Rattle.board_offers.specs.Items.{is_on, without, added, replaced_from, new_items, gone}
use Rattle.pcb_board.specs.Boards.{BoardOf, given}
use Rattle.board_offers.specs.Offers.{IsShovable, IsWellFormed, HasEnds, HasMetals, LeadsAcross, RipsInTheWay}
use Rattle.board_offers.specs.Troubles.{wanted}
use Rattle.pcb_board.specs.Answers.{known, IsClearOn}
use Rattle.pcb_board.specs.Keeping.{IsBoard}
use Rattle.board_offers.specs.Given.{IsGiven}
use Rattle.board_offers.proofs.Lists.{named_in, in_named, HasItem}
use Rattle.least_offer.specs.Least.{MayBeMade, cleared, judged_on, TakesNothing, JoinsOver, IsLaidOver, IsWideOffer}
use Rattle.least_offer.proofs.Metals.{IsRoute, routes}
use Rattle.least_offer.proofs.Adding.{all_added, added_agree, added_inside, all_addable, leads_across, some_metal}
use Rattle.path_wire.specs.Diagonals.{wide_graph}

-- ---- lists
-- the place of an element that is left
pub record HasOtherPlace {X : Type 0} (xs : List X) (i : ℕ) (y : X) : Type 0 where
  pub place : ℕ
  pub other : i ≢ place
  pub there : slice_get xs place ≡ Some y

pub other_place : {X : Type 0} (xs : List X) (i : ℕ) (y : X) → Contains (remove xs i) y → HasOtherPlace xs i y
other_place [] zero y there = absurd (in_none y there)
other_place [] (suc i) y there = absurd (in_none y there)
other_place (x ∷ xs) zero y there = record {
  place = suc there.0;
  other = λ e. absurd
      (omega (arith, e));
  there = look_at xs y there;
}
other_place (x ∷ xs) (suc i) y there = elim (in_cons x y (remove xs i) there) [
  | inl here ↦ record { place = zero; other = λ e. absurd (omega (arith, e)); there = ap (λ (z : _). Some z) here }
  | inr later ↦ (let found = other_place xs i y later in record {
    place = suc found.place;
    other = λ e. found.other
        (omega (arith, e));
    there = found.there;
  })
]

none_named : (items : List Item) → without [] items ≡ items
none_named [] = refl
none_named (a ∷ items) = ap (λ (xs : List Item). a ∷ xs) (none_named items)

pub true_or_false : (b : Bool) → (b ≡ true) ⊎ (b ≡ false)
true_or_false true = inl refl
true_or_false false = inr refl

pub some_and : {X : Type 0} (o : Option X) (x : X) (P : X → Type 0) → o ≡ Some x → P x → IsSomeAnd o P
some_and o x P e p = subst (λ (q : Option _). IsSomeAnd q P) (sym e) p

or_later : (a b : Bool) → b ≡ true → (a || b) ≡ true
or_later true b e = refl
or_later false b e = e

pub on_board : (items : List Item) (a : Item) → Contains items a → is_on a.id items ≡ true
on_board [] a (k, within, is) = absurd (omega (arith, within))
on_board (x ∷ items) a (zero, within, is) = ap (λ (t : Bool). t || is_on a.id items)
    (eq-eqb x.id a.id (ap (λ (y : Item). y.id) is))
on_board (x ∷ items) a (suc k, within, is) = or_later (x.id == a.id) (is_on a.id items)
    (on_board items a (k, omega (arith, within), is))

-- the board without what an offer takes out, which is nothing
pub uncleared : (b : BoardOf) (o : Offer) → TakesNothing o → cleared b o ≡ b.items
uncleared b o takes =
    (λ i. without (takes.no_rip i ++ map (λ (s : Shoved). s.id) (takes.no_shove i)) b.items ++ replaced_from b.design
    (given b) (length (given b) + length o.add) (takes.no_shove i))
    ∙ append-nil (without [] b.items) ∙ none_named b.items

-- ---- the copper of a walk, against items of which each move's probe and the first disc agree with all
pub record Stands (d : Design) (m : Mesh) (net : ℕ) (base : List Item) (nodes : List ℕ)
    (moves : List Move) : Type 0 where
  pub net_walk : IsNetWalk d m net nodes moves
  pub agree : (id : ℕ) (x : Item) → Contains base x
      → All (λ (a : Metal). Agrees d (laid_item d net id a) x) (copper_of d m net nodes moves)
  pub inside : All (IsMetalInside d) (copper_of d m net nodes moves)

stands_by : (d : Design) (m : Mesh) (net : ℕ) (base : List Item) (w : Walk) (v : ℕ) (vs : List ℕ) → FitsDesign d m
    → IsNetWalk d m net w.nodes w.moves → All (IsLegalProbe d base net) (move_probes d m net w.nodes w.moves)
    → w.nodes ≡ v ∷ vs → IsLegalProbe d base net (disc_at d m net v) → Stands d m net base w.nodes w.moves
stands_by d m net base w v vs fits net_walk moves nodes_are first =
    let probes : All (IsLegalProbe d base net) (walk_probes d m net w.nodes w.moves) =
    subst (λ (ns : List ℕ). All (IsLegalProbe d base net) (walk_probes d m net ns w.moves)) (sym nodes_are)
    (All-cons (IsLegalProbe d base net) (disc_at d m net v) (move_probes d m net (v ∷ vs) w.moves) first
    (subst (λ (ns : List ℕ). All (IsLegalProbe d base net) (move_probes d m net ns w.moves)) nodes_are moves)) in
    record {
      net_walk = net_walk;
      agree = λ id x x_in. walk_agrees d m net id x fits w.nodes w.moves net_walk
          (λ k p within. (probes k p within).agrees x x_in);
      inside = walk_inside d m net w.nodes w.moves net_walk (λ k p within. (probes k p within).inside);
    }

pub stands : (d : Design) (m : Mesh) (net via_cost : ℕ) (base : List Item) (starts goals : List ℕ) (w : Walk) (v : ℕ)
    (vs : List ℕ) → FitsDesign d m → All (λ x. x < node_count m) starts
    → IsWalk (legal_graph d m base net via_cost) starts goals w → w.nodes ≡ v ∷ vs
    → IsLegalProbe d base net (disc_at d m net v) → Stands d m net base w.nodes w.moves
stands d m net via_cost base starts goals w v vs fits there walk nodes_are first =
    stands_by d m net base w v vs fits (walk_of_net d m base net via_cost starts goals w there walk)
    (walk_legal d m base net via_cost starts goals w walk) nodes_are first

-- the same of a walk with diagonals
wide_stands : (d : Design) (m : Mesh) (net via_cost : ℕ) (base : List Item) (starts goals : List ℕ) (w : Walk) (v : ℕ)
    (vs : List ℕ) → FitsDesign d m → All (λ x. x < node_count m) starts
    → IsWalk (wide_graph d m base net via_cost) starts goals w → w.nodes ≡ v ∷ vs
    → IsLegalProbe d base net (disc_at d m net v) → Stands d m net base w.nodes w.moves
wide_stands d m net via_cost base starts goals w v vs fits there walk nodes_are first =
    stands_by d m net base w v vs fits (wide_walk_of_net d m base net via_cost starts goals w fits there walk)
    (wide_walk_legal d m base net via_cost starts goals w fits walk) nodes_are first

module _ (m : Mesh) (via_cost : ℕ) (b : BoardOf) (o : Offer)
    (own : (d : Design) (net i j : ℕ) (a c : Metal) → Agrees d (laid_item d net i a) (laid_item d net j c))
    (fewer : (d : Design) (items later : List Item) (net : ℕ) (old found : List Island) → IsSound d → Serves items d
    → Ascends items → ((x : Item) → Contains items x → Contains later x) → AreIslands d items net old
    → AreIslands d later net found
    → (i j : ℕ) (a c : Item) → Contains items a → Contains items c → HasItemAt old i a.id → HasItemAt old j c.id
    → i ≢ j → ¬ (¬ (AreJoined later a c)) → length found < length old)
    (board : IsBoard b) (up : Ascends b.items) (plain : IsPlainCopper b.design) (fits : FitsDesign b.design m)
    (base : o.base ≤ length b.history) (worker : o.worker ≤ 16) (net_there : o.net < length b.design.nets) where
  abbrev d : Design
  d = b.design

  -- ---- the board
  legal : IsLegal d b.items
  legal = subst (IsLegal d) board.replays (board.legal (length b.history) (omega arith))

  pub given_at : (a : Item) → Contains b.items a → slice_get (given b) a.id ≡ Some a
  given_at a there =
      All-contains (λ (x : Item). slice_get (given b) x.id ≡ Some x) b.items a
      (subst (λ (xs : List Item). All (λ (x : Item). slice_get (given b) x.id
      ≡ Some x) xs) board.replays (board.from_given (length b.history) (omega arith))) there

  pub is_given : (a : Item) → Contains b.items a → IsGiven d a.id a
  is_given a there = board.given_are a.id a (given_at a there)

  pub serves : Serves b.items d
  serves = record {
    design_fits = board.sound.fits;
    fixed_there = legal.fixed_stay;
    items_fit = λ k x within.
        (is_given (get_or b.items k x) (Contains-get_or b.items k x within)).fits;
  }

  made_plain : (a : Item) → IsMade d a → IsPlainItem a
  made_plain a h = record {
    plain = λ n e. subst ArePlain (sym (ap (λ (x : Item). x.pieces) h.made))
        (metal_plain d a.metal plain);
  }

  item_plain : (a : Item) → Contains b.items a → IsPlainItem a
  item_plain a there = elim (true_or_false a.fixed) [
    | inl fixed ↦ All-contains IsPlainItem d.fixed a plain.fixed
        (fixed_known d b.items board.sound serves a there fixed)
    | inr routed ↦ made_plain a ((is_given a there).made routed)
  ]

  -- a routed item that is made agrees with all items of its net that are laid
  module _ (graph : MoveGraph) (l : IsLaidOver graph m b o) where
    abbrev j : JoinsOver graph m b o l.island (remove l.found l.place)
    j = l.joins

    abbrev others : List Island
    others = remove l.found l.place

    -- ---- the ends
    from_at : HasItemAt l.found l.place o.from
    from_at = record { island = l.island; there = l.island_is; has = j.from_anchored.asked }

    to_place : HasOtherPlace l.found l.place j.other
    to_place = other_place l.found l.place j.other j.other_there

    to_at : HasItemAt l.found to_place.place o.to
    to_at = record { island = j.other; there = to_place.there; has = j.to_anchored.asked }

    at_id : (place : ℕ) (x y : ℕ) → x ≡ y → HasItemAt l.found place y → HasItemAt l.found place x
    at_id place x y e h = subst (HasItemAt l.found place) (sym e) h

    from_net : j.from_anchored.item.net ≡ Some o.net
    from_net = item_net d b.items o.net l.place l.found j.from_anchored.item board.sound up l.islands
        j.from_anchored.there (at_id l.place j.from_anchored.item.id o.from j.from_anchored.id_is from_at)

    to_net : j.to_anchored.item.net ≡ Some o.net
    to_net = item_net d b.items o.net to_place.place l.found j.to_anchored.item board.sound up l.islands
        j.to_anchored.there (at_id to_place.place j.to_anchored.item.id o.to j.to_anchored.id_is to_at)

    apart : o.from ≢ o.to
    apart e =
        let a = j.from_anchored.item in
        let less = fewer d b.items b.items o.net l.found l.found board.sound serves up
        (λ x h. h) l.islands l.islands l.place to_place.place a a j.from_anchored.there j.from_anchored.there
        (at_id l.place a.id o.from j.from_anchored.id_is from_at)
        (at_id to_place.place a.id o.to (j.from_anchored.id_is ∙ e) to_at) to_place.other
        (λ none. none (record { chain = []; there = All-nil (Contains b.items); leads = refl })) in
        absurd (omega arith)

    given_from : slice_get (given b) o.from ≡ Some j.from_anchored.item
    given_from = subst (λ (x : ℕ). slice_get (given b) x
        ≡ Some j.from_anchored.item) j.from_anchored.id_is (given_at j.from_anchored.item j.from_anchored.there)

    given_to : slice_get (given b) o.to ≡ Some j.to_anchored.item
    given_to = subst (λ (x : ℕ). slice_get (given b) x
        ≡ Some j.to_anchored.item) j.to_anchored.id_is (given_at j.to_anchored.item j.to_anchored.there)

    pub ends_are : HasEnds (known b) o
    ends_are = record {
      net = net_there;
      apart = apart;
      from = some_and (slice_get (given b) o.from) j.from_anchored.item (λ (a : Item). a.net
          ≡ Some o.net) given_from from_net;
      to = some_and (slice_get (given b) o.to) j.to_anchored.item (λ (a : Item). a.net ≡ Some o.net) given_to to_net;
    }

    -- ---- what the walk lays
    module _ (bases : List Item) (s : Stands d m o.net bases j.walk.nodes j.walk.moves) where
      abbrev copper : List Metal
      copper = copper_of d m o.net j.walk.nodes j.walk.moves

      connects : Connect d m j.start o.add (last_node j.start j.rest)
      connects =
          subst (λ (ms : List Metal). Connect d m j.start ms (last_node j.start j.rest)) (sym (j.add_is
          ∙ ap (λ (ns : List ℕ). copper_of d m o.net ns j.walk.moves) j.nodes_are))
          (walk_connects d m o.net fits j.start j.rest j.walk.moves
          (subst (λ (ns : List ℕ). IsNetWalk d m o.net ns j.walk.moves) j.nodes_are s.net_walk))

      pub on_add : (P : Metal → Type 0) → All P copper → All P o.add
      on_add P h = subst (λ (ms : List Metal). All P ms) (sym j.add_is) h

      well : All (IsWellLaid d o.net 0) o.add
      well = on_add (IsWellLaid d o.net 0)
          (walk_laid d m o.net 0 board.sound fits net_there j.walk.nodes j.walk.moves s.net_walk)

      pub across : LeadsAcross (known b) o
      across = record {
        from = j.from_anchored.item;
        from_is = given_from;
        to = j.to_anchored.item;
        to_is = given_to;
        leads = leads_across d m o.net
            (λ id v a c. anchored_touches d m o.net id v a c board.sound plain)
            (λ i k v a c. neighbours_touch d m o.net i k v a c board.sound plain)
            touching_swapped (length (given b)) j.start
            (last_node j.start j.rest) o.add j.from_anchored.item j.to_anchored.item connects
            (λ k a within. (well k a within).laid) from_net
            (item_plain j.from_anchored.item j.from_anchored.there) j.from_anchored.anchors
            to_net (item_plain j.to_anchored.item j.to_anchored.there) j.to_anchored.anchors;
      }

      pub metals_are : HasMetals (known b) o
      metals_are = record {
        some = some_metal d m o.net
            (λ id v a c. anchored_touches d m o.net id v a c board.sound plain)
            (λ i k v a c. neighbours_touch d m o.net i k v a c board.sound plain) touching_swapped j.start
            (last_node j.start j.rest) o.add connects;
        each = all_addable d o.net o.add
            (on_add (IsRoute (width_for d o.net)) (routes d m o.net j.walk.nodes j.walk.moves s.net_walk)) well;
      }

      -- ---- it shoves nothing
      module _ (no_shove : o.shoves ≡ []) where
        new_are : new_items d (given b) o ≡ added d (given b) o
        new_are = ap (λ (ss : List Shoved). added d (given b) o ++ replaced_from d (given b)
            (length (given b) + length o.add) ss) no_shove ∙ append-nil (added d (given b) o)

        gone_are : gone o ≡ o.rip
        gone_are = ap (λ (ss : List Shoved). o.rip ++ map (λ (s : Shoved). s.id) ss) no_shove ∙ append-nil o.rip

        none_shoved : (P : Shoved → Type 0) → All P o.shoves
        none_shoved P = subst (λ (ss : List Shoved). All P ss) (sym no_shove) (All-nil P)

        pub formed : AllPairs (λ (x y : ℕ). x ≢ y) o.rip → RipsInTheWay (known b) o → IsWellFormed (known b) o
        formed once rips = record {
          timely = record { base = base; worker = worker };
          ends = ends_are;
          metals = metals_are;
          across = across;
          inside = record { each = added_inside d o.net (length (given b)) o.add (on_add (IsMetalInside d) s.inside) };
          once = record {
            one_kind = inr no_shove;
            rip_once = once;
            shove_once = subst
                (λ (ss : List Shoved). AllPairs (λ (x y : ℕ). x ≢ y) (map (λ (s : Shoved). s.id) ss)) (sym no_shove)
                (λ i k x before within. absurd (omega arith));
          };
          rips = rips;
          shoves = record {
            each = none_shoved (λ (t : Shoved). IsSomeAnd (slice_get (given b) t.id)
                (IsShovable (known b) o t));
          };
          agree = record {
            each = subst (AllPairs (Agrees d)) (sym new_are)
                (added_agree d o.net (λ i k a c. own d o.net i k a c) (length (given b)) o.add);
          };
        }

        pub clear : ((x : ℕ) → Contains o.rip x → HasItem b.items x)
            → ((a : Item) → Contains b.items a → (Contains o.rip a.id → ⊥)
            → All (λ (n : Item). Agrees d n a) (added d (given b) o)) → (x : ℕ) → IsClearOn b o x
        clear on agree x = record {
          there = λ named. elim (in_cons o.from x (o.to ∷ gone o) (named_in (wanted o) x named)) [
            | inl is_from ↦ subst (λ (y : ℕ). is_on y b.items ≡ true) (j.from_anchored.id_is
                ∙ is_from) (on_board b.items j.from_anchored.item j.from_anchored.there)
            | inr later ↦ elim (in_cons o.to x (gone o) later) [
              | inl is_to ↦ subst (λ (y : ℕ). is_on y b.items ≡ true) (j.to_anchored.id_is
                  ∙ is_to) (on_board b.items j.to_anchored.item j.to_anchored.there)
              | inr ripped ↦
                  let h = on x (subst (λ (ids : List ℕ). Contains ids x) gone_are ripped) in
                  subst (λ (y : ℕ). is_on y b.items ≡ true) h.id_is (on_board b.items h.item h.there)
            ]
          ];
          agrees = λ a there is stays. subst (λ (ns : List Item). All (λ (n : Item). Agrees d n a) ns) (sym new_are)
              (agree a there (λ ripped. true≢false (sym (in_named (gone o) x
              (subst (λ (ids : List ℕ). Contains ids x) (sym gone_are) (subst (Contains o.rip) is ripped)))
              ∙ stays)));
          joined = λ a there is s s_in. absurd (in_none s (subst (λ (ss : List Shoved). Contains ss s) no_shove s_in));
        }

    -- ---- the walk itself
    pub starts_there : All (λ x. x < node_count m) j.starts
    starts_there = λ k x within. ((j.starts_are (get_or j.starts k x)).0 (Contains-get_or j.starts k x within)).there

    same_head : (x y : ℕ) (xs ys : List ℕ) → (x ∷ xs) ≡ (y ∷ ys) → x ≡ y
    same_head x y xs ys e = cc

    -- the disc at the first node
    pub first_legal : (penalty : Option ℕ) → o.penalty ≡ penalty
        → IsLegalProbe d (judged_on b o penalty) o.net (disc_at d m o.net j.start)
    first_legal penalty e =
        let w = j.least.walk in
        let first : w.from ≡ j.start = same_head w.from j.start _ j.rest (sym w.nodes ∙ j.nodes_are) in
        subst (λ (v : ℕ). IsLegalProbe d (judged_on b o penalty) o.net (disc_at d m o.net v)) first
        (subst (λ (q : Option ℕ). IsLegalProbe d (judged_on b o q) o.net (disc_at d m o.net w.from)) e
        ((j.starts_are w.from).0 w.starts_in).legal)

    -- with nothing taken out it is so on the board
    pub first_on_board : o.penalty ≡ None → TakesNothing o → IsLegalProbe d b.items o.net (disc_at d m o.net j.start)
    first_on_board none takes =
        subst (λ (xs : List Item). IsLegalProbe d xs o.net (disc_at d m o.net j.start)) (uncleared b o takes)
        (first_legal None none)

    -- ---- nothing is taken out
    module _ (takes : TakesNothing o) (s : Stands d m o.net b.items j.walk.nodes j.walk.moves) where
      pub may_take_nothing : MayBeMade b o
      may_take_nothing =
          let no_pair : AllPairs (λ (x y : ℕ). x ≢ y) o.rip = subst
          (λ (ids : List ℕ). AllPairs (λ (x y : ℕ). x ≢ y) ids) (sym takes.no_rip)
          (λ i k x before within. absurd (omega arith)) in
          let none_ripped : (x : ℕ) → Contains o.rip x
          → ⊥ = λ x there. in_none x (subst (λ (ids : List ℕ). Contains ids x) takes.no_rip there) in
          record {
            formed = formed b.items s takes.no_shove no_pair
                (record {
                  each = λ k x within. absurd (none_ripped (get_or o.rip k x)
                      (Contains-get_or o.rip k x within));
                });
            clear = clear b.items s takes.no_shove (λ x there. absurd (none_ripped x there))
                (λ a there stays. all_added d o.net (λ (n : Item). Agrees d n a) (length (given b)) o.add
                (λ i. on_add b.items s (λ (x : Metal). Agrees d (laid_item d o.net i x) a) (s.agree i a there)));
          }

  -- ---- a join by moves at 45 degrees
  pub wide_may_be_made : IsWideOffer m via_cost b o → MayBeMade b o
  wide_may_be_made w =
      let l = w.laid in
      let graph = wide_graph d m b.items o.net via_cost in
      may_take_nothing graph l w.takes
      (wide_stands d m o.net via_cost b.items l.joins.starts l.joins.goals l.joins.walk l.joins.start l.joins.rest fits
      (starts_there graph l) l.joins.least.walk l.joins.nodes_are (first_on_board graph l w.no_penalty w.takes))
