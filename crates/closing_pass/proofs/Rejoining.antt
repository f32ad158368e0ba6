-- A net is joined again by stated walks, one after another: each is the only one.
use Rattle.std.proofs.Common.{◌≡◌, ◌∙◌, ℕ, ◌+◌, ◌<◌, ◌≤◌, List, [], ◌∷◌, ◌++◌, map, length, Option, Some, None, refl}
use Rattle.std.proofs.Common.{sym, ap, subst, arith, true, false, length-append}
use Rattle.std.specs.Prelude.{slice_get, remove}
use Rattle.std.proofs.lemmas.List.{append-nil}
use Rattle.std.proofs.lemmas.Option.{same_Some}
use Rattle.pcb_model.specs.declared.item.Item.{Item}
use Rattle.pcb_model.specs.declared.item.Metal.{Metal}
use Rattle.pcb_model.specs.declared.design.Design.{Design}
use Rattle.pcb_model.specs.Copper.{Ascends}
use Rattle.pcb_model.specs.Sound.{IsSound, Serves}
use Rattle.pcb_islands.specs.declared.net.Island.{Island}
use Rattle.pcb_islands.specs.Islands.{AreIslands}
use Rattle.route_lattice.specs.declared.moves.Walk.{Walk}
use Rattle.route_lattice.specs.Mesh.{Mesh}
use Rattle.route_lattice.specs.Walks.{Leads}
use Rattle.route_lattice.specs.Legal.{IsLegalNode, legal_graph}
use Rattle.wave_search.specs.Stated.{IsStated}
use Rattle.wave_search.proofs.Single.{are_one}
use Rattle.path_wire.specs.Wires.{copper_of}
use Rattle.cut_certificate.specs.Cuts.{IsGoal, IsStart}
use Rattle.board_offers.specs.declared.offer.Offer.{Offer}
use Rattle.board_offers.specs.declared.offer.Shoved.{Shoved}
use Rattle.board_offers.specs.Items.{added, added_from, new_items, replaced_from, without}
use Rattle.board_offers.proofs.New.{added_length}
use Rattle.pcb_board.specs.declared.answer.Entry.TheVariants.{Join}
use Rattle.pcb_board.specs.Boards.{BoardOf, Past, given}
use Rattle.pcb_board.specs.Answers.{joined}
use Rattle.pcb_board.specs.Keeping.{IsBoard}
use Rattle.pcb_board.proofs.Past.{past_more}
use Rattle.least_offer.specs.Least.{IsGoalOf, IsStartOf, TakesNothing, cleared, judged_on, walks_of}
use Rattle.route_plan.specs.Plans.{IsOfferOf, IsShutFrom, IsStatedOffer, StandsAt}
use Rattle.closing_pass.specs.Settled.{JoinsFirst, Rejoins}
use Rattle.closing_pass.specs.inner.Steps.{HasFewer, JoinsNet}
use Rattle.closing_pass.specs.inner.Trials.{HasJoinedFirst, JoinsFirstOf, Rejoined}
use Rattle.closing_pass.proofs.Closings.{net_none, net_on}
use Rattle.closing_pass.proofs.Joining.{Falls, Single, fewer_join, items_joined, joins_net, net_at, none_named}

head_same : (x y : Island) (xs ys : List Island) → (x ∷ xs) ≡ (y ∷ ys) → x ≡ y
head_same x y xs ys e = cc

tail_same : (x y : Island) (xs ys : List Island) → (x ∷ xs) ≡ (y ∷ ys) → xs ≡ ys
tail_same x y xs ys e = cc

-- ---- an offer that takes nothing out
-- it is judged on the board as it is
cleared_is : (b : BoardOf) (o : Offer) → TakesNothing o → cleared b o ≡ b.items
cleared_is b o takes =
    (λ i. without (takes.no_rip i ++ map (λ (s : Shoved). s.id) (takes.no_shove i)) b.items
    ++ replaced_from b.design (given b) (length (given b) + length o.add) (takes.no_shove i))
    ∙ (append-nil (without [] b.items) ∙ none_named b.items)

-- its items get the next ids
new_is : (b : BoardOf) (o : Offer) → TakesNothing o
    → new_items b.design (given b) o ≡ added b.design (given b) o
new_is b o takes =
    (λ i. added b.design (given b) o
    ++ replaced_from b.design (given b) (length (given b) + length o.add) (takes.no_shove i))
    ∙ append-nil (added b.design (given b) o)

given_joined : (b : BoardOf) (o : Offer) → TakesNothing o
    → given (joined b o) ≡ given b ++ added b.design (given b) o
given_joined b o takes =
    ap (λ (p : Past). p.given) (past_more b.design b.start b.history
    (Join o (length (given b)) (length (given b) + length (new_items b.design (given b) o))))
    ∙ ap (λ (xs : List Item). given b ++ xs) (new_is b o takes)

-- ---- the first island of a net is joined by the stated walk
module _ (m : Mesh) (via_cost net : ℕ) (b : BoardOf) (o : Offer) (island : Island) (others : List Island)
    (s : IsStatedOffer m via_cost b 16 island others o) (own : island.net ≡ net) where
  net_is : o.net ≡ net
  net_is = s.offer.net_is ∙ own

  judged : judged_on b o o.penalty ≡ b.items
  judged = ap (judged_on b o) s.offer.penalty_is ∙ cleared_is b o s.takes

  start_over : (node : ℕ) → IsStartOf b m o island node → IsStart b.design m b.items island node
  start_over node h = record {
    there = h.there;
    anchors = h.anchors;
    legal = subst (λ (n : ℕ). IsLegalNode b.design m b.items n node) s.offer.net_is
        (subst (λ (xs : List Item). IsLegalNode b.design m xs o.net node) judged h.legal);
  }

  start_back : (node : ℕ) → IsStart b.design m b.items island node → IsStartOf b m o island node
  start_back node h = record {
    there = h.there;
    anchors = h.anchors;
    legal = subst (λ (xs : List Item). IsLegalNode b.design m xs o.net node) (sym judged)
        (subst (λ (n : ℕ). IsLegalNode b.design m b.items n node) (sym s.offer.net_is) h.legal);
  }

  stated_here : IsStated (legal_graph b.design m b.items net via_cost) s.joins.starts s.joins.goals s.joins.walk
  stated_here =
      subst (λ (n : ℕ). IsStated (legal_graph b.design m b.items n via_cost) s.joins.starts s.joins.goals s.joins.walk)
      net_is
      (subst (λ (xs : List Item). IsStated (legal_graph b.design m xs o.net via_cost) s.joins.starts s.joins.goals
      s.joins.walk) (cleared_is b o s.takes)
      (subst (λ (q : Option ℕ). IsStated (walks_of m via_cost b o q) s.joins.starts s.joins.goals s.joins.walk)
      s.offer.penalty_is s.stated))

  first_of : AreIslands b.design b.items net (island ∷ others)
      → JoinsFirst b.design m via_cost b.items net s.joins.walk
  first_of islands = record {
    island = island;
    others = others;
    islands = islands;
    starts = s.joins.starts;
    starts_are = record {
      exact = λ node. (
        λ h. start_over node ((s.joins.starts_are node).0 h),
        λ h. (s.joins.starts_are node).1 (start_back node h),
      );
    };
    goals = s.joins.goals;
    goals_are = record {
      exact = λ node. (
        λ h. let g : IsGoalOf b m others node = (s.joins.goals_are node).0 h in
            record { there = g.there; anchors = g.anchors },
        λ g. (s.joins.goals_are node).1 (record { there = g.there; anchors = g.anchors }),
      );
    };
    stated = stated_here;
  }

  added_here : added b.design (given b) o
      ≡ added_from b.design net (length (given b)) (copper_of b.design m net s.joins.walk.nodes s.joins.walk.moves)
  added_here =
      let metals_are : o.add ≡ copper_of b.design m net s.joins.walk.nodes s.joins.walk.moves =
      s.joins.add_is ∙ ap (λ (n : ℕ). copper_of b.design m n s.joins.walk.nodes s.joins.walk.moves) net_is in
      λ i. added_from b.design (net_is i) (length (given b)) (metals_are i)

  pub joined_first : IsBoard b → (c : BoardOf) → c ≡ joined b o
      → AreIslands b.design b.items net (island ∷ others) → HasJoinedFirst m via_cost net b c
  joined_first kept c same islands = subst (HasJoinedFirst m via_cost net b) (sym same) (record {
    walk = s.joins.walk;
    first = first_of islands;
    added = added b.design (given b) o;
    added_are = added_here;
    items_are = items_joined b o s.takes;
    given_are = given_joined b o s.takes;
    joins = joins_net m via_cost b (joined b o) o net kept (record {
      base_is = s.offer.base_is;
      worker_is = s.offer.worker_is;
      net_is = net_is;
      penalty_is = s.offer.penalty_is;
      least = s.offer.least;
      may = s.offer.may;
    }) s.takes refl;
  })

-- ---- the islands of a net, the first of them before the others
none_there : (x : Island) → None ≡ Some x → ⊥
none_there x e = cc

pub first_islands : (d : Design) (items : List Item) (net : ℕ) (found others : List Island) (island : Island)
    → AreIslands d items net found → slice_get found 0 ≡ Some island → others ≡ remove found 0
    → AreIslands d items net (island ∷ others)
first_islands d items net [] others island are at rest = absurd (none_there island at)
first_islands d items net (x ∷ found) others island are at rest =
    let head : x ≡ island = same_Some x island at in
    subst (AreIslands d items net) (λ i. head i ∷ sym rest i) are

-- where none leads on from the first island, no walk joins it
pub none_first : (m : Mesh) (via_cost net : ℕ) (b : BoardOf) (others : List Island) (island : Island) (nodes : List ℕ)
    → Single → IsBoard b → Serves b.items b.design → AreIslands b.design b.items net (island ∷ others)
    → island.net ≡ net → IsShutFrom b.design m b.items island.net via_cost None island others nodes
    → (w : Walk) → ¬ (JoinsFirst b.design m via_cost b.items net w)
none_first m via_cost net b others island nodes single kept serves islands own shut w j =
    let d = b.design in
    let same = single d b.items net (island ∷ others) (j.island ∷ j.others) kept.sound serves islands j.islands in
    let island_is = head_same island j.island others j.others same in
    let others_are = tail_same island j.island others j.others same in
    let walk = j.stated.walk in
    let start_in = subst (λ (x : Island). IsStart d m b.items x walk.from) (sym island_is)
    ((j.starts_are.exact walk.from).0 walk.starts_in) in
    let goal_in = subst (λ (xs : List Island). IsGoal d m b.items xs walk.to) (sym others_are)
    ((j.goals_are.exact walk.to).0 walk.ends_in) in
    shut.none walk.from walk.hops walk.to ((shut.starts_are.exact walk.from).1 start_in)
    ((shut.goals_are.exact walk.to).1 goal_in)
    (subst (λ (n : ℕ). Leads (legal_graph d m b.items n via_cost) walk.from walk.hops walk.to) (sym own) walk.leads)

-- there is one stated walk from the first island
first_one : (d : Design) (m : Mesh) (via_cost net : ℕ) (items : List Item) (v w : Walk) → Single → IsSound d
    → Serves items d → JoinsFirst d m via_cost items net v → JoinsFirst d m via_cost items net w → v ≡ w
first_one d m via_cost net items v w single sound serves a b =
    let same = single d items net (a.island ∷ a.others) (b.island ∷ b.others) sound serves a.islands b.islands in
    let island_is = head_same a.island b.island a.others b.others same in
    let others_are = tail_same a.island b.island a.others b.others same in
    are_one (legal_graph d m items net via_cost) a.starts a.goals b.starts b.goals v w
    (λ n. (
      λ h. (b.starts_are.exact n).1
          (subst (λ (x : Island). IsStart d m items x n) island_is ((a.starts_are.exact n).0 h)),
      λ h. (a.starts_are.exact n).1
          (subst (λ (x : Island). IsStart d m items x n) (sym island_is) ((b.starts_are.exact n).0 h)),
    ))
    (λ n. (
      λ h. (b.goals_are.exact n).1
          (subst (λ (xs : List Island). IsGoal d m items xs n) others_are ((a.goals_are.exact n).0 h)),
      λ h. (a.goals_are.exact n).1
          (subst (λ (xs : List Island). IsGoal d m items xs n) (sym others_are) ((b.goals_are.exact n).0 h)),
    ))
    a.stated b.stated

-- ---- walks from a board on
abbrev pub RejoinsFrom : Mesh → ℕ → ℕ → ℕ → BoardOf → List Walk → Type 0
RejoinsFrom m via_cost net most b walks =
    Rejoins b.design m via_cost net most b.items (length (given b)) walks

-- some walks do so
abbrev pub IsRejoined : Mesh → ℕ → ℕ → ℕ → BoardOf → Type 0
IsRejoined m via_cost net most b = (walks : List Walk) × RejoinsFrom m via_cost net most b walks

module _ (m : Mesh) (via_cost net most : ℕ) (b c : BoardOf) (found : List Island) (single : Single)
    (kept : IsBoard b) (serves : Serves b.items b.design) (islands : AreIslands b.design b.items net found)
    (many : most < length found) (first : HasJoinedFirst m via_cost net b c) where
  abbrev metals : List Metal
  metals = copper_of b.design m net first.walk.nodes first.walk.moves

  items_after : c.items ≡ b.items ++ added_from b.design net (length (given b)) metals
  items_after = first.items_are ∙ ap (λ (xs : List Item). b.items ++ xs) first.added_are

  next_after : length (given c) ≡ length (given b) + length metals
  next_after =
      ap (λ (xs : List Item). length xs) first.given_are
      ∙ length-append (given b) first.added
      ∙ ap (λ (xs : List Item). length (given b) + length xs) first.added_are
      ∙ ap (λ (k : ℕ). length (given b) + k) (added_length b.design net (length (given b)) metals)

  design_is : c.design ≡ b.design
  design_is = first.joins.grows.design_stays

  after_over : (ws : List Walk) → RejoinsFrom m via_cost net most c ws
      → Rejoins b.design m via_cost net most (b.items ++ added_from b.design net (length (given b)) metals)
      (length (given b) + length metals) ws
  after_over ws h = subst (λ (p : Design × List Item × ℕ). Rejoins p.0 m via_cost net most p.1 p.2 ws)
      (λ i. (design_is i, items_after i, next_after i)) h

  after_back : (ws : List Walk)
      → Rejoins b.design m via_cost net most (b.items ++ added_from b.design net (length (given b)) metals)
      (length (given b) + length metals) ws
      → RejoinsFrom m via_cost net most c ws
  after_back ws h = subst (λ (p : Design × List Item × ℕ). Rejoins p.0 m via_cost net most p.1 p.2 ws)
      (λ i. (sym design_is i, sym items_after i, sym next_after i)) h

  -- walks from the later board, behind the one that was laid
  pub walk_over : IsRejoined m via_cost net most c → IsRejoined m via_cost net most b
  walk_over r =
      (first.walk ∷ r.0, (record { found = found; islands = islands; many = many }, first.first, after_over r.0 r.1))

  -- and walks from the earlier board begin with that one
  walk_back : (ws : List Walk) → RejoinsFrom m via_cost net most b ws → IsRejoined m via_cost net most c
  walk_back [] few =
      let same = single b.design b.items net found few.found kept.sound serves islands few.islands in
      let long = ap (λ (xs : List Island). length xs) same in
      absurd (omega (arith, long, many, few.few))
  walk_back (w ∷ ws) h =
      let one = first_one b.design m via_cost net b.items w first.walk single kept.sound serves h.1 first.first in (
        ws,
        after_back ws (subst (λ (v : Walk). Rejoins b.design m via_cost net most
            (b.items ++ added_from b.design net (length (given b)) (copper_of b.design m net v.nodes v.moves))
            (length (given b) + length (copper_of b.design m net v.nodes v.moves)) ws) one h.2),
      )

  pub walks_back : IsRejoined m via_cost net most b → IsRejoined m via_cost net most c
  walks_back r = walk_back r.0 r.1

-- where no walk joins the first island, none of them does
pub none_rejoins : (m : Mesh) (via_cost net most : ℕ) (b : BoardOf) (found : List Island) → Single → IsBoard b
    → Serves b.items b.design → AreIslands b.design b.items net found → most < length found
    → ((w : Walk) → ¬ (JoinsFirst b.design m via_cost b.items net w)) → ¬ (IsRejoined m via_cost net most b)
none_rejoins m via_cost net most b found single kept serves islands many none r = by r.0 r.1
  where
    by : (ws : List Walk) → RejoinsFrom m via_cost net most b ws → ⊥
    by [] few =
        let same = single b.design b.items net found few.found kept.sound serves islands few.islands in
        let long = ap (λ (xs : List Island). length xs) same in
        absurd (omega (arith, long, many, few.few))
    by (w ∷ ws) h = none w h.1

-- ---- what the loop keeps
pub record IsRejoining (m : Mesh) (via_cost net most : ℕ) (old b : BoardOf) (found : List Island) : Type 0 where
  pub joins : JoinsNet m via_cost net old b
  pub islands : AreIslands b.design b.items net found
  pub over : IsRejoined m via_cost net most b → IsRejoined m via_cost net most old
  pub back : IsRejoined m via_cost net most old → IsRejoined m via_cost net most b

-- the net has few enough islands
pub few_rejoins : (m : Mesh) (via_cost net most : ℕ) (b : BoardOf) (found : List Island)
    → AreIslands b.design b.items net found → length found ≤ most → IsRejoined m via_cost net most b
few_rejoins m via_cost net most b found islands few = ([], record { found = found; islands = islands; few = few })

pub rejoining_none : (m : Mesh) (via_cost net most : ℕ) (b : BoardOf) (found : List Island)
    → AreIslands b.design b.items net found → IsRejoining m via_cost net most b b found
rejoining_none m via_cost net most b found islands = record {
  joins = net_none m via_cost net b;
  islands = islands;
  over = λ r. r;
  back = λ r. r;
}

-- one walk more
pub rejoining_more : (m : Mesh) (via_cost net most : ℕ) (old b c : BoardOf) (found later : List Island) → Single
    → IsBoard b → Serves b.items b.design → IsRejoining m via_cost net most old b found → most < length found
    → HasJoinedFirst m via_cost net b c → AreIslands c.design c.items net later
    → IsRejoining m via_cost net most old c later
rejoining_more m via_cost net most old b c found later single kept serves is many first islands = record {
  joins = net_on m via_cost net old b c is.joins first.joins;
  islands = islands;
  over = λ r. is.over (walk_over m via_cost net most b c found single kept serves is.islands many first r);
  back = λ r. walks_back m via_cost net most b c found single kept serves is.islands many first (is.back r);
}

-- its end
pub rejoined_all : (m : Mesh) (via_cost net most : ℕ) (old b : BoardOf) (found : List Island)
    → IsRejoining m via_cost net most old b found → length found ≤ most → Rejoined m via_cost net most old b true
rejoined_all m via_cost net most old b found is few = (
  is.over (few_rejoins m via_cost net most b found is.islands few),
  record { found = found; islands = is.islands; few = few },
  is.joins,
)

-- or none leads on
pub rejoined_none : (m : Mesh) (via_cost net most : ℕ) (old b c : BoardOf) (found : List Island) → Single → IsBoard b
    → Serves b.items b.design → IsRejoining m via_cost net most old b found → most < length found
    → JoinsFirstOf m via_cost net b c false → Rejoined m via_cost net most old c false
rejoined_none m via_cost net most old b c found single kept serves is many none = (
  λ walks h. none_rejoins m via_cost net most b found single kept serves is.islands many none.1
      (is.back (walks, h)),
  subst (JoinsNet m via_cost net old) (sym none.0) is.joins,
)

-- ---- where the first island leads
pub stands_first : (b : BoardOf) (net : ℕ) (found others : List Island) (island : Island)
    → AreIslands b.design b.items net found → slice_get found 0 ≡ Some island → others ≡ remove found 0
    → StandsAt b.design b.items island.net 0 island others
stands_first b net found others island islands at rest = record {
  found = found;
  islands = subst (λ (n : ℕ). AreIslands b.design b.items n found)
      (sym (net_at b.design b.items net found 0 island islands at)) islands;
  island_is = at;
  others_are = rest;
}

module _ (m : Mesh) (via_cost net : ℕ) (b c : BoardOf) (o : Offer) (found others : List Island) (island : Island)
    (kept : IsBoard b) (islands : AreIslands b.design b.items net found) (at : slice_get found 0 ≡ Some island)
    (rest : others ≡ remove found 0) (s : IsStatedOffer m via_cost b 16 island others o) (same : c ≡ joined b o) where
  net_here : island.net ≡ net
  net_here = net_at b.design b.items net found 0 island islands at

  pub offer_of : IsOfferOf m via_cost b 16 net None o
  offer_of = subst (λ (n : ℕ). IsOfferOf m via_cost b 16 n None o) net_here s.offer

  pub takes_first : HasJoinedFirst m via_cost net b c
  takes_first = joined_first m via_cost net b o island others s net_here kept c same
      (first_islands b.design b.items net found others island islands at rest)

  pub first_fewer : Falls → Single → Serves b.items b.design → Ascends b.items → HasFewer net c found
  first_fewer falls single serves up = subst (λ (x : BoardOf). HasFewer net x found) (sym same)
      (fewer_join m via_cost b o net found falls single kept serves up islands offer_of s.takes)

module _ (m : Mesh) (via_cost net : ℕ) (b : BoardOf) (found others : List Island) (island : Island)
    (nodes : List ℕ) (single : Single) (kept : IsBoard b) (serves : Serves b.items b.design)
    (islands : AreIslands b.design b.items net found) (at : slice_get found 0 ≡ Some island)
    (rest : others ≡ remove found 0) where
  pub shut_first : IsShutFrom b.design m b.items island.net via_cost None island others nodes
      → JoinsFirstOf m via_cost net b b false
  shut_first shut = (
    refl,
    none_first m via_cost net b others island nodes single kept serves
        (first_islands b.design b.items net found others island islands at rest)
        (net_at b.design b.items net found 0 island islands at) shut,
  )
