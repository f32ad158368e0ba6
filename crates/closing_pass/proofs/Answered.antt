-- What the tries of an item answer: way by way, that none of its settled moves helps.
use Rattle.std.proofs.Common.{◌≡◌, ◌⊎◌, ℕ, ◌+◌, ◌-◌, ◌<◌, ◌≤◌, List, [], ◌∷◌, length, Bool}
use Rattle.std.proofs.Common.{true, false, Option, Some, None}
use Rattle.std.proofs.Common.{refl, sym, ap, ◌∙◌, subst, inl, inr, arith}
use Rattle.std.specs.Prelude.{Contains, IfSome}
use Rattle.std.specs.Bool.{OnFalse}
use Rattle.std.proofs.lemmas.Option.{slice_get_within}
use Rattle.geo_kernel.specs.declared.point.Point.{Point}
use Rattle.pcb_model.specs.declared.item.Item.{Item}
use Rattle.pcb_model.specs.Copper.{Ascends}
use Rattle.pcb_islands.specs.declared.net.Island.{Island}
use Rattle.pcb_islands.proofs.Joined.{one_item}
use Rattle.pcb_islands.proofs.Others.{item_net}
use Rattle.pcb_islands.proofs.Touches.{below_or_same}
use Rattle.route_lattice.specs.Mesh.{Mesh}
use Rattle.cut_certificate.specs.declared.cut.Cut.{Cut}
use Rattle.cut_certificate.specs.Cuts.{IsCut, LeadsOn}
use Rattle.cut_certificate.specs.Past.{IsCutPast}
use Rattle.move_maps.specs.Maps.{AreMapsOf}
use Rattle.shove.specs.Shoves.{IsShove, Shoves, chain_of}
use Rattle.shove.proofs.Shoving.{one_chain}
use Rattle.board_offers.specs.declared.offer.Offer.{Offer}
use Rattle.board_offers.specs.Items.{reshaped, without}
use Rattle.pcb_board.specs.Boards.{BoardOf, SnapOf}
use Rattle.pcb_board.specs.Answers.{snap_of}
use Rattle.pcb_board.specs.Keeping.{IsBoard}
use Rattle.pcb_board.proofs.Standing.{ascends_now}
use Rattle.pcb_board.proofs.Taking.{removed_is}
use Rattle.least_offer.specs.Least.{cleared}
use Rattle.route_plan.specs.declared.mapped.MappedSnap.{MappedSnap}
use Rattle.route_plan.specs.declared.route.Route.{Route}
use Rattle.route_plan.specs.Mapped.{IsMapped}
use Rattle.route_plan.specs.Routes.{FindsPast, IsLed, IsStatedRoute, walks_of}
use Rattle.route_plan.specs.Searches.{NetSearchOf}
use Rattle.closing_pass.specs.Settled.{IsCloserOffer, IsSettled, LaysStated, MovesAside, TakesOut}
use Rattle.closing_pass.specs.inner.Rooms.{IsHome, IsPast, IsRoomFor, RoomOf, search_in}
use Rattle.closing_pass.specs.inner.Tries.{AnswersBy, AnswersItem, AnswersTrial, FindsRoute, HasRouted, IsOfOther}
use Rattle.closing_pass.specs.inner.Tries.{IsPastOffer, IsPastTrial}
use Rattle.closing_pass.specs.inner.Tries.{IsShoveTo, IsShutIsland, IsTriedItem, MovesRunTo, MovesTo, NoneHelps}
use Rattle.closing_pass.specs.inner.Tries.{ShutIslandOf, search_on}
use Rattle.closing_pass.proofs.Anchored.{AreOfNet}
use Rattle.closing_pass.proofs.Aside.{one_way_aside, one_way_out}
use Rattle.closing_pass.proofs.Attempts.{gone_it, in_the_way}
use Rattle.closing_pass.proofs.Laying.{IsLike, like_aside, like_out}
use Rattle.closing_pass.proofs.Lays.{lays, lays_none}
use Rattle.closing_pass.proofs.Gate.{cut_past}
use Rattle.closing_pass.proofs.Opens.{leads_found, leads_past, none_between, search_of, sure_goals, sure_starts}
use Rattle.closing_pass.proofs.Past.{out_there}
use Rattle.closing_pass.proofs.Places.{other_place}

-- ---- copper without an item
pub room_search : (m : Mesh) (via_cost : ℕ) (b : BoardOf) (id : ℕ) (moved : Option Item) (room : RoomOf)
    (island : Island) (others : List Island) → IsRoomFor m via_cost b id moved room
    → search_in room island others ≡ search_of b.design m via_cost room.items island others
room_search m via_cost b id moved room island others is =
    λ i. search_of (is.d_is i) (is.lat_is i) (is.via_cost_is i) room.items island others

-- the items without that of the id
pub items_out : (items past : List Item) (id : ℕ) → Ascends items → IsPast items id None past
    → past ≡ without (id ∷ []) items
items_out items past id up is = is.put ∙ is.removed.rest_is
    ∙ removed_is items is.removed.place is.item up is.removed.there
    ∙ ap (λ (x : ℕ). without (x ∷ []) items) is.id_is

-- where no walk is found there, none leads on
pub shut_out : (m : Mesh) (via_cost : ℕ) (b : BoardOf) (id : ℕ) (room : RoomOf) (island : Island)
    (others : List Island) → IsBoard b → IsRoomFor m via_cost b id None room → (led : Bool)
    → OnFalse led (¬ (IsLed (search_in room island others)))
    → OnFalse led (¬ (LeadsOn b.design m (without (id ∷ []) b.items) via_cost island others))
shut_out m via_cost b id room island others kept is true says = tt
shut_out m via_cost b id room island others kept is false says =
    leads_found b.design m via_cost (without (id ∷ []) b.items) island others (λ led. says
    (subst (λ (q : NetSearchOf). IsLed q) (sym (room_search m via_cost b id None room island others is))
    (subst (λ (xs : List Item). IsLed (search_of b.design m via_cost xs island others))
    (sym (items_out b.items room.items id (ascends_now b kept) is.past)) led)))

-- a cut of the island on the board, past the item
pub room_cut : (m : Mesh) (via_cost : ℕ) (b : BoardOf) (id : ℕ) (moved : Option Item) (room : RoomOf)
    (island : Island) (others : List Island) (cut : Cut) → IsRoomFor m via_cost b id moved room
    → IsCut b.design m b.items island others cut → IsCutPast (walks_of (search_in room island others)) cut id
room_cut m via_cost b id moved room island others cut is is_cut =
    subst (λ (q : NetSearchOf). IsCutPast (walks_of q) cut id)
    (sym (room_search m via_cost b id moved room island others is))
    (cut_past b.design m b.items room.items via_cost id moved island others cut is_cut is.past)

pub finds_past : (s : ShutIslandOf) (id : ℕ) (moved : Option Item) (room : RoomOf)
    → IsRoomFor s.lat s.via_cost s.board id moved room → (found : Option Route)
    → FindsPast (search_in room s.island s.others) found → FindsRoute s id moved found
finds_past s id moved room is found finds = record {
  items = room.items;
  past = is.past;
  finds = subst (λ (q : NetSearchOf). FindsPast q found)
      (room_search s.lat s.via_cost s.board id moved room s.island s.others is) finds;
}

pub home_mapped : (m : Mesh) (via_cost : ℕ) (b : BoardOf) (id : ℕ) (moved : Option Item) (room : RoomOf)
    (mapped : MappedSnap) → IsRoomFor m via_cost b id moved room → IsHome room mapped → IsMapped m (snap_of b) mapped
home_mapped m via_cost b id moved room mapped is home = record {
  snap_is = home.snap_is ∙ is.snap_is;
  maps_are = subst (λ (y : SnapOf × Mesh). AreMapsOf y.0.design y.1 y.0.items mapped.maps)
      (λ i. (is.snap_is i, is.lat_is i)) home.maps_are;
}

-- a routed item of the id, of another net than the island's
pub tried_item : (s : ShutIslandOf) (id : ℕ) (x : Item) → IsBoard s.board → HasRouted s id → Contains s.board.items x
    → x.id ≡ id → IsOfOther x s.island.net → IsTriedItem s x
tried_item s id x kept has there id_is other =
    let same : has.item ≡ x = one_item s.board.items (ascends_now s.board kept) has.item x has.there there
    (has.id_is ∙ sym id_is) in
    record { there = there; routed = sym (ap (λ (y : Item). y.fixed) same) ∙ has.routed; other = other }

-- none of the first k runs helps, moved up or down
pub record NoneTo (s : ShutIslandOf) (x : Item) (k : ℕ) : Type 0 where
  pub each : (r : ℕ) (up : Bool) → r < k → NoneHelps s x.id (MovesRunTo s x r up)

-- ---- an island that is shut in
module _ (s : ShutIslandOf) (inv : IsShutIsland s.lat s.via_cost s.board s.island s.others s.cut)
    (kept : IsBoard s.board)
  where
    abbrev b : BoardOf
    b = s.board

    up : Ascends b.items
    up = ascends_now b kept

    -- items of the islands have its net
    own : AreOfNet b.items s.island.items s.island.net
    own a h asked = item_net b.design b.items s.island.net inv.place inv.stands.found a kept.sound up
        inv.stands.islands h (record { island = s.island; there = inv.stands.island_is; has = asked })

    others_own : (i : Island) → Contains s.others i → AreOfNet b.items i.items s.island.net
    others_own i i_in a h asked =
        let at = other_place inv.stands.found inv.place i
        (subst (λ (os : List Island). Contains os i) inv.stands.others_are i_in) in
        item_net b.design b.items s.island.net at.place inv.stands.found a kept.sound up inv.stands.islands h
        (record { island = i; there = at.there; has = asked })

    -- an item that is of no other net
    pub not_other : (x : Item) → Contains b.items x → ¬ (IsOfOther x s.island.net)
        → IsSettled s.lat s.via_cost b s.island s.others x.id
    not_other x there none o walks help =
        let way = in_the_way s.lat b x o kept there help.aside help.formed in
        let same : help.item ≡ x = one_item b.items up help.item x help.there there help.id_is in
        let net_is : x.net ≡ Some help.net = sym (ap (λ (y : Item). y.net) same) ∙ help.net_is in
        none (record {
          own = help.net;
          own_is = net_is;
          apart = λ e. way.other_net (net_is ∙ ap (λ (k : ℕ). Some k) (e ∙ sym help.closer.net_is));
        })

    module _ (x : Item) (tried : IsTriedItem s x) where
      abbrev n : ℕ
      n = tried.other.own

      -- no walk leads on without it
      pub not_opened : ¬ (LeadsOn b.design s.lat (without (x.id ∷ []) b.items) s.via_cost s.island s.others)
          → IsSettled s.lat s.via_cost b s.island s.others x.id
      not_opened none o walks help =
          none (leads_past s.lat s.via_cost b o x n s.island s.others up tried.there tried.other.own_is
          tried.other.apart (gone_it s.lat b x o kept tried.there help.aside) help.closer.net_is
          help.closer.penalty_is own others_own help.lays.joins)

      -- neither way helps
      pub neither : NoneHelps s x.id (λ o. MovesAside s.lat b o x.id) → NoneHelps s x.id (λ o. TakesOut o x.id)
          → IsSettled s.lat s.via_cost b s.island s.others x.id
      neither aside out o walks help = by help.aside
        where
          by : TakesOut o x.id ⊎ MovesAside s.lat b o x.id → ⊥
          by (inl t) = out o walks t help
          by (inr t) = aside o walks t help

      pub item_answers : (id : ℕ) → x.id ≡ id → NoneHelps s x.id (λ o. MovesAside s.lat b o x.id)
          → (r : Option BoardOf) → AnswersBy s x.id (λ o. TakesOut o x.id) r → AnswersItem s id r
      item_answers id id_is aside (Some c) h = h
      item_answers id id_is aside None h =
          subst (λ (k : ℕ). IsSettled s.lat s.via_cost b s.island s.others k) id_is (neither aside h)

      -- ---- a route past it
      module _ (moved : Option Item) (past : List Item) (is : IsPast b.items x.id moved past)
          (moved_id : IfSome moved (λ (a : Item). a.id ≡ x.id)) (o : Offer) (closer : IsCloserOffer b s.island.net o)
          (like : IsLike b.design s.lat o.net s.via_cost past (cleared b o)) where
        same_item : is.item ≡ x
        same_item = one_item b.items up is.item x (out_there b.items is.rest is.item is.removed) tried.there is.id_is

        lays_it : (route : Route) → IsStatedRoute (search_on s past) route → o.from ≡ route.from → o.to ≡ route.to
            → o.add ≡ route.metals → LaysStated s.lat s.via_cost b o s.island s.others
        lays_it = lays s o x n moved past is.rest is same_item tried.there tried.other.own_is tried.other.apart
            moved_id closer.net_is closer.penalty_is own others_own like

        lays_no_way : ¬ (IsLed (search_on s past)) → ¬ (LaysStated s.lat s.via_cost b o s.island s.others)
        lays_no_way shut l =
            let none = leads_found b.design s.lat s.via_cost past s.island s.others shut in
            sure_starts b.design s.lat past s.island (λ starts starts_are.
            sure_goals b.design s.lat past s.others (λ goals goals_are.
            lays_none s o x n moved past is.rest is same_item tried.there tried.other.own_is tried.other.apart moved_id
            closer.net_is closer.penalty_is own others_own like starts goals starts_are goals_are
            (none_between b.design s.lat past s.via_cost s.island s.others starts goals starts_are goals_are none) l))

      -- ---- taken out
      pub out_shut : FindsRoute s x.id None None → NoneHelps s x.id (λ o. TakesOut o x.id)
      out_shut f o walks takes help = lays_no_way None f.items f.past tt o help.closer
          (like_out s.lat s.via_cost b o x.id kept up f.items f.past takes) f.finds help.lays

      pub out_trial : (route : Route) (o : Offer) → FindsRoute s x.id None (Some route)
          → IsPastOffer s route (x.id ∷ []) [] o → IsPastTrial s x o
      out_trial route o f p =
          let takes : TakesOut o x.id = record { rip_is = p.rip_is; no_shove = p.shoves_are } in
          record {
            closer = p.closer;
            aside = inl takes;
            lays = lays_it None f.items f.past tt o p.closer
                (like_out s.lat s.via_cost b o x.id kept up f.items f.past takes) route f.finds p.from_is p.to_is
                p.add_is;
          }

      pub out_answers : (o : Offer) → IsPastTrial s x o → TakesOut o x.id → (r : Option BoardOf)
          → AnswersTrial s x o r → AnswersBy s x.id (λ p. TakesOut p x.id) r
      out_answers o t takes (Some c) h = h
      out_answers o t takes None h = λ p walks way help.
          h p walks
          (one_way_out s.lat s.via_cost b s.island s.others x.id p o way takes help.closer.penalty_is
          t.closer.penalty_is (help.closer.net_is ∙ sym t.closer.net_is) help.lays t.lays)
          (way.rip_is ∙ sym takes.rip_is) (way.no_shove ∙ sym takes.no_shove) help

      -- ---- moved aside
      abbrev it : List Point → Item
      it chain = reshaped b.design x.id chain x

      pub aside_shut : (chain : List Point) → FindsRoute s x.id (Some (it chain)) None
          → NoneHelps s x.id (MovesTo x.id chain)
      aside_shut chain f o walks moves help = lays_no_way (Some (it chain)) f.items f.past refl o help.closer
          (like_aside s.lat s.via_cost b o x.id kept up x chain f.items tried.there refl f.past moves) f.finds
          help.lays

      pub aside_trial : (chain : List Point) (route : Route) (o : Offer) → IsShoveTo s x chain
          → FindsRoute s x.id (Some (it chain)) (Some route)
          → IsPastOffer s route [] ((record { id = x.id; chain = chain }) ∷ []) o → IsPastTrial s x o
      aside_trial chain route o to f p =
          let moves : MovesTo x.id chain o = record { shoves_are = p.shoves_are; no_rip = p.rip_is } in
          record {
            closer = p.closer;
            aside = inr (record {
              item = x;
              there = tried.there;
              id_is = refl;
              wire = to.wire;
              r = to.r;
              up = to.up;
              chain = chain;
              shove = to.shove;
              shoves_are = p.shoves_are;
              no_rip = p.rip_is;
            });
            lays = lays_it (Some (it chain)) f.items f.past refl o p.closer
                (like_aside s.lat s.via_cost b o x.id kept up x chain f.items tried.there refl f.past moves) route
                f.finds p.from_is p.to_is p.add_is;
          }

      pub aside_answers : (chain : List Point) (o : Offer) → IsPastTrial s x o → MovesTo x.id chain o
          → (r : Option BoardOf) → AnswersTrial s x o r → AnswersBy s x.id (MovesTo x.id chain) r
      aside_answers chain o t moves (Some c) h = h
      aside_answers chain o t moves None h = λ p walks way help.
          h p walks
          (one_way_aside s.lat s.via_cost b (record { id = x.id; chain = chain }) s.island s.others p o way.no_rip
          moves.no_rip way.shoves_are moves.shoves_are help.closer.penalty_is t.closer.penalty_is
          (help.closer.net_is ∙ sym t.closer.net_is) help.lays t.lays)
          (way.no_rip ∙ sym moves.no_rip) (way.shoves_are ∙ sym moves.shoves_are) help

      -- ---- runs
      -- the shove of a move of a run
      shove_of : (o : Offer) (r : ℕ) (up1 : Bool) (way : MovesRunTo s x r up1 o)
          → IsShove b.design s.lat b.items x r up1 way.0.chain
      shove_of o r up1 way =
          let a = way.0 in
          let same : a.item ≡ x = one_item b.items up a.item x a.there tried.there a.id_is in
          subst (λ (y : Item × ℕ × Bool). IsShove b.design s.lat b.items y.0 y.1 y.2 a.chain)
          (λ i. (same i, way.1 i, way.2 i)) a.shove

      pub run_answers : (chain : List Point) (r : ℕ) (up1 : Bool) → IsShove b.design s.lat b.items x r up1 chain
          → (res : Option BoardOf) → AnswersBy s x.id (MovesTo x.id chain) res
          → AnswersBy s x.id (MovesRunTo s x r up1) res
      run_answers chain r up1 shove (Some c) h = h
      run_answers chain r up1 shove None h = λ o walks way help.
          let a = way.0 in
          let one : a.chain ≡ chain = one_chain s.lat (chain_of x.metal) r up1 a.chain chain
          (shove_of o r up1 way).shoved shove.shoved in
          h o walks
          (record {
            shoves_are = a.shoves_are ∙ ap (λ (ps : List Point). (record { id = x.id; chain = ps }) ∷ []) one;
            no_rip = a.no_rip;
          }) help

      pub run_none : (r : ℕ) (up1 : Bool) → Shoves b.design s.lat b.items x r up1 None
          → NoneHelps s x.id (MovesRunTo s x r up1)
      run_none r up1 none o walks way help = none way.0.chain (shove_of o r up1 way)

      pub none_more : (k : ℕ) → NoneTo s x k → NoneHelps s x.id (MovesRunTo s x k true)
          → NoneHelps s x.id (MovesRunTo s x k false) → NoneTo s x (k + 1)
      none_more k before ups downs = record {
        each = λ r up1 less. elim (below_or_same r k) [
          | inl early ↦ before.each r up1 early
          | inr o ↦ elim o [
            | inl late ↦ absurd (omega (arith, less, late))
            | inr same ↦ subst (λ (q : ℕ). NoneHelps s x.id (MovesRunTo s x q up1)) (sym same) (last up1)
          ]
        ];
      }
        where
          last : (up1 : Bool) → NoneHelps s x.id (MovesRunTo s x k up1)
          last true = ups
          last false = downs

      pub none_aside : (k : ℕ) → length (chain_of x.metal) - 1 ≤ k → NoneTo s x k
          → NoneHelps s x.id (λ o. MovesAside s.lat b o x.id)
      none_aside k all none o walks a help =
          let same : a.item ≡ x = one_item b.items up a.item x a.there tried.there a.id_is in
          let within = slice_get_within (chain_of a.item.metal) (a.r + 1) a.shove.shoved.b a.shove.shoved.b_is in
          let long : length (chain_of a.item.metal) ≡ length (chain_of x.metal) =
          ap (λ (y : Item). length (chain_of y.metal)) same in
          none.each a.r a.up (omega (arith, within, long, all)) o walks (a, refl, refl) help
