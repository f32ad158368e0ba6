-- A join of the closing pass: what the board is afterwards.
use Rattle.std.proofs.Common.{◌≡◌, ◌≢◌, ℕ, ◌+◌, ◌<◌, ◌≤◌, List, [], ◌∷◌, ◌++◌, map, length, Some, None, refl, sym, ap}
use Rattle.std.proofs.Common.{◌∙◌, subst, inl, inr, arith, All, Result, Ok, Err}
use Rattle.std.specs.Prelude.{Contains, slice_get, remove, IfOk}
use Rattle.std.proofs.Math.Seq.{take-length}
use Rattle.std.proofs.lemmas.List.{take-append-le, append-nil}
use Rattle.std.proofs.lemmas.List.Elements.{All-nil, All-cons, All-append, All-contains, Contains-get_or}
use Rattle.std.proofs.lemmas.List.Elements.{Contains-append_left, Contains-append_right}
use Rattle.std.proofs.lemmas.Option.{same_Some, slice_get_within}
use Rattle.pcb_model.specs.declared.item.Item.{Item}
use Rattle.pcb_model.specs.declared.item.Metal.{Metal}
use Rattle.pcb_model.specs.declared.design.Design.{Design}
use Rattle.pcb_model.specs.Board.{AreJoined, LeadsTo}
use Rattle.pcb_model.specs.Sound.{IsSound, Serves}
use Rattle.pcb_model.specs.Copper.{Ascends}
use Rattle.pcb_islands.specs.declared.net.Island.{Island}
use Rattle.pcb_islands.specs.Islands.{AreIslands, HasItemAt, pins_of}
use Rattle.pcb_islands.proofs.Elements.{look_cases}
use Rattle.pcb_islands.proofs.Gathering.{island_at}
use Rattle.route_lattice.specs.Mesh.{Mesh}
use Rattle.board_offers.specs.declared.offer.Offer.{Offer}
use Rattle.board_offers.specs.declared.offer.Shoved.{Shoved}
use Rattle.board_offers.specs.Items.{without, added, added_from, replaced_from, new_items}
use Rattle.board_offers.specs.Offers.{LeadsAcross, IsWellFormed, FailsFirst}
use Rattle.pcb_board.specs.declared.answer.Entry.{Entry}
use Rattle.pcb_board.specs.declared.answer.Entry.TheVariants.{Join, Back}
use Rattle.pcb_board.specs.Boards.{BoardOf, SnapOf, given, past, board_at}
use Rattle.pcb_board.specs.declared.answer.Answer.{Answer}
use Rattle.pcb_board.specs.declared.answer.Answer.TheVariants.{Committed, Stale, Wrong, Malformed, Full}
use Rattle.pcb_board.specs.Answers.{Step, joined, known, snap_of}
use Rattle.pcb_board.specs.Keeping.{IsBoard}
use Rattle.least_offer.specs.Least.{IsLeastOffer, TakesNothing, MayBeMade}
use Rattle.cut_certificate.specs.Cuts.{LeadsOn}
use Rattle.route_plan.specs.declared.plans.FromIsland.{FromIsland}
use Rattle.route_plan.specs.Planners.{PlannerOf, CanSearch, planner_of}
use Rattle.route_plan.specs.Plans.{StandsAt, LeadsFrom, LeadsOut, IsShutFrom, IsOfferOf, StatesFrom, StatesOut}
use Rattle.closing_pass.specs.Closing.{CanClose, IsCloserJoin, JoinsBy}
use Rattle.closing_pass.specs.Settled.{TakesOne}
use Rattle.closing_pass.specs.inner.Steps.{IsShutAt, HasFewer, GrowsBy, JoinsNet}
use Rattle.closing_pass.proofs.Places.{other_place}

-- ---- the new items
pub none_named : (items : List Item) → without [] items ≡ items
none_named [] = refl
none_named (a ∷ items) = ap (λ (xs : List Item). a ∷ xs) (none_named items)

-- an offer that takes nothing out adds its items behind the others
pub items_joined : (b : BoardOf) (o : Offer) → TakesNothing o
    → (joined b o).items ≡ b.items ++ added b.design (given b) o
items_joined b o takes =
    (λ i. without (takes.no_rip i ++ map (λ (s : Shoved). s.id) (takes.no_shove i)) b.items
    ++ (added b.design (given b) o ++ replaced_from b.design (given b) (length (given b) + length o.add)
    (takes.no_shove i)))
    ∙ (ap (λ (xs : List Item). xs ++ (added b.design (given b) o ++ [])) (none_named b.items)
    ∙ ap (λ (xs : List Item). b.items ++ xs) (append-nil (added b.design (given b) o)))

-- they have its net
pub own_added : (d : Design) (net id : ℕ) (ms : List Metal)
    → All (λ (b : Item). b.net ≡ Some net) (added_from d net id ms)
own_added d net id [] = All-nil (λ (b : Item). b.net ≡ Some net)
own_added d net id (m ∷ ms) = All-cons (λ (b : Item). b.net ≡ Some net) _ _ refl (own_added d net (id + 1) ms)

pub grows_join : (b : BoardOf) (o : Offer) (net : ℕ) → o.net ≡ net → TakesNothing o → GrowsBy net b (joined b o)
grows_join b o net net_is takes = record {
  design_stays = refl;
  added = added b.design (given b) o;
  items_are = items_joined b o takes;
  own = subst (λ (n : ℕ). All (λ (x : Item). x.net ≡ Some n) (added b.design (given b) o)) net_is
      (own_added b.design o.net (length (given b)) o.add);
}

-- ---- fewer islands
-- items of two islands are joined by the new ones
linked : (b : BoardOf) (o : Offer) → IsBoard b → TakesNothing o
    → (f : LeadsAcross (record { design = b.design; given = given b; entries = length b.history }) o)
    → (from to : Item) → Contains b.items from → from.id ≡ o.from → Contains b.items to → to.id ≡ o.to
    → AreJoined (joined b o).items from to
linked b o kept takes across from to from_there from_is to_there to_is =
    let known : (a : Item) → Contains b.items a → slice_get (given b) a.id ≡ Some a =
    λ a there. All-contains (λ (x : Item). slice_get (given b) x.id ≡ Some x) b.items a
    (subst (λ (xs : List Item). All (λ (x : Item). slice_get (given b) x.id ≡ Some x) xs) kept.replays
    (kept.from_given (length b.history) (omega arith))) there in
    let first : across.from ≡ from = same_Some _ _ (sym across.from_is ∙ ap (λ (x : ℕ). slice_get (given b) x)
    (sym from_is) ∙ known from from_there) in
    let last : across.to ≡ to = same_Some _ _ (sym across.to_is ∙ ap (λ (x : ℕ). slice_get (given b) x) (sym to_is) ∙
    known to to_there) in
    let new = added b.design (given b) o in
    let later : (x : Item) → Contains (b.items ++ new) x → Contains (joined b o).items x = λ x h. subst
    (λ (xs : List Item). Contains xs x) (sym (items_joined b o takes)) h in
    record {
      chain = new ++ to ∷ [];
      there = All-append (Contains (joined b o).items) new (to ∷ [])
          (λ k x within. later _ (Contains-append_right b.items new _ (Contains-get_or new k x within)))
          (All-cons (Contains (joined b o).items) to [] (later to (Contains-append_left b.items new to to_there))
          (All-nil (Contains (joined b o).items)));
      leads = subst (λ (p : Item × Item). LeadsTo p.0 (new ++ p.1 ∷ []) p.1) (λ i. (first i, last i)) across.leads;
    }

-- what joining_falls says of a net with fewer islands
abbrev pub Falls : Type 0
Falls = (d : Design) (items later : List Item) (net : ℕ) (old found : List Island) → IsSound d → Serves items d
    → Ascends items
    → ((x : Item) → Contains items x → Contains later x) → AreIslands d items net old
    → AreIslands d later net found → (i j : ℕ) (a b : Item)
    → Contains items a → Contains items b → HasItemAt old i a.id → HasItemAt old j b.id → i ≢ j
    → ¬ (¬ (AreJoined later a b)) → length found < length old

-- and islands_are_one
abbrev pub Single : Type 0
Single = (d : Design) (items : List Item) (net : ℕ) (found others : List Island) → IsSound d → Serves items d
    → AreIslands d items net found
    → AreIslands d items net others → found ≡ others

pub fewer_join : (m : Mesh) (via_cost : ℕ) (b : BoardOf) (o : Offer) (net : ℕ) (found : List Island) → Falls
    → Single → IsBoard b → Serves b.items b.design
    → Ascends b.items → AreIslands b.design b.items net found → IsOfferOf m via_cost b 16 net None o
    → TakesNothing o → HasFewer net (joined b o) found
fewer_join m via_cost b o net found falls single kept serves up islands of takes = record {
  fewer = λ later islands_later.
      let least = of.least in
      let mine : AreIslands b.design b.items net least.found = subst
      (λ (n : ℕ). AreIslands b.design b.items n least.found) of.net_is least.islands in
      let same : found ≡ least.found = single b.design b.items net found least.found kept.sound serves islands mine in
      let joins = least.joins in
      let from = joins.from_anchored in
      let to = joins.to_anchored in
      let other = other_place least.found least.place joins.other joins.other_there in
      subst (λ (xs : List Island). length later < length xs) (sym same)
      (falls b.design b.items (joined b o).items net least.found later kept.sound serves up
      (λ x there. subst (λ (xs : List Item). Contains xs x) (sym (items_joined b o takes))
      (Contains-append_left b.items (added b.design (given b) o) x there))
      mine islands_later least.place other.place from.item to.item from.there to.there
      (record {
        island = least.island;
        there = least.island_is;
        has = subst
            (λ (x : ℕ). Contains least.island.items x) (sym from.id_is) from.asked;
      })
      (record {
        island = joins.other;
        there = other.there;
        has = subst (λ (x : ℕ). Contains joins.other.items x)
            (sym to.id_is) to.asked;
      })
      other.other (λ none. none (linked b o kept takes of.may.formed.across from.item to.item from.there from.id_is
      to.there to.id_is)));
}

-- ---- the history
-- with all its entries a board is itself
board_whole : (b : BoardOf) → IsBoard b → board_at b (length b.history) ≡ b
board_whole b kept = λ i. record b { history = take-length b.history i; items = kept.replays i }

-- a board made of the design, the start, the cap and the entries
abbrev of_entries : BoardOf → List Entry → BoardOf
of_entries b entries = record b { history = entries; items = (past b.design b.start entries).items }

-- the entry of an offer
abbrev join_entry : BoardOf → Offer → Entry
join_entry b o = Join o (length (given b)) (length (given b) + length (new_items b.design (given b) o))

-- a further entry changes no earlier board
joined_before : (b : BoardOf) (o : Offer) (n : ℕ) → n ≤ length b.history → board_at (joined b o) n ≡ board_at b n
joined_before b o n le = ap (of_entries b) (take-append-le n b.history (join_entry b o ∷ []) le)

-- the offer of an entry
offer_in : Entry → Offer → Offer
offer_in (Join o first after) other = o
offer_in (Back to) other = other

same_offer : (o p : Offer) (f g a h : ℕ) → Join o f a ≡ Join p g h → o ≡ p
unfolding offer_in
same_offer o p f g a h e = ap (λ (x : Entry). offer_in x o) e

-- an offer without a penalty that rests on the board as it is, is a least one and takes out or moves aside at most one
-- item
pub joins_by : (worker : ℕ) (m : Mesh) (via_cost : ℕ) (b : BoardOf) (o : Offer) → IsBoard b → o.worker ≡ worker
    → o.penalty ≡ None → o.base ≡ length b.history → IsLeastOffer m via_cost b o → TakesOne m b o
    → JoinsBy worker m via_cost b (joined b o)
joins_by worker m via_cost b o kept worker_is penalty_is base_is is_least takes = record {
  design_stays = refl;
  start_stays = refl;
  cap_stays = refl;
  entries = join_entry b o ∷ [];
  history_is = refl;
  joins = All-cons (IsCloserJoin worker) (join_entry b o) [] (worker_is, penalty_is) (All-nil (IsCloserJoin worker));
  least = λ n le. record {
    each = λ p first after there. elim (look_cases b.history (join_entry b o) n (Join p first after) there) [
      | inl before ↦ absurd (not_before n le (Join p first after) before)
      | inr here ↦
          let same : o ≡ p = same_offer o p _ first _ after here.1 in
          let base : p.base ≡ length b.history = ap (λ (x : Offer). x.base) (sym same) ∙ base_is in
          let at : board_at (joined b o) p.base ≡ b =
          ap (λ (k : ℕ). board_at (joined b o) k) base ∙ (joined_before b o (length b.history) (omega arith) ∙
          board_whole b kept) in (
            base ∙ sym here.0,
            subst (λ (x : BoardOf). IsLeastOffer m via_cost x p) (sym at)
                (subst (IsLeastOffer m via_cost b) same is_least),
            subst (λ (x : BoardOf). TakesOne m x p) (sym at) (subst (TakesOne m b) same takes),
          )
    ];
  };
}
  where
    not_before : (n : ℕ) → length b.history ≤ n → (e : Entry) → slice_get b.history n ≡ Some e → ⊥
    not_before n le e there = let within = slice_get_within b.history n e there in omega (arith, within, le)

pub joins_one : (worker : ℕ) (m : Mesh) (via_cost : ℕ) (b : BoardOf) (o : Offer) (net : ℕ) → IsBoard b
    → IsOfferOf m via_cost b worker net None o
    → TakesNothing o → JoinsBy worker m via_cost b (joined b o)
joins_one worker m via_cost b o net kept of takes =
    joins_by worker m via_cost b o kept of.worker_is of.penalty_is of.base_is of.least (inl takes)

-- a join of the net
pub joins_net : (m : Mesh) (via_cost : ℕ) (b c : BoardOf) (o : Offer) (net : ℕ) → IsBoard b
    → IsOfferOf m via_cost b 16 net None o → TakesNothing o → c ≡ joined b o
    → JoinsNet m via_cost net b c
joins_net m via_cost b c o net kept of takes same =
    subst (JoinsNet m via_cost net b) (sym same) (record {
      closes = joins_one 16 m via_cost b o net kept of takes;
      grows = grows_join b o net of.net_is takes;
    })

-- ---- a snapshot
-- what holds of the board's design and items holds of the snapshot's
pub on_snap : (F : Design → List Item → Type 0) (b : BoardOf) (s : SnapOf) (d : Design) → s ≡ snap_of b
    → d ≡ s.design → F b.design b.items → F d s.items
on_snap F b s d s_is d_is h =
    subst (λ (p : Design × List Item). F p.0 p.1)
    (λ i. (sym (d_is ∙ ap (λ (x : SnapOf). x.design) s_is) i, sym (ap (λ (x : SnapOf). x.items) s_is) i)) h

-- and the other way round
pub of_snap : (F : Design → List Item → Type 0) (b : BoardOf) (s : SnapOf) (d : Design) → s ≡ snap_of b
    → d ≡ s.design → F d s.items → F b.design b.items
of_snap F b s d s_is d_is h =
    subst (λ (p : Design × List Item). F p.0 p.1) (λ i. (
      (d_is ∙ ap (λ (x : SnapOf). x.design) s_is) i,
      ap
          (λ (x : SnapOf). x.items) s_is i,
    )) h

-- ---- the plan
-- the net of the island at a place
pub net_at : (d : Design) (items : List Item) (net : ℕ) (found : List Island) (place : ℕ) (island : Island)
    → AreIslands d items net found
    → slice_get found place ≡ Some island → island.net ≡ net
net_at d items net found place island islands at = (island_at d items net (pins_of d net) found place island islands
    at).net_is

-- what a planner stands on
pub can_search : (b : BoardOf) (m : Mesh) (via_cost : ℕ) (s : SnapOf) → CanClose m via_cost b.design → IsBoard b
    → Serves b.items b.design → s ≡ snap_of b → CanSearch m s via_cost 16
can_search b m via_cost s can kept serves s_is =
    let here : CanSearch m (snap_of b) via_cost 16 = record {
      sound = kept.sound;
      plain = can.plain;
      fits = can.fits;
      serves = serves;
      small_cost = can.small_cost;
      closer = omega arith;
    } in
    subst (λ (x : SnapOf). CanSearch m x via_cost 16) (sym s_is) here

-- what it answers of the board
pub leads_there : {E : Type 0} (b : BoardOf) (m : Mesh) (via_cost : ℕ) (s : SnapOf) (p : PlannerOf)
    (others : List Island) (island : Island) (r : Result FromIsland E) → CanClose m via_cost b.design → IsBoard b
    → s ≡ snap_of b → p ≡ planner_of m s via_cost 16 → IfOk r (LeadsOut p None island others)
    → IfOk r (λ (led : FromIsland). (k : ℕ) → StandsAt b.design b.items island.net k island others
    → LeadsFrom m via_cost b 16 None island others led)
leads_there b m via_cost s p others island (Ok led) can kept s_is p_is leads = λ k stands.
    subst (λ (x : PlannerOf). LeadsOut x None island others led) p_is leads b k
    (record { board = kept; is = sym s_is; plain = can.plain }) stands (λ never. absurd (omega (arith, never)))
leads_there b m via_cost s p others island (Err e) can kept s_is p_is leads = leads

-- and where it leads by the stated walk
pub states_there : {E : Type 0} (b : BoardOf) (m : Mesh) (via_cost : ℕ) (s : SnapOf) (p : PlannerOf)
    (others : List Island) (island : Island) (r : Result FromIsland E) → CanClose m via_cost b.design → IsBoard b
    → s ≡ snap_of b → p ≡ planner_of m s via_cost 16 → IfOk r (StatesOut p island others)
    → IfOk r (λ (led : FromIsland). (k : ℕ) → StandsAt b.design b.items island.net k island others
    → StatesFrom m via_cost b 16 island others led)
states_there b m via_cost s p others island (Ok led) can kept s_is p_is leads = λ k stands.
    subst (λ (x : PlannerOf). StatesOut x island others led) p_is leads b k
    (record { board = kept; is = sym s_is; plain = can.plain }) stands (λ never. absurd (omega (arith, never)))
states_there b m via_cost s p others island (Err e) can kept s_is p_is leads = leads

-- for the island at a place
pub led_on : (b : BoardOf) (m : Mesh) (via_cost net place : ℕ) (found others : List Island) (island : Island)
    (led : FromIsland) → AreIslands b.design b.items net found → slice_get found place ≡ Some island
    → others ≡ remove found place
    → ((k : ℕ) → StandsAt b.design b.items island.net k island others
    → LeadsFrom m via_cost b 16 None island others led)
    → LeadsFrom m via_cost b 16 None island others led
led_on b m via_cost net place found others island led islands at rest leads =
    leads place (record {
      found = found;
      islands = subst (λ (n : ℕ). AreIslands b.design b.items n found)
          (sym (net_at b.design b.items net found place island islands at)) islands;
      island_is = at;
      others_are = rest;
    })

-- where no walk leads on, the island is shut
pub shut_at : (b : BoardOf) (m : Mesh) (via_cost place : ℕ) (found others : List Island) (island : Island)
    (nodes : List ℕ) → slice_get found place ≡ Some island
    → others ≡ remove found place → IsShutFrom b.design m b.items island.net via_cost None island others nodes
    → IsShutAt b.design m via_cost b.items found place
shut_at b m via_cost place found others island nodes at rest shut other there leads =
    let same : island ≡ other = same_Some _ _ (sym at ∙ there) in
    let on : LeadsOn b.design m b.items via_cost island others =
    subst (λ (p : Island × List Island). LeadsOn b.design m b.items via_cost p.0 p.1) (λ i. (sym same i, sym rest i))
    leads in
    shut.none on.from on.hops on.to ((shut.starts_are.exact on.from).1 on.starts)
    ((shut.goals_are.exact on.to).1 on.ends) on.leads

-- ---- the answer
pub no_clause : (b : BoardOf) (o : Offer) (clause : ℕ) → IsWellFormed (known b) o → FailsFirst (known b) o clause → ⊥
no_clause b o clause w (inl e) = e.1 w.timely
no_clause b o clause w (inr (_, inl e)) = e.1 w.ends
no_clause b o clause w (inr (_, inr (_, inl e))) = e.1 w.metals
no_clause b o clause w (inr (_, inr (_, inr (_, inl e)))) = e.1 w.across
no_clause b o clause w (inr (_, inr (_, inr (_, inr (_, inl e))))) = e.1 w.inside
no_clause b o clause w (inr (_, inr (_, inr (_, inr (_, inr (_, inl e)))))) = e.1 w.once
no_clause b o clause w (inr (_, inr (_, inr (_, inr (_, inr (_, inr (_, inl e))))))) = e.1 w.rips
no_clause b o clause w (inr (_, inr (_, inr (_, inr (_, inr (_, inr (_, inr (_, inl e)))))))) = e.1 w.shoves
no_clause b o clause w (inr (_, inr (_, inr (_, inr (_, inr (_, inr (_, inr (_, inr (_, inl e))))))))) = e.1 w.agree
no_clause b o clause w (inr (_, inr (_, inr (_, inr (_, inr (_, inr (_, inr (_, inr (_, inr never))))))))) = never.1

-- an offer of the closing pass that may be made is committed
pub is_made : (b : BoardOf) (o : Offer) (a : Answer) (c : BoardOf) → MayBeMade b o → o.worker ≡ 16 → Step b o a c
    → c ≡ joined b o
is_made b o (Committed number) c may closer step = step.3
is_made b o Full c may closer step = let full = step.0.worker in absurd (omega (arith, full, closer))
is_made b o (Malformed clause) c may closer step = absurd (no_clause b o clause may.formed step.1)
is_made b o (Stale item commit) c may closer step = absurd (step.0.least.0 (may.clear item))
is_made b o (Wrong item commit) c may closer step = absurd (step.0.least.0 (may.clear item))
