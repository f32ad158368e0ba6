-- Two offers that take out one item and lay stated walks lay the same.
use Rattle.std.proofs.Common.{◌≡◌, ℕ, ◌+◌, List, [], ◌∷◌, ◌++◌, map, length, None, Option, sym, ap, ◌∙◌, subst}
use Rattle.std.proofs.lemmas.List.{append-nil}
use Rattle.pcb_model.specs.declared.item.Item.{Item}
use Rattle.pcb_islands.specs.declared.net.Island.{Island}
use Rattle.route_lattice.specs.declared.moves.Walk.{Walk}
use Rattle.route_lattice.specs.Mesh.{Mesh}
use Rattle.route_lattice.specs.Legal.{IsLegalNode, legal_graph}
use Rattle.path_wire.specs.Wires.{copper_of}
use Rattle.wave_search.specs.Stated.{IsStated}
use Rattle.wave_search.proofs.Single.{are_one}
use Rattle.board_offers.specs.declared.offer.Offer.{Offer}
use Rattle.board_offers.specs.declared.offer.Shoved.{Shoved}
use Rattle.board_offers.specs.Items.{without, replaced_from, item_at}
use Rattle.pcb_board.specs.Boards.{BoardOf, given}
use Rattle.least_offer.specs.Least.{cleared, walks_of, judged_on, IsStartOf}
use Rattle.closing_pass.specs.Settled.{TakesOut, LaysStated}
use Rattle.closing_pass.specs.Ids.{beside}
use Rattle.closing_pass.proofs.Ids.{ids_change_nothing, stated_beside}

-- the board without the item
pub out_of : (b : BoardOf) (o : Offer) (id : ℕ) → TakesOut o id → cleared b o ≡ without (id ∷ []) b.items
out_of b o id takes =
    (λ i. without (takes.rip_is i ++ map (λ (s : Shoved). s.id) (takes.no_shove i)) b.items ++ replaced_from b.design
    (given b) (length (given b) + length o.add) (takes.no_shove i))
    ∙ append-nil (without (id ∷ []) b.items)

-- what is judged on it
judged : (b : BoardOf) (o : Offer) (id : ℕ) → TakesOut o id → o.penalty ≡ None
    → judged_on b o o.penalty ≡ without (id ∷ []) b.items
judged b o id takes none = ap (judged_on b o) none ∙ out_of b o id takes

start_moves : (m : Mesh) (b : BoardOf) (o p : Offer) (id : ℕ) (island : Island) → TakesOut o id → TakesOut p id
    → o.penalty ≡ None → p.penalty ≡ None → o.net ≡ p.net → (node : ℕ) → IsStartOf b m o island node
    → IsStartOf b m p island node
start_moves m b o p id island to tp fo fp net_is node s = record {
  there = s.there;
  anchors = s.anchors;
  legal = subst (λ (n : ℕ). IsLegalNode b.design m (judged_on b p p.penalty) n node) net_is
      (subst (λ (xs : List Item). IsLegalNode b.design m xs o.net node)
      (judged b o id to fo ∙ sym (judged b p id tp fp)) s.legal);
}

stated_on : (m : Mesh) (via_cost : ℕ) (b : BoardOf) (o : Offer) (id net : ℕ) (starts goals : List ℕ) (w : Walk)
    → TakesOut o id → o.penalty ≡ None → o.net ≡ net → IsStated (walks_of m via_cost b o o.penalty) starts goals w
    → IsStated (legal_graph b.design m (without (id ∷ []) b.items) net via_cost) starts goals w
stated_on m via_cost b o id net starts goals w takes none net_is s =
    subst (λ (n : ℕ). IsStated (legal_graph b.design m (without (id ∷ []) b.items) n via_cost) starts goals w) net_is
    (subst (λ (xs : List Item). IsStated (legal_graph b.design m xs o.net via_cost) starts goals w)
    (out_of b o id takes) (subst (λ (q : Option ℕ). IsStated (walks_of m via_cost b o q) starts goals w) none s))

pub one_way_out : (m : Mesh) (via_cost : ℕ) (b : BoardOf) (island : Island) (others : List Island) (id : ℕ)
    (o p : Offer) → TakesOut o id → TakesOut p id → o.penalty ≡ None → p.penalty ≡ None → o.net ≡ p.net
    → LaysStated m via_cost b o island others → LaysStated m via_cost b p island others → o.add ≡ p.add
one_way_out m via_cost b island others id o p to tp fo fp net_is lo lp =
    let v = lo.joins.walk in
    let w = lp.joins.walk in
    let same : v ≡ w = are_one (legal_graph b.design m (without (id ∷ []) b.items) p.net via_cost)
    lo.joins.starts lo.joins.goals lp.joins.starts lp.joins.goals v w
    (λ n. (
      λ h. (lp.joins.starts_are n).1
          (start_moves m b o p id island to tp fo fp net_is n ((lo.joins.starts_are n).0 h)),
      λ h. (lo.joins.starts_are n).1
          (start_moves m b p o id island tp to fp fo (sym net_is) n ((lp.joins.starts_are n).0 h)),
    ))
    (λ n. (
      λ h. (lp.joins.goals_are n).1 ((lo.joins.goals_are n).0 h),
      λ h. (lo.joins.goals_are n).1 ((lp.joins.goals_are n).0 h),
    ))
    (stated_on m via_cost b o id p.net lo.joins.starts lo.joins.goals v to fo net_is lo.stated)
    (stated_on m via_cost b p id p.net lp.joins.starts lp.joins.goals w tp fp (λ i. p.net) lp.stated) in
    lo.joins.add_is ∙ (λ i. copper_of b.design m (net_is i) (same i).nodes (same i).moves) ∙ sym lp.joins.add_is

-- ---- a wire is moved aside
-- the board without the wire, and with it where it is moved to, under some id
pub moved_on : (b : BoardOf) (o : Offer) (s : Shoved) → o.rip ≡ [] → o.shoves ≡ s ∷ []
    → cleared b o ≡ beside b.design (without (s.id ∷ []) b.items) (item_at (given b) s.id) s.chain
    (length (given b) + length o.add)
moved_on b o s rip shoves =
    λ i. without (rip i ++ map (λ (t : Shoved). t.id) (shoves i)) b.items ++ replaced_from b.design
    (given b) (length (given b) + length o.add) (shoves i)

module _ (m : Mesh) (via_cost : ℕ) (b : BoardOf) (s : Shoved) (island : Island) (others : List Island) where
  -- the board with the wire under the id k
  abbrev on : ℕ → List Item
  on k = beside b.design (without (s.id ∷ []) b.items) (item_at (given b) s.id) s.chain k

  abbrev id_of : Offer → ℕ
  id_of o = length (given b) + length o.add

  judged_aside : (o : Offer) → o.rip ≡ [] → o.shoves ≡ s ∷ [] → o.penalty ≡ None
      → judged_on b o o.penalty ≡ on (id_of o)
  judged_aside o rip shoves none = ap (judged_on b o) none ∙ moved_on b o s rip shoves

  start_aside : (o p : Offer) → o.rip ≡ [] → p.rip ≡ [] → o.shoves ≡ s ∷ [] → p.shoves ≡ s ∷ [] → o.penalty ≡ None
      → p.penalty ≡ None → o.net ≡ p.net → (node : ℕ) → IsStartOf b m o island node → IsStartOf b m p island node
  start_aside o p ro rp so sp fo fp net_is node st = record {
    there = st.there;
    anchors = st.anchors;
    legal = subst (λ (n : ℕ). IsLegalNode b.design m (judged_on b p p.penalty) n node) net_is
        (subst (λ (xs : List Item). IsLegalNode b.design m xs o.net node) (sym (judged_aside p rp sp fp))
        ((ids_change_nothing b.design m o.net via_cost (without (s.id ∷ []) b.items) (item_at (given b) s.id) s.chain
        (id_of o) (id_of p)).1 node
        (subst (λ (xs : List Item). IsLegalNode b.design m xs o.net node) (judged_aside o ro so fo) st.legal)));
  }

  stated_aside : (o : Offer) (net : ℕ) (starts goals : List ℕ) (w : Walk) → o.rip ≡ [] → o.shoves ≡ s ∷ []
      → o.penalty ≡ None → o.net ≡ net → IsStated (walks_of m via_cost b o o.penalty) starts goals w
      → IsStated (legal_graph b.design m (on 0) net via_cost) starts goals w
  stated_aside o net starts goals w rip shoves none net_is st =
      subst (λ (n : ℕ). IsStated (legal_graph b.design m (on 0) n via_cost) starts goals w) net_is
      (stated_beside b.design m o.net via_cost (without (s.id ∷ []) b.items) (item_at (given b) s.id) s.chain
      (id_of o) 0
      starts goals w
      (subst (λ (xs : List Item). IsStated (legal_graph b.design m xs o.net via_cost) starts goals w)
      (moved_on b o s rip shoves)
      (subst (λ (q : Option ℕ). IsStated (walks_of m via_cost b o q) starts goals w) none st)))

  pub one_way_aside : (o p : Offer) → o.rip ≡ [] → p.rip ≡ [] → o.shoves ≡ s ∷ [] → p.shoves ≡ s ∷ []
      → o.penalty ≡ None → p.penalty ≡ None → o.net ≡ p.net → LaysStated m via_cost b o island others
      → LaysStated m via_cost b p island others → o.add ≡ p.add
  one_way_aside o p ro rp so sp fo fp net_is lo lp =
      let v = lo.joins.walk in
      let w = lp.joins.walk in
      let same : v ≡ w = are_one (legal_graph b.design m (on 0) p.net via_cost)
      lo.joins.starts lo.joins.goals lp.joins.starts lp.joins.goals v w
      (λ n. (
        λ h. (lp.joins.starts_are n).1
            (start_aside o p ro rp so sp fo fp net_is n ((lo.joins.starts_are n).0 h)),
        λ h. (lo.joins.starts_are n).1
            (start_aside p o rp ro sp so fp fo (sym net_is) n ((lp.joins.starts_are n).0 h)),
      ))
      (λ n. (
        λ h. (lp.joins.goals_are n).1 ((lo.joins.goals_are n).0 h),
        λ h. (lo.joins.goals_are n).1 ((lp.joins.goals_are n).0 h),
      ))
      (stated_aside o p.net lo.joins.starts lo.joins.goals v ro so fo net_is lo.stated)
      (stated_aside p p.net lp.joins.starts lp.joins.goals w rp sp fp (λ i. p.net) lp.stated) in
      lo.joins.add_is ∙ (λ i. copper_of b.design m (net_is i) (same i).nodes (same i).moves) ∙ sym lp.joins.add_is
