-- What is reached is closed, and a walk doesn't leave a cut.
use Rattle.std.proofs.Common.{ℕ, ◌<◌, List, [], ◌∷◌, ◌++◌, get_or, Option, Some, None, sym, subst, All}
use Rattle.std.specs.Prelude.{Contains}
use Rattle.std.proofs.lemmas.List.Elements.{All-contains, All-contains_itself}
use Rattle.route_lattice.specs.Walks.{MoveGraph, IsSound, Hop, Leads, Reaches, IsReach}
use Rattle.cut_certificate.proofs.Flooding.{leads_on, reach_tells}
use Rattle.cut_certificate.specs.declared.cut.Blocker.{Blocker}
use Rattle.cut_certificate.specs.declared.cut.Block.{Block}
use Rattle.cut_certificate.specs.Border.{IsListed, IsBlock, AreBlocks}
use Rattle.cut_certificate.specs.declared.border.Border.{Border}
use Rattle.cut_certificate.specs.inner.Listing.{IsClosed, IsBorder, Closes}

module _ (graph : MoveGraph) where
  -- a walk stays among the nodes of the graph
  in_range : IsSound graph → (hs : List Hop) (a b : ℕ) → a < graph.count → Leads graph a hs b → b < graph.count
  in_range sound [] a b h p = subst (λ (x : ℕ). x < graph.count) p h
  in_range sound (k ∷ hs) a b h p = in_range sound hs k.to b
      (sound.leads a k.index k.move k.to h p.0.listed p.0.leads) p.1

  pub reach_in_range : (starts nodes : List ℕ) → IsSound graph → All (λ s. s < graph.count) starts
      → IsReach graph starts nodes → All (λ v. v < graph.count) nodes
  reach_in_range starts nodes sound s r k d h =
      let w : Reaches graph starts (get_or nodes k d) =
      r.reached (get_or nodes k d) (All-contains_itself nodes k d h) in
      in_range sound w.1 w.0 (get_or nodes k d) (All-contains (λ x. x < graph.count) starts w.0 s w.2) w.3

  -- no open move leads out of what is reached
  pub reach_is_closed : (priced : (node i : ℕ) → node < graph.count → i < graph.arity → (p : ℕ) × graph.priced node i p)
      (starts nodes : List ℕ) → IsSound graph → All (λ s. s < graph.count) starts → IsReach graph starts nodes
      → IsClosed graph.at graph.arity graph.open_at nodes
  reach_is_closed priced starts nodes sound s r = record {
    each = λ node index c lt out is_open.
        let w : Reaches graph starts node = r.reached node c in
        let there : node < graph.count = in_range sound w.1 w.0 node
        (All-contains (λ x. x < graph.count) starts w.0 s w.2) w.3 in
        let cost = priced node index there lt in
        let hop : Hop = record { index = index; move = out.move; to = out.to; price = cost.0 } in
        out.outside (r.complete out.to (
          w.0,
          w.1 ++ hop ∷ [],
          w.2,
          leads_on graph w.1 w.0 node hop w.3
              (record { listed = lt; leads = out.leads; is_open = is_open; costs = cost.1 }),
        ));
  }

  -- a walk from a node of the set meets no goal, where what leads out is shut
  module _ (ShutBy : ℕ → ℕ → Blocker → Type 0) (shut : (node i : ℕ) (by : Blocker) → ShutBy node i by
      → graph.open_at node i → ⊥) (nodes : List ℕ) (blocked : List Block)
      (blocks : AreBlocks graph.at graph.arity ShutBy nodes blocked) where
    pub stays : (hs : List Hop) (a g : ℕ) → Contains nodes a → (Contains nodes g → ⊥) → Leads graph a hs g → ⊥
    stays [] a g c out p = out (subst (Contains nodes) p c)
    stays (h ∷ hs) a g c out p =
        let listed : IsListed blocked a h.index =
        blocks.complete a h.index c p.0.listed
        (record { move = h.move; to = h.to; leads = p.0.leads; outside = λ w. stays hs h.to g w out p.1 }) in
        let b : IsBlock graph.at graph.arity ShutBy nodes listed.1 =
        subst (IsBlock graph.at graph.arity ShutBy nodes) listed.3 (blocks.only listed.0 listed.1 listed.2) in
        shut listed.1.node listed.1.index listed.1.by b.shut
        (subst (λ (y : ℕ × ℕ). graph.open_at y.0 y.1) (λ i. (sym listed.4.0 i, sym listed.4.1 i)) p.0.is_open)

  -- the border of all that is reached
  pub border_closes : (ShutBy : ℕ → ℕ → Blocker → Type 0) (starts goals nodes : List ℕ) → IsReach graph starts nodes
      → (o : Option Border) → IsBorder graph ShutBy nodes goals o → Closes graph ShutBy starts goals o
  border_closes ShutBy starts goals nodes r None m = (reach_tells graph starts goals nodes r).met m
  border_closes ShutBy starts goals nodes r (Some b) w = (
    (reach_tells graph starts goals nodes r).missed w.0,
    subst (IsReach graph starts) (sym w.1) r,
    subst (λ xs. AreBlocks graph.at graph.arity ShutBy xs b.blocked) (sym w.1) w.2,
  )
