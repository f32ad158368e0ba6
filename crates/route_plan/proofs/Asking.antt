-- What a planner is asked, for the plans that it makes.
use Rattle.std.proofs.Common.{◌≡◌, ℕ, Option, Some, refl, sym, ◌∙◌, subst}
use Rattle.pcb_model.specs.declared.design.Design.{Design}
use Rattle.route_lattice.specs.Mesh.{Mesh}
use Rattle.route_lattice.specs.Legal.{legal_graph}
use Rattle.ripup.specs.Rips.{CanRip, rip_graph}
use Rattle.cut_certificate.specs.Same.{SameMoves}
use Rattle.cut_certificate.proofs.Same.{same_self}
use Rattle.pcb_board.specs.Boards.{SnapOf}
use Rattle.route_plan.specs.Planners.{PlannerOf, CanSearch, CanAsk, planner_of}
use Rattle.route_plan.specs.Plans.{CanPlan}

-- what a plan asks
pub plan_asks : (d : Design) (m : Mesh) (s : SnapOf) (net via_cost worker : ℕ) (penalty : Option ℕ) (p : PlannerOf)
    → CanSearch m s via_cost worker → s.design ≡ d → planner_of m s via_cost worker ≡ p → CanAsk p net penalty
    → CanPlan d m s net via_cost penalty
plan_asks d m s net via_cost worker penalty p can own is asks =
    let mine : CanAsk (planner_of m s via_cost worker) net penalty = subst (λ (y : PlannerOf). CanAsk y net penalty)
    (sym is) asks in
    subst (λ (e : Design). CanPlan e m s net via_cost penalty) own (record {
      sound = can.sound;
      plain = can.plain;
      fits = can.fits;
      own = refl;
      serves = can.serves;
      net_there = mine.net_there;
      small_cost = can.small_cost;
      small_penalty = mine.small_penalty;
    })

-- what its moves past routed items ask
pub rip_asks : (d : Design) (m : Mesh) (s : SnapOf) (net via_cost worker penalty : ℕ) (p : PlannerOf)
    → CanSearch m s via_cost worker → s.design ≡ d → planner_of m s via_cost worker ≡ p → CanAsk p net (Some penalty)
    → CanRip d m net via_cost penalty
rip_asks d m s net via_cost worker penalty p can own is asks =
    let plan = plan_asks d m s net via_cost worker (Some penalty) p can own is asks in
    record {
      can_move = record {
        sound = plan.sound;
        fits = plan.fits;
        net_there = plan.net_there;
        small_cost = plan.small_cost;
      };
      small_penalty = plan.small_penalty;
    }

module _ (d e : Design) (m n : Mesh) (s t : SnapOf) (net k via_cost c worker : ℕ) (p : PlannerOf) (d_is : e ≡ d)
    (m_is : n ≡ m) (s_is : t ≡ s) (net_is : k ≡ net) (cost_is : c ≡ via_cost) (own : s.design ≡ d)
    (is : planner_of m s via_cost worker ≡ p) where
  -- legal moves of these parts are those of the planner's
  pub legal_same :
      SameMoves (legal_graph e n t.items k c) (legal_graph p.snap.design p.lat p.snap.items net p.via_cost)
  legal_same =
      subst (λ (y : PlannerOf). SameMoves (legal_graph e n t.items k c)
      (legal_graph y.snap.design y.lat y.snap.items net y.via_cost)) is
      (subst (λ (y : Design × Mesh × SnapOf × ℕ × ℕ). SameMoves (legal_graph y.0 y.1 y.2.items y.3 y.4)
      (legal_graph s.design m s.items net via_cost))
      (λ i. (sym (d_is ∙ sym own) i, sym m_is i, sym s_is i, sym net_is i, sym cost_is i))
      (same_self (legal_graph s.design m s.items net via_cost)))

  -- and so are moves past routed items
  pub rip_same : (penalty q : ℕ) → q ≡ penalty → SameMoves (rip_graph e n t.items k c q)
      (rip_graph p.snap.design p.lat p.snap.items net p.via_cost penalty)
  rip_same penalty q penalty_is =
      subst (λ (y : PlannerOf). SameMoves (rip_graph e n t.items k c q)
      (rip_graph y.snap.design y.lat y.snap.items net y.via_cost penalty)) is
      (subst (λ (y : Design × Mesh × SnapOf × ℕ × ℕ × ℕ). SameMoves (rip_graph y.0 y.1 y.2.items y.3 y.4 y.5)
      (rip_graph s.design m s.items net via_cost penalty))
      (λ i. (sym (d_is ∙ sym own) i, sym m_is i, sym s_is i, sym net_is i, sym cost_is i, sym penalty_is i))
      (same_self (rip_graph s.design m s.items net via_cost penalty)))
