-- What moves with diagonals reach from all that legal moves reach, they reach from the starts.
use Rattle.std.proofs.Common.{◌≡◌, ℕ, ◌+◌, ◌-◌, ◌≤◌, inl, inr, List, [], ◌∷◌, ◌++◌, Option, Some, None, refl}
use Rattle.std.proofs.Common.{sym, ap, ◌∙◌, subst, arith}
use Rattle.std.specs.Prelude.{Contains}
use Rattle.std.specs.Option.{option_map}
use Rattle.pcb_model.specs.declared.item.Item.{Item}
use Rattle.pcb_model.specs.declared.item.Probe.{Probe}
use Rattle.pcb_model.specs.declared.design.Design.{Design}
use Rattle.route_lattice.specs.declared.moves.Move.{Move}
use Rattle.route_lattice.specs.Mesh.{Mesh}
use Rattle.route_lattice.specs.Walks.{MoveGraph, Hop, Opens, Leads, Reaches, IsReach}
use Rattle.route_lattice.specs.Ways.{way_count}
use Rattle.route_lattice.specs.Legal.{IsOpen, probe_of, legal_graph}
use Rattle.path_wire.specs.Diagonals.{wide_way, wide_probe_at, wide_price, wide_graph}
use Rattle.diag_moves.specs.Slopes.{slant_graph}
use Rattle.diag_moves.proofs.Wide.{either_side, way_first, price_first, opens_legal}

-- one chain of moves after another
pub leads_on : (graph : MoveGraph) (hs : List Hop) (a b c : ℕ) (more : List Hop) → Leads graph a hs b
    → Leads graph b more c → Leads graph a (hs ++ more) c
leads_on graph [] a b c more e l = subst (λ (v : ℕ). Leads graph v more c) (sym e) l
leads_on graph (h ∷ hs) a b c more l k = (l.0, leads_on graph hs h.to b c more l.1 k)

-- a start is reached by no move
start_reached : (graph : MoveGraph) (starts : List ℕ) (s : ℕ) → Contains starts s → Reaches graph starts s
start_reached graph starts s there = (s, [], there, refl)

module _ (d : Design) (m : Mesh) (items : List Item) (net via_cost : ℕ) where
  -- a legal move is one of all
  pub opens_wide : (v : ℕ) (h : Hop) → Opens (legal_graph d m items net via_cost) v h
      → Opens (wide_graph d m items net via_cost) v h
  opens_wide v h o = record {
    listed = let l = o.listed in omega (arith, l);
    leads = way_first d m net v h.index o.listed ∙ o.leads;
    is_open = subst (λ (x : Option (Move × ℕ)).
        IsOpen d items net (option_map (λ (w : Move × ℕ). probe_of d m net v w.0 w.1) x))
        (sym (way_first d m net v h.index o.listed)) o.is_open;
    costs = o.costs ∙ sym (price_first d m net v h.index via_cost o.listed);
  }

  -- so a walk over legal moves is one over all
  pub leads_wide : (hs : List Hop) (a b : ℕ) → Leads (legal_graph d m items net via_cost) a hs b
      → Leads (wide_graph d m items net via_cost) a hs b
  leads_wide [] a b l = l
  leads_wide (h ∷ hs) a b l = (opens_wide a h l.0, leads_wide hs h.to b l.1)

  -- what all moves reach from what legal moves reach, they reach from the starts
  pub reach_from : (starts legal nodes : List ℕ) → IsReach (legal_graph d m items net via_cost) starts legal
      → IsReach (wide_graph d m items net via_cost) legal nodes
      → IsReach (wide_graph d m items net via_cost) starts nodes
  reach_from starts legal nodes first second = record {
    ascends = second.ascends;
    reached = λ v there.
        let r = second.reached v there in
        let p = first.reached r.0 r.2 in (
          p.0,
          p.1 ++ r.1,
          p.2,
          leads_on (wide_graph d m items net via_cost) p.1 p.0 r.0 v r.1
              (leads_wide p.1 p.0 r.0 p.3) r.3,
        );
    complete = λ v r. second.complete v
        (r.0, r.1, first.complete r.0 (start_reached (legal_graph d m items net via_cost) starts r.0 r.2), r.3);
  }

  -- ---- copper only takes moves away
  module _ (later : List Item) (grown : (x : Item) → Contains items x → Contains later x) where
    -- what agrees with later copper agrees with that before
    open_before : (o : Option Probe) → IsOpen d later net o → IsOpen d items net o
    open_before None h = absurd h
    open_before (Some p) h = record { agrees = λ b there. h.agrees b (grown b there); inside = h.inside }

    pub leads_before : (hs : List Hop) (a b : ℕ) → Leads (wide_graph d m later net via_cost) a hs b
        → Leads (wide_graph d m items net via_cost) a hs b
    leads_before [] a b l = l
    leads_before (h ∷ hs) a b l = (
      record {
        listed = l.0.listed;
        leads = l.0.leads;
        is_open = open_before (wide_probe_at d m net a h.index) l.0.is_open;
        costs = l.0.costs;
      },
      leads_before hs h.to b l.1,
    )

-- ---- the diagonals alone
module _ (d : Design) (m : Mesh) (items : List Item) (net via_cost : ℕ) where
  abbrev n : ℕ
  n = way_count d m net

  -- a move that isn't a legal one is one of them
  opens_slant : (v : ℕ) (h : Hop) → n ≤ h.index → Opens (wide_graph d m items net via_cost) v h
      → Opens (slant_graph d m items net via_cost) v (record h { index = h.index - n })
  opens_slant v h last o =
      let same : n + (h.index - n) ≡ h.index = omega (arith, last) in
      record {
        listed = let l = o.listed in omega (arith, l, last);
        leads = ap (λ (i : ℕ). wide_way d m net v i) same ∙ o.leads;
        is_open = subst (λ (i : ℕ). IsOpen d items net (wide_probe_at d m net v i)) (sym same) o.is_open;
        costs = o.costs ∙ ap (λ (i : ℕ). wide_price d m net via_cost v i) (sym same);
      }

  module _ (starts nodes : List ℕ) (legal : IsReach (legal_graph d m items net via_cost) starts nodes)
      (slants : IsReach (slant_graph d m items net via_cost) nodes nodes) where
    -- one move more stays among the nodes
    next_in : (v : ℕ) (h : Hop) → Contains nodes v → Opens (wide_graph d m items net via_cost) v h
        → Contains nodes h.to
    next_in v h v_in o = elim (either_side h.index n) [
      | inl first ↦
          let r = legal.reached v v_in in
          legal.complete h.to (
            r.0,
            r.1 ++ h ∷ [],
            r.2,
            leads_on (legal_graph d m items net via_cost) r.1 r.0 v h.to
                (h ∷ []) r.3 (opens_legal d m items net via_cost v h o first, refl),
          )
      | inr last ↦
          slants.complete h.to (v, (record h { index = h.index - n }) ∷ [], v_in, (opens_slant v h last o, refl))
    ]

    -- a walk doesn't leave them
    walk_in : (hs : List Hop) (a b : ℕ) → Contains nodes a → Leads (wide_graph d m items net via_cost) a hs b
        → Contains nodes b
    walk_in [] a b a_in e = subst (Contains nodes) e a_in
    walk_in (h ∷ hs) a b a_in l = walk_in hs h.to b (next_in a h a_in l.0) l.1

    -- so they are all that both kinds of move reach
    pub whole_reach : IsReach (wide_graph d m items net via_cost) starts nodes
    whole_reach = record {
      ascends = legal.ascends;
      reached = λ v v_in. let r = legal.reached v v_in in
          (r.0, r.1, r.2, leads_wide d m items net via_cost r.1 r.0 v r.3);
      complete = λ v r. walk_in r.1 r.0 v
          (legal.complete r.0 (start_reached (legal_graph d m items net via_cost) starts r.0 r.2))
          r.3;
    }
