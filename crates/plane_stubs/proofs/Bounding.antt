-- What is left of a walk to the last node of the graph of stubs: a via at least.
use Rattle.std.proofs.Common.{◌≡◌, ℕ, zero, suc, ◌<◌, ◌≤◌, ◌+◌, ◌^◌, arith, refl, sym, ap, ◌∙◌, Bool, true, false, cond}
use Rattle.std.proofs.Common.{[], ◌∷◌, Contains, Option, Some, None}
use Rattle.std.specs.Prelude.{nat_lt}
use Rattle.std.proofs.lemmas.Bool.{le-ltb, lt-ltb, ltb-false, ltb-true}
use Rattle.route_lattice.specs.declared.moves.Move.{Move}
use Rattle.route_lattice.specs.Legal.{way_price}
use Rattle.route_lattice.specs.Mesh.{node_count}
use Rattle.route_lattice.specs.Walks.{Hop, IsSound, Opens}
use Rattle.route_lattice.specs.Ways.{way, way_count}
use Rattle.wave_search.specs.Bounds.{IsBound}
use Rattle.plane_joins.specs.Stubs.{RibGround, moves_on}
use Rattle.plane_joins.specs.inner.Graph.{stub_graph, stub_price, to_last}
use Rattle.plane_stubs.proofs.Ending.{only_one}

module _ (g : RibGround) (net : ℕ) where
  abbrev nodes : ℕ
  nodes = node_count g.lat

  abbrev ways : ℕ
  ways = way_count g.d g.lat net

  abbrev way_at : ℕ → ℕ → Option (Move × ℕ)
  way_at node i = way g.d g.lat net node i

  way_first : (node i : ℕ) → node < nodes → i < ways
      → cond (nat_lt node nodes) (cond (nat_lt i ways) (way_at node i) (Some (to_last g))) None ≡ way_at node i
  way_first node i h k =
      ap (λ (b : Bool). cond b (cond (nat_lt i ways) (way_at node i) (Some (to_last g))) None) (lt-ltb node nodes h)
      ∙ ap (λ (b : Bool). cond b (way_at node i) (Some (to_last g))) (lt-ltb i ways k)

  price_later : (node i : ℕ) → node < nodes → ways ≤ i → stub_price g net node i ≡ g.via_cost
  price_later node i h k =
      ap (λ (b : Bool).
      cond b (cond (nat_lt i ways) (way_price g.lat g.via_cost node (way_at node i)) g.via_cost) 0)
      (lt-ltb node nodes h)
      ∙ ap (λ (b : Bool). cond b (way_price g.lat g.via_cost node (way_at node i)) g.via_cost) (le-ltb i ways k)

  abbrev left : ℕ → ℕ
  left node = cond (nat_lt node nodes) g.via_cost 0

  left_first : (node : ℕ) → node < nodes → left node ≡ g.via_cost
  left_first node h = ap (λ (b : Bool). cond b g.via_cost 0) (lt-ltb node nodes h)

  left_last : (node : ℕ) → nodes ≤ node → left node ≡ 0
  left_last node h = ap (λ (b : Bool). cond b g.via_cost 0) (le-ltb node nodes h)

  -- a hop to the last node costs a via
  last_hop : IsSound (moves_on g net) → (node : ℕ) (h : Hop) → node < nodes → Opens (stub_graph g net) node h
      → nodes ≤ h.to → h.price ≡ g.via_cost
  last_hop sound node h there o past = by (nat_lt h.index ways) refl
    where
      by : (b : Bool) → nat_lt h.index ways ≡ b → h.price ≡ g.via_cost
      by true e =
          let first = ltb-true h.index ways e in
          let below = sound.leads node h.index h.move h.to there first
          (sym (way_first node h.index there first) ∙ o.leads) in
          absurd (omega (arith, past, below))
      by false e = o.costs ∙ price_later node h.index there (ltb-false h.index ways e)

  left_falls : IsSound (moves_on g net) → (node : ℕ) (h : Hop) → Opens (stub_graph g net) node h
      → left node ≤ h.price + left h.to
  left_falls sound node h o = by (nat_lt h.to nodes) refl
    where
      here : left node ≡ g.via_cost
      here = left_first node o.is_open.within

      by : (b : Bool) → nat_lt h.to nodes ≡ b → left node ≤ h.price + left h.to
      by true e = let to = left_first h.to (ltb-true h.to nodes e) in omega (arith, here, to)
      by false e =
          let price = last_hop sound node h o.is_open.within o (ltb-false h.to nodes e) in
          omega (arith, here, price)

  pub left_bound : IsSound (moves_on g net) → g.via_cost ≤ 2 ^ 30 → IsBound (stub_graph g net) (nodes ∷ []) left
  left_bound sound small = record {
    limit = λ node h. by node (nat_lt node nodes) refl;
    at_goals = λ goal there. let e = only_one nodes goal there in left_last goal (omega (arith, e));
    falls = λ node h there o. left_falls sound node h o;
  }
    where
      by : (node : ℕ) (b : Bool) → nat_lt node nodes ≡ b → left node ≤ 2 ^ 60
      by node true e = let is = left_first node (ltb-true node nodes e) in omega (arith, is, small)
      by node false e = let is = left_last node (ltb-false node nodes e) in omega (arith, is)
